-- The take of a chunk by a chunked node, against the same in plain data.
use Rattle.std.proofs.Common.{◌≡◌, ◌+◌, ◌^◌, ◌<◌, ℕ, Bool, true, false, List, [], ◌∷◌, length, None, refl, inl, inr}
use Rattle.vx_path.specs.Path.{Eof, under, inside, next}
use Rattle.vx_model.specs.Ty.{Ty}
use Rattle.vx_model.specs.ChunkData.{cells}
use Rattle.vx_plan.specs.PlanData.{Setting}
use Rattle.vx_machine_turns.specs.Forms.{Form}
use Rattle.vx_machine_turns.specs.Starts.{start_fault}
use Rattle.vx_machine_state.specs.State.{Next, by_chunk, Tasks}
use Rattle.vx_machine_state.specs.Start.{first_indices, started_task}
use Rattle.vx_machine_state.specs.Acts.{count, add}
use Rattle.vx_write_answer.specs.declared.error.WriteError.{WriteError}
use Rattle.vx_write_answer.specs.declared.error.WriteError.TheVariants.{SourceFault, SinkFault, CompressFault, BatchType, NotStruct, DuplicateField, ManyChunks, EmptyList, ZoneCut, ForbiddenAggregate, ForbiddenEncoding, TooLarge, OutOfMemory, Stopped}
use Rattle.vx_machine_node.specs.declared.item.Item.{Item}
use Rattle.vx_machine_nodes.specs.Acting.{taken, Took, TakeRefused, SplitRefused}
use Rattle.vx_machine_node.specs.Context.{Allowed}
use Rattle.vx_machine_node.specs.Outcome.{AllFit}
use Rattle.vx_machine_start.specs.Starting.{StartRefused}
use Rattle.vx_machine_node.specs.View.{item_of}
use Rattle.vx_machine_node.proofs.Fitting.{then_fit}
use Rattle.vx_machine_nodes.proofs.RefusalSteps.{by_rows}

module _ (s : Setting) (name : List ℕ) (ks : Tasks) (i : Item) (m : Bool) (t : Ty) (f : Form) (e : Eof) (rows : ℕ) where
  pub chunked_took : (d : Eof) (now_rows : ℕ) (kids : Tasks) (todo : List Next) → start_fault s f m ≡ None → d ≡ next e → now_rows ≡ rows + length (cells i.chunk)
      → rows + length (cells i.chunk) < 2 ^ 64 → AllFit ((e.last + 1) ∷ first_indices f m (inside e))
      → kids ≡ add ks (started_task f m (under name (count ks)) (inside e) (item_of i ∷ []) true)
      → Took (taken s name ks (item_of i) (by_chunk m t f e rows)) (by_chunk m t f d now_rows) todo todo kids
  chunked_took d now_rows kids todo a b c fits far k = record {
    unrefused = a;
    fits = refl;
    mind_is = λ j. by_chunk m t f (b j) (c j);
    todo_is = refl;
    kids_are = k;
    counted = then_fit (rows + length (cells i.chunk)) ((e.last + 1) ∷ first_indices f m (inside e)) fits far;
  }

  -- its child can't start
  pub start_why : (b : Allowed) (x : WriteError) → s.allowed ≡ b → StartRefused b (λ z. start_fault z f m) ((e.last + 1) ∷ first_indices f m (inside e)) x → TakeRefused (taken s name ks (item_of i) (by_chunk m t f e rows)) x
  start_why b SourceFault q h = absurd h
  start_why b SinkFault q h = absurd h
  start_why b CompressFault q h = absurd h
  start_why b (BatchType c) q h = absurd h
  start_why b NotStruct q h = h s q
  start_why b (DuplicateField a) q h = h s q
  start_why b ManyChunks q h = absurd h
  start_why b EmptyList q h = absurd h
  start_why b (ZoneCut k) q h = absurd h
  start_why b (ForbiddenAggregate id) q h = h s q
  start_why b (ForbiddenEncoding id) q h = absurd h
  start_why b (TooLarge n) q h = inl (inr (h.1.0, h.1.1, h.1.2, h.0))
  start_why b OutOfMemory q h = tt
  start_why b (Stopped by a) q h = absurd h

  -- its rows are too many
  pub chunked_why : (x : WriteError) → SplitRefused false (rows + length (cells i.chunk)) x → TakeRefused (taken s name ks (item_of i) (by_chunk m t f e rows)) x
  chunked_why x h = by_rows (start_fault s f m) false (rows + length (cells i.chunk)) ((e.last + 1) ∷ first_indices f m (inside e)) x h
