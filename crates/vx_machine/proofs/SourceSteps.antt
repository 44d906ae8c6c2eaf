-- What the source's act is, against its step in plain data.
use Rattle.std.proofs.Common.{◌≡◌, ℕ, ◌+◌, ◌<◌, ◌^◌, false, true, List, [], ◌∷◌, Option, None, option_map, Result, IfOk, IfErr, inl, inr, refl, sym, ap, subst, ◌∙◌, arith}
use Rattle.std.proofs.lemmas.Result.{IfOk-weaker, IfErr-weaker}
use Rattle.vx_model.specs.Ty.{Ty}
use Rattle.vx_model.specs.ChunkData.{ChunkData, piece_type}
use Rattle.vx_path.specs.Path.{Eof, eof_path, next}
use Rattle.vx_named_tasks.specs.Names.{Names, onward, handed}
use Rattle.vx_layout_spec.specs.Real.{Whole}
use Rattle.vx_fault.specs.Told.{NoneTold}
use Rattle.vx_order_answer.specs.declared.errors.OrderError.{OrderError}
use Rattle.vx_order_answer.specs.declared.errors.OrderError.TheVariants as order
use Rattle.vx_order.specs.Answers.{FullAt}
use Rattle.vx_sink.specs.declared.source.SourceError.{SourceError}
use Rattle.vx_sink.specs.declared.source.SourceError.TheVariants as source
use Rattle.vx_write_answer.specs.declared.step.ActionKind.{ActionKind}
use Rattle.vx_write_answer.specs.declared.step.ActionKind.TheVariants.{Batch, End, Put, Close}
use Rattle.vx_write_answer.specs.declared.error.WriteError.{WriteError}
use Rattle.vx_write_answer.specs.declared.error.WriteError.TheVariants.{SourceFault, SinkFault, CompressFault, BatchType, NotStruct, DuplicateField, ManyChunks, EmptyList, ZoneCut, ForbiddenAggregate, ForbiddenEncoding, TooLarge, OutOfMemory, Stopped}
use Rattle.vx_write_answer.specs.Causes.{of_source, of_order}
use Rattle.vx_plan.specs.PlanData.{Item as Piece}
use Rattle.vx_machine_promises.specs.Write.{unasked, came, over}
use Rattle.vx_machine_state.specs.State.{Tasks, no_tasks, task_then}
use Rattle.vx_machine_state.specs.Acts.{with_item, shut_desk, give, shut_all}
use Rattle.vx_machine_view.specs.Machine.{Phase, reading, giving, closing, finished}
use Rattle.vx_machine.specs.declared.source.Phase as held
use Rattle.vx_machine_task.specs.declared.task.Task.{Task, out-Task}
use Rattle.vx_machine_node.specs.Outcome.{Refused, none_past}
use Rattle.vx_machine.specs.Source.{SourceMay, ReadsNone, NoNumber}
use Rattle.vx_machine.specs.SourceActs.{IsLate, whole_at, SourceActed, SourceRefused, ReadActed, ReadRefused}
use Rattle.vx_machine_task.specs.View.{desk_of, task_row, row}
use Rattle.vx_machine.specs.View.{phase_of}
use Rattle.vx_machine_node.proofs.Fitting.{none_fit, one_fits}
use Rattle.vx_machine_task.proofs.ViewParts.{row_out}

pub no_number : (e : SourceError) → NoNumber (of_source e)
no_number source.Failed = tt
no_number source.OutOfMemory = tt

-- nothing that is told refuses a read, and else another type does
read_cause : (t : Ty) (e : WriteError) → SourceMay t e → NoNumber e → Refused None true [] [] [] none_past ⊥ [] e
read_cause t SourceFault h k = tt
read_cause t SinkFault h k = absurd h
read_cause t CompressFault h k = absurd h
read_cause t (BatchType c) h k = refl
read_cause t NotStruct h k = absurd h
read_cause t (DuplicateField name) h k = absurd h
read_cause t ManyChunks h k = absurd h
read_cause t EmptyList h k = absurd h
read_cause t (ZoneCut n) h k = absurd h
read_cause t (ForbiddenAggregate id) h k = absurd h
read_cause t (ForbiddenEncoding id) h k = absurd h
read_cause t (TooLarge n) h k = absurd k
read_cause t OutOfMemory h k = tt
read_cause t (Stopped by name) h k = absurd h

full_cause : (last : ℕ) (x : OrderError) → FullAt last x → Refused None false [] ((last + 1) ∷ []) [] none_past ⊥ [] (of_order x)
full_cause last (order.TooLarge n) h = inl (inr (last + 1, inl refl, omega (arith, h.1), h.0))
full_cause last order.SinkFault h = absurd h
full_cause last order.OutOfMemory h = tt
full_cause last (order.Stopped by name) h = absurd h

module _ (t : Ty) (before now : Option (List ChunkData)) where
  -- ---- a read

  -- a batch, whose path is the pointer's
  pub gives : (e d : Eof) (id : List ℕ) (b : ChunkData) → before ≡ option_map (λ cs. b ∷ cs) now → piece_type b ≡ t → Whole b → id ≡ eof_path e → d ≡ next e → e.last + 1 < 2 ^ 64
      → ReadActed t before now (onward e) (giving (onward d) (id, b)) Batch
  gives e d id b r y h i n f = λ root. record {
    told = came b;
    asks = tt;
    tells = (r, record { typed = y; whole = h });
    kind = refl;
    fits = refl;
    counted = one_fits (e.last + 1) f;
    left = λ j. whole_at (giving (onward (n j)) (i j, b)) root;
  }

  -- or the first of the ids
  pub hands : (all ids : List (List ℕ)) (id : List ℕ) (b : ChunkData) → before ≡ option_map (λ cs. b ∷ cs) now → piece_type b ≡ t → Whole b → all ≡ id ∷ ids
      → ReadActed t before now (handed all) (giving (handed ids) (id, b)) Batch
  hands all ids id b r y h is = subst (λ z. ReadActed t before now (handed z) (giving (handed ids) (id, b)) Batch) (sym is) (λ root. record {
    told = came b;
    asks = tt;
    tells = (r, record { typed = y; whole = h });
    kind = refl;
    fits = refl;
    counted = none_fit;
    left = refl;
  })

  pub ends : (ns : Names) → (now ≡ before) × NoneTold now → ReadActed t before now ns closing End
  ends ns h = λ root. record { told = over; asks = tt; tells = h; kind = refl; fits = refl; counted = none_fit; left = refl }

  pub refuses : (ns : Names) (error : WriteError) → ReadsNone before now error → SourceMay t error → NoNumber error → ReadRefused t before now ns error
  refuses ns error r m k = λ root. record { told = unasked; asks = tt; tells = (r, m, k); cause = read_cause t error m k }

  pub full : (e : Eof) (b : ChunkData) (x : OrderError) → before ≡ option_map (λ cs. b ∷ cs) now → piece_type b ≡ t → Whole b → FullAt e.last x → IsLate (of_order x) → ReadRefused t before now (onward e) (of_order x)
  full e b x r y h f l = λ root. record { told = came b; asks = tt; tells = (l, r, record { typed = y; whole = h }); cause = full_cause e.last x f }

  -- ---- the next act

  pub read_done : (ns : Names) (phase later : Phase) (root : Tasks) (r : Result ActionKind WriteError) → phase ≡ reading ns → IfOk r (ReadActed t before now ns later) → IfOk r (SourceActed t before now phase later root root)
  read_done ns phase later root r is h =
      subst (λ p. IfOk r (SourceActed t before now p later root root)) (sym is)
      (IfOk-weaker r (ReadActed t before now ns later) (SourceActed t before now (reading ns) later root root) (λ a k. k root) h)

  pub read_refused : (ns : Names) (phase : Phase) (root : Tasks) (r : Result ActionKind WriteError) → phase ≡ reading ns → IfErr r (ReadRefused t before now ns) → IfErr r (SourceRefused t before now phase root)
  read_refused ns phase root r is h =
      subst (λ p. IfErr r (SourceRefused t before now p root)) (sym is)
      (IfErr-weaker r (ReadRefused t before now ns) (SourceRefused t before now (reading ns) root) (λ a k. k root) h)

module _ (t : Ty) (told : Option (List ChunkData)) where
  pub put_done : (ns : Names) (i : Piece) (phase : Phase) (x : Task) (new : Tasks) → phase ≡ giving ns i → new ≡ task_then (with_item (desk_of (out-Task x).head) i) (row (out-Task x).kids.items) no_tasks
      → SourceActed t told told phase (reading ns) (task_row x no_tasks) new Put
  put_done ns i phase x new is h =
      let l : new ≡ give 0 i (task_row x no_tasks) = h ∙ sym (ap (give 0 i) (row_out x no_tasks)) in
      subst (λ p. SourceActed t told told p (reading ns) (task_row x no_tasks) new Put) (sym is)
      (record { told = unasked; asks = refl; tells = refl; kind = refl; fits = refl; counted = none_fit; left = λ j. whole_at (reading ns) (l j) })

  pub put_refused : (ns : Names) (i : Piece) (phase : Phase) (root : Tasks) → phase ≡ giving ns i → SourceRefused t told told phase root OutOfMemory
  put_refused ns i phase root is = subst (λ p. SourceRefused t told told p root OutOfMemory) (sym is) (record { told = unasked; asks = refl; tells = (refl, tt); cause = tt })

  pub close_done : (phase : Phase) (x : Task) (new : Tasks) → phase ≡ closing → new ≡ task_then (shut_desk (desk_of (out-Task x).head)) (row (out-Task x).kids.items) no_tasks
      → SourceActed t told told phase finished (task_row x no_tasks) new Close
  close_done phase x new is h =
      let l : new ≡ shut_all (task_row x no_tasks) = h ∙ sym (ap shut_all (row_out x no_tasks)) in
      subst (λ p. SourceActed t told told p finished (task_row x no_tasks) new Close) (sym is)
      (record { told = unasked; asks = refl; tells = refl; kind = refl; fits = refl; counted = none_fit; left = λ j. whole_at finished (l j) })

  pub rest_done : (phase : Phase) (root : Tasks) → phase ≡ finished → SourceActed t told told phase finished root root Close
  rest_done phase root is =
      subst (λ p. SourceActed t told told p finished root root Close) (sym is)
      (record { told = unasked; asks = refl; tells = refl; kind = refl; fits = refl; counted = none_fit; left = refl })

-- what was in its place is what acted, and what it gave is put back
module _ (t : Ty) (before now : Option (List ChunkData)) (p q : held.Phase) where
  pub source_done : (r n : held.Phase) (root new : Tasks) (x : Result ActionKind WriteError) → q ≡ p → n ≡ r → IfOk x (SourceActed t before now (phase_of q) (phase_of r) root new)
      → IfOk x (SourceActed t before now (phase_of p) (phase_of n) root new)
  source_done r n root new x e f h =
      subst (λ z. IfOk x (SourceActed t before now (phase_of z) (phase_of n) root new)) e (subst (λ z. IfOk x (SourceActed t before now (phase_of q) (phase_of z) root new)) (sym f) h)

  pub source_fails : (root : Tasks) (x : Result ActionKind WriteError) → q ≡ p → IfErr x (SourceRefused t before now (phase_of q) root) → IfErr x (SourceRefused t before now (phase_of p) root)
  source_fails root x e h = subst (λ z. IfErr x (SourceRefused t before now (phase_of z) root)) e h
