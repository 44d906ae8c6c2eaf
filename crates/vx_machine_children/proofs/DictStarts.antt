-- The children of a dictionary node: its fallback, and codes and values of each run.
use Rattle.std.proofs.Common.{rules, ◌≡◌, ℕ, ◌+◌, ◌^◌, ◌<◌, nat_le, if◌then◌else◌, Bool, true, false, List, [], ◌∷◌, ◌++◌, Option, None, Result, Ok, Err, IfOk, IfErr, refl, sym, ap, subst, ◌∙◌, inl, inr, arith}
use Rattle.vx_model.specs.Ty.{Ty, primitive}
use Rattle.vx_model.specs.TyView.{ty}
use Rattle.vx_model.specs.declared.dtype.DType as dt
use Rattle.vx_model.specs.declared.ptype.Nullability.TheVariants.{NonNullable}
use Rattle.vx_model.specs.declared.ptype.PType.{PType}
use Rattle.vx_model.specs.declared.ptype.PType.TheVariants.{U8, U16}
use Rattle.vx_rules.specs.Runs.{DictOptions, code_type}
use Rattle.vx_path.specs.Path.{Eof}
use Rattle.vx_strategy_spec.specs.StrategyData.{StrategyData}
use Rattle.vx_sequence.specs.Universe.{Active}
use Rattle.vx_sink.specs.declared.context.LayoutWriterContext.{LayoutWriterContext}
use Rattle.vx_machine_ids.specs.Stock.{Stock, none, both}
use Rattle.vx_machine_ids.specs.Balance.{Owned, Moved}
use Rattle.vx_machine_ids.proofs.Stocks.{all_push, both_swap, none_both}
use Rattle.vx_machine_ids.proofs.MoveLaws.{moved_then, moved_beside, moved_drop, moved_as, owned_as, owned_right, owned_now}
use Rattle.vx_plan.specs.PlanData.{Setting, What, Item as Piece}
use Rattle.vx_machine_turns.specs.Forms.{Form}
use Rattle.vx_machine_turns.specs.Starts.{start_fault}
use Rattle.vx_machine_state.specs.State.{Tasks, no_tasks}
use Rattle.vx_machine_state.specs.Start.{first_indices, started_task}
use Rattle.vx_machine_state.specs.Acts.{add}
use Rattle.vx_write_answer.specs.declared.error.WriteError.{WriteError}
use Rattle.vx_write_answer.specs.declared.error.WriteError.TheVariants as errors
use Rattle.vx_machine_node.specs.Context.{Allowed}
use Rattle.vx_machine_node.specs.Ledger.{Paid}
use Rattle.vx_machine_node.specs.Outcome.{AllFit, Refused}
use Rattle.vx_machine_node.specs.View.{form_at}
use Rattle.vx_machine_task.specs.declared.task.Task.{Task}
use Rattle.vx_machine_task.specs.Ledger.{task_reserved, tasks_reserved}
use Rattle.vx_machine_start.specs.Starting.{IsAllowed, Started, KidStarted, StartRefused, FormRefused}
use Rattle.vx_machine_task.specs.Stocks.{task_stock, tasks_stock}
use Rattle.vx_machine_task.specs.View.{task_row, row}
use Rattle.vx_machine_task.proofs.ReservedSteps.{tasks_push}
use Rattle.vx_machine_start.proofs.StartRows.{kid_added}

-- ---- a pointer inside an id

same_eof : (d e : Eof) (id : List ℕ) → d.stem ≡ id → d.last ≡ 0 → e.stem ≡ id → e.last ≡ 0 → d ≡ e
same_eof d e id a b x y = λ j. record { stem = (a ∙ sym x) j; last = (b ∙ sym y) j }

module _ (a : Allowed) (w v : StrategyData) (t : Ty) (m : Bool) (d : Eof) (id : List ℕ) (r : Result Task WriteError) (s : w ≡ v) (p : d.stem ≡ id) (q : d.last ≡ 0) where
  pub inside_shows : (name : List ℕ) → IfOk r (Started a (form_at w t) m name d) → (e : Eof) → e.stem ≡ id → e.last ≡ 0 → IfOk r (Started a (form_at v t) m name e)
  inside_shows name h e x y = subst (λ z. IfOk r (Started a (form_at v t) m name z)) (same_eof d e id p q x y) (subst (λ z. IfOk r (Started a (form_at z t) m name d)) s h)

  pub inside_refused : IfErr r (FormRefused a (form_at w t) m d) → (e : Eof) → e.stem ≡ id → e.last ≡ 0 → IfErr r (FormRefused a (form_at v t) m e)
  inside_refused h e x y = subst (λ z. IfErr r (FormRefused a (form_at v t) m z)) (same_eof d e id p q x y) (subst (λ z. IfErr r (FormRefused a (form_at z t) m d)) s h)

-- ---- the type of codes

plain_type : (p : PType) → ty (dt.Primitive p NonNullable) ≡ primitive p false
plain_type p = search (rules, dt.the_lemmas)

pub codes_type : (p : PType) (o : DictOptions) → p ≡ (if nat_le o.max_len 255 then U8 else U16) → ty (dt.Primitive p NonNullable) ≡ code_type o
codes_type p o h = plain_type p ∙ ap (λ q. primitive q false) h

-- ---- one more child

-- with this queue, under its form at its type
pub kid_started : (a : Allowed) (w : StrategyData) (t u : Ty) (m : Bool) (name at : List ℕ) (e : Eof) (k s : Task) (inbox : List Piece) (ks ms more : List Task) → t ≡ u → name ≡ at → e.last < 2 ^ 64 → Started a (form_at w t) m name e k
    → task_row s no_tasks ≡ started_task (form_at w t) m name e inbox false → ms ≡ ks → more ≡ ms ++ (s ∷ []) → KidStarted a (form_at w u) m at e inbox ks more
kid_started a w t u m name at e k s inbox ks ms more x y z h r g is = record {
  allowed = subst (λ q. IsAllowed a (form_at w q) m) x h.allowed;
  counted = subst (λ q. AllFit (first_indices (form_at w q) m e)) x (h.counted z);
  tasks = kid_added ks more s (started_task (form_at w u) m at e inbox false) (is ∙ ap (λ q. q ++ (s ∷ [])) g) (r ∙ (λ j. started_task (form_at w (x j)) m (y j) e inbox false));
}

pub kid_refused : (a : Allowed) (w : StrategyData) (t u : Ty) (m : Bool) (e : Eof) (x : WriteError) → t ≡ u → FormRefused a (form_at w t) m e x → FormRefused a (form_at w u) m e x
kid_refused a w t u m e x is h = subst (λ z. FormRefused a (form_at w z) m e x) is h

pub at_start : (e : Eof) → e.last ≡ 0 → e.last < 2 ^ 64
at_start e h = omega (arith, h)

-- ---- ids and pointers

pub value_moved : (u v : Active) (i : Stock) (ks ms js : List Task) (t : Task) → ms ≡ ks → js ≡ ms ++ (t ∷ []) → Owned u (both (tasks_stock ks) i) → Moved u v i (task_stock t) → Moved u v (both (tasks_stock ks) i) (tasks_stock js)
value_moved u v i ks ms js t a is o m =
    let k : Stock = tasks_stock ks in
    moved_as u v (both i k) (both k i) (both (task_stock t) k) (tasks_stock js) (both_swap i k)
    (both_swap (task_stock t) k ∙ sym (all_push task_stock ks t) ∙ ap tasks_stock (sym (is ∙ ap (λ z. z ++ (t ∷ [])) a)))
    (moved_beside u v i (task_stock t) k (owned_as u (both k i) (both i k) (both_swap k i) o) m)

-- no child
pub lost_moved : (u v : Active) (i : Stock) (ks ms : List Task) → ms ≡ ks → Owned u (both (tasks_stock ks) i) → Moved u v i none → Moved u v (both (tasks_stock ks) i) (tasks_stock ms)
lost_moved u v i ks ms a o m = moved_as u v (both (tasks_stock ks) i) (both (tasks_stock ks) i) (tasks_stock ks) (tasks_stock ms) refl (ap tasks_stock (sym a)) (moved_drop u v (tasks_stock ks) i o m)

-- a child that took what stood beside its id
module _ (u v w : Active) (i j t : Stock) (o : Owned u (both i j)) (m : Moved u v i t) where
  pub two_owned : Owned v (both t j)
  two_owned = owned_now u v (both i j) (both t j) o (moved_beside u v i t j o m)

  pub two_moved : (s : Stock) → Moved v w (both t j) s → Moved u w (both i j) s
  two_moved s n = moved_then u v w (both i j) (both t j) s (moved_beside u v i t j o m) n

pub two_lost : (u v w : Active) (i j : Stock) → Owned u (both i j) → Moved u v i none → Moved v w j none → Moved u w (both i j) none
two_lost u v w i j o m n = two_moved u v w i j none o m none (moved_as v w j (both none j) none none (sym (none_both j)) refl n)

-- ---- reservations

pub value_reserved : (ks ms js : List Task) (t : Task) → ms ≡ ks → js ≡ ms ++ (t ∷ []) → task_reserved t ≡ 0 → tasks_reserved js ≡ tasks_reserved ks
value_reserved ks ms js t a is h = let r : tasks_reserved js ≡ tasks_reserved ms + task_reserved t = tasks_push js ms t is in omega (arith, r, h, ap tasks_reserved a)

pub codes_paid : (b c : LayoutWriterContext) (ks ms js : List Task) (t s : Task) → ms ≡ ks → js ≡ ms ++ (s ∷ []) → task_reserved t ≡ 0 → Paid b c (task_reserved t) (task_reserved s) → Paid b c (tasks_reserved ks) (tasks_reserved js)
codes_paid b c ks ms js t s a is h p = let r : tasks_reserved js ≡ tasks_reserved ms + task_reserved s = tasks_push js ms s is in omega (arith, r, h, p, ap tasks_reserved a)

pub lost_paid : (b c : LayoutWriterContext) (ks ms : List Task) (n : ℕ) → ms ≡ ks → n ≡ 0 → Paid b c n 0 → Paid b c (tasks_reserved ks) (tasks_reserved ms)
lost_paid b c ks ms n a h p = omega (arith, h, p, ap tasks_reserved a)

-- ---- the fallback

pub fallback_kids : (a : Allowed) (f g : Form) (m : Bool) (name at : List ℕ) (e : Eof) (k : Task) (ks ms more : List Task) → f ≡ g → name ≡ at → Started a f m name e k → ms ≡ ks → more ≡ ms ++ (k ∷ [])
    → row more ≡ add (row ks) (started_task g m at e [] false)
fallback_kids a f g m name at e k ks ms more x y h b is =
    kid_added ks more k (started_task g m at e [] false) (is ∙ ap (λ q. q ++ (k ∷ [])) b) (h.tasks no_tasks ∙ (λ j. started_task (x j) m (y j) e [] false))

-- ---- refusals

-- by the settings that allow so much
pub fault_why : (s : Setting) (a : Allowed) (f : Setting → Option What) (ns is : List ℕ) (past : ℕ → Type 0) (stopped : Type 0) (x : WriteError) → s.allowed ≡ a → StartRefused a f is x → Refused (f s) false ns is [] past stopped [] x
fault_why s a f ns is past stopped errors.SourceFault q h = absurd h
fault_why s a f ns is past stopped errors.SinkFault q h = absurd h
fault_why s a f ns is past stopped errors.CompressFault q h = absurd h
fault_why s a f ns is past stopped (errors.BatchType c) q h = absurd h
fault_why s a f ns is past stopped errors.NotStruct q h = h s q
fault_why s a f ns is past stopped (errors.DuplicateField n) q h = h s q
fault_why s a f ns is past stopped errors.ManyChunks q h = absurd h
fault_why s a f ns is past stopped errors.EmptyList q h = absurd h
fault_why s a f ns is past stopped (errors.ZoneCut k) q h = absurd h
fault_why s a f ns is past stopped (errors.ForbiddenAggregate id) q h = h s q
fault_why s a f ns is past stopped (errors.ForbiddenEncoding id) q h = absurd h
fault_why s a f ns is past stopped (errors.TooLarge n) q h = inl (inr (h.1.0, h.1.1, h.1.2, h.0))
fault_why s a f ns is past stopped errors.OutOfMemory q h = tt
fault_why s a f ns is past stopped (errors.Stopped by n) q h = absurd h
