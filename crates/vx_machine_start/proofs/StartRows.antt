-- Children that are started, in plain data: with a queue, refused, and what they have reserved, which is nothing.
use Rattle.std.proofs.Common.{◌≡◌, ℕ, zero, ◌+◌, Bool, true, false, List, [], ◌∷◌, ◌++◌, length, Option, Some, None, sym, ap, subst, ◌∙◌, append-nil, suc, ◌||◌, refl, arith}
use Rattle.vx_model.specs.Ty.{Ty}
use Rattle.vx_path.specs.Path.{Eof, under, inside, next}
use Rattle.vx_plan.specs.PlanData.{What, Item as Piece}
use Rattle.vx_strategy_spec.specs.StrategyData.{StrategyData, by_blocks, by_bytes, into_one}
use Rattle.vx_machine_turns.specs.Acts.{or_else}
use Rattle.vx_machine_turns.specs.Forms.{Form, no_forms, form_then, Forms, flat_form, chunked_form, grouped_form, compressed_form, dict_form, zoned_form, no_struct_form, struct_form, list_form}
use Rattle.vx_machine_turns.specs.Starts.{start_fault, start_faults}
use Rattle.vx_machine_state.specs.State.{Tasks, no_tasks, task_then}
use Rattle.vx_machine_state.specs.Start.{first_indices, started_task, first_mind, first_kids, field_tasks}
use Rattle.vx_machine_state.specs.Acts.{count, add, with_item, give, shut_desk, shut_at}
use Rattle.vx_machine_task.specs.declared.task.Task.{Task, out-Task}
use Rattle.vx_write_answer.specs.declared.error.WriteError.{WriteError}
use Rattle.vx_machine_start.specs.Starting.{Started, StartRefused, OneRefused, TooFar, many_indices}
use Rattle.vx_machine_node.specs.Context.{Allowed}
use Rattle.vx_machine_node.specs.View.{form_at}
use Rattle.vx_machine_task.specs.View.{desk_of, task_row, row}
use Rattle.vx_machine_start.proofs.StartShows.{refused_as}
use Rattle.vx_machine_task.proofs.ViewParts.{row_out, row_push, count_row}
use Rattle.vx_machine_state.specs.Reserved.{mind_reserved, reserved_by}
use Rattle.vx_machine_task.specs.Ledger.{task_reserved}
use Rattle.vx_machine_task.proofs.ReservedSteps.{task_view}

-- ---- a child that is started, with this queue

-- one more child
pub kid_added : (ks more : List Task) (t : Task) (x : Tasks) → more ≡ ks ++ (t ∷ []) → task_row t no_tasks ≡ x → row more ≡ add (row ks) x
kid_added ks more t x is h = ap row is ∙ row_push ks t ∙ ap (add (row ks)) h

pub fed_row : (t u v : Task) (i : Piece) → ((r : Tasks) → task_row u r ≡ task_then (with_item (desk_of (out-Task t).head) i) (row (out-Task t).kids.items) r)
    → ((r : Tasks) → task_row v r ≡ task_then (shut_desk (desk_of (out-Task u).head)) (row (out-Task u).kids.items) r)
    → (r : Tasks) → task_row v r ≡ task_then (shut_desk (with_item (desk_of (out-Task t).head) i)) (row (out-Task t).kids.items) r
fed_row t u v i a b r = b r ∙ ap (shut_at zero) (sym (row_out u r) ∙ a r)

module _ (a : Allowed) (f : Form) (m : Bool) (name : List ℕ) (e : Eof) (k t : Task) (i : Piece) (s : Started a f m name e k) where
  -- an item on it
  pub given_task : ((r : Tasks) → task_row t r ≡ task_then (with_item (desk_of (out-Task k).head) i) (row (out-Task k).kids.items) r) → task_row t no_tasks ≡ started_task f m name e (i ∷ []) false
  given_task given = given no_tasks ∙ ap (give zero i) (sym (row_out k no_tasks) ∙ s.tasks no_tasks)

  -- and closed
  pub fed_task : ((r : Tasks) → task_row t r ≡ task_then (shut_desk (with_item (desk_of (out-Task k).head) i)) (row (out-Task k).kids.items) r) → task_row t no_tasks ≡ started_task f m name e (i ∷ []) true
  fed_task fed = fed no_tasks ∙ ap (λ z. shut_at zero (give zero i z)) (sym (row_out k no_tasks) ∙ s.tasks no_tasks)

pub chunk_row : (a : Allowed) (f : Form) (m : Bool) (at : List ℕ) (e : Eof) (k t : Task) (i : Piece) (ks more : List Task) → Started a f m (under at (length ks)) e k
    → ((r : Tasks) → task_row t r ≡ task_then (shut_desk (with_item (desk_of (out-Task k).head) i)) (row (out-Task k).kids.items) r)
    → more ≡ ks ++ (t ∷ []) → row more ≡ add (row ks) (started_task f m (under at (count (row ks))) e (i ∷ []) true)
chunk_row a f m at e k t i ks more s fed is =
    kid_added ks more t (started_task f m (under at (length ks)) e (i ∷ []) true) is (fed_task a f m (under at (length ks)) e k t i s fed)
    ∙ ap (λ n. add (row ks) (started_task f m (under at n) e (i ∷ []) true)) (sym (count_row ks))

-- a form at a type, and a name, in other words
pub started_as : (a : Allowed) (w : StrategyData) (t u : Ty) (m : Bool) (b c : List ℕ) (e : Eof) (k : Task) → t ≡ u → b ≡ c → Started a (form_at w t) m b e k → Started a (form_at w u) m c e k
started_as a w t u m b c e k x y h = subst (λ z. Started a (form_at w z) m c e k) x (subst (λ z. Started a (form_at w t) m z e k) y h)

or_none : (o : Option What) (x : What) → or_else o None ≡ Some x → o ≡ Some x
or_none None x h = h
or_none (Some y) x h = h

-- one column's refusal, as that of the form
pub one_refused : (a : Allowed) (f : Form) (m : Bool) (e : Eof) (x : WriteError) → OneRefused a f m e x → StartRefused a (λ s. start_fault s f m) ((e.last + 1) ∷ first_indices f m (inside e)) x
one_refused a f m e x h =
    refused_as a a (λ s. start_faults s (form_then f no_forms) m) (λ s. start_fault s f m) (many_indices (form_then f no_forms) m e) ((e.last + 1) ∷ first_indices f m (inside e)) x
    (λ s w q k. or_none (start_fault s f m) w (k s q)) (λ p. subst (λ zs. TooFar ((e.last + 1) ∷ zs)) (append-nil (first_indices f m (inside e))) p) h

pub one_refused_as : (a : Allowed) (w : StrategyData) (t u : Ty) (m : Bool) (e : Eof) (x : WriteError) → t ≡ u → OneRefused a (form_at w t) m e x
    → StartRefused a (λ s. start_fault s (form_at w u) m) ((e.last + 1) ∷ first_indices (form_at w u) m (inside e)) x
one_refused_as a w t u m e x is h = one_refused a (form_at w u) m e x (subst (λ z. OneRefused a (form_at w z) m e x) is h)

-- ---- at the start

mind_none : (f : Form) (m : Bool) (e : Eof) → mind_reserved (first_mind f m e) ≡ 0
mind_none (flat_form o t) m e = refl
mind_none (chunked_form t k) m e = refl
mind_none (grouped_form (by_blocks o) t k) m e = refl
mind_none (grouped_form (by_bytes size) t k) m e = refl
mind_none (grouped_form into_one t k) m e = refl
mind_none (compressed_form which room t k) m e = refl
mind_none (dict_form o t c v f) m e = refl
mind_none (zoned_form o t k stats) true e = mind_none k true e
mind_none (zoned_form o t k stats) false e = refl
mind_none (no_struct_form t) m e = refl
mind_none (struct_form fs n name v ks) m e = refl
mind_none (list_form t n es os v) m e = refl

two_none : (a b c : ℕ) → a ≡ 0 → b ≡ 0 → c ≡ 0 → ((0 + a) + b) + c ≡ 0
two_none a b c x y z = omega (arith, x, y, z)

mutual
  kids_none : (f : Form) (m : Bool) (at : List ℕ) (e : Eof) → reserved_by (first_kids f m at e) ≡ 0
  kids_none (flat_form o t) m at e = refl
  kids_none (chunked_form t k) m at e = refl
  kids_none (grouped_form g t k) m at e = two_none _ _ 0 (mind_none k m e) (kids_none k m (under at 0) e) refl
  kids_none (compressed_form which room t k) m at e = two_none 0 _ 0 refl (two_none _ _ 0 (mind_none k m e) (kids_none k m (under at 1) e) refl) refl
  kids_none (dict_form o t c v f) m at e = refl
  kids_none (zoned_form o t k stats) true at e = kids_none k true at e
  kids_none (zoned_form o t k stats) false at e = two_none _ _ 0 (mind_none k false (inside e)) (kids_none k false (under at 0) (inside e)) refl
  kids_none (no_struct_form t) m at e = refl
  kids_none (struct_form fs true name v ks) m at e = two_none _ _ _ (mind_none v m (inside e)) (kids_none v m (under at 0) (inside e)) (fields_none ks (m || true) at 1 (next e))
  kids_none (struct_form fs false name v ks) m at e = fields_none ks (m || false) at 0 e
  kids_none (list_form t true es os v) m at e =
      two_none _ _ _ (mind_none es m (inside e)) (kids_none es m (under at 0) (inside e))
      (two_none _ _ _ (mind_none os m (inside (next e))) (kids_none os m (under at 1) (inside (next e)))
      (two_none _ _ 0 (mind_none v m (inside (next (next e)))) (kids_none v m (under at 2) (inside (next (next e)))) refl))
  kids_none (list_form t false es os v) m at e =
      two_none _ _ _ (mind_none es m (inside e)) (kids_none es m (under at 0) (inside e))
      (two_none _ _ 0 (mind_none os m (inside (next e))) (kids_none os m (under at 1) (inside (next e))) refl)

  fields_none : (fs : Forms) (m : Bool) (at : List ℕ) (c : ℕ) (e : Eof) → reserved_by (field_tasks fs m at c e) ≡ 0
  fields_none no_forms m at c e = refl
  fields_none (form_then f fs) m at c e = two_none _ _ _ (mind_none f m (inside e)) (kids_none f m (under at c) (inside e)) (fields_none fs m at (suc c) (next e))

pub started_none : (a : Allowed) (f : Form) (m : Bool) (name : List ℕ) (e : Eof) (t : Task) → Started a f m name e t → task_reserved t ≡ 0
started_none a f m name e t s = sym (task_view t) ∙ ap reserved_by (s.tasks no_tasks) ∙ two_none _ _ 0 (mind_none f m e) (kids_none f m name e) refl
