-- Counts that are kept, of tasks of the program.
use Rattle.std.proofs.Common.{◌≡◌, ℕ, zero, suc, ◌+◌, ◌-◌, ◌^◌, ◌<◌, sum, List, [], ◌∷◌, map, length, get_or, set, take, refl, sym, ap, subst, ◌∙◌, arith}
use Rattle.std.proofs.lemmas.List.{take-map}
use Rattle.std.specs.FinMap as fin
use Rattle.vx_sequence.specs.Universe.{Active}
use Rattle.vx_kept.specs.Kept.{ready_at, ready_each, FreshFrom, Knows, KnowsFrom, GoingFrom}
use Rattle.vx_kept.specs.Follow.{touched_by, Follows, swap, KidIs}
use Rattle.vx_kept.specs.declared.counts.Touched.{Touched}
use Rattle.vx_kept.specs.declared.counts.Counts.{Counts}
use Rattle.vx_kept.proofs.Keeping.{swap_leaves}
use Rattle.vx_kept.proofs.Following.{act_follows}
use Rattle.vx_kept.proofs.Asking.{fresh_each, fresh_knows, fresh_lengths, counted_each, going_lengths, going_kid}
use Rattle.vx_plan.specs.PlanData.{Setting}
use Rattle.vx_machine_state.specs.State.{Desk, Tasks, no_tasks}
use Rattle.vx_machine_state.specs.Acts.{do_act}
use Rattle.vx_machine_state.specs.Moves.{may_act}
use Rattle.vx_machine_state.specs.Places.{one_if, ready_in as ready_steps}
use Rattle.vx_machine_task.specs.Counting.{AllKnown}
use Rattle.vx_machine_task.specs.declared.task.Head.{Head}
use Rattle.vx_machine_task.specs.Ready.{ready_in, ready_among, counted}
use Rattle.vx_machine_node.specs.View.{todo_of}
use Rattle.vx_machine_task.specs.View.{desk_of, task_row, row}
use Rattle.vx_machine_task.specs.declared.task.Task.{Task, out-Task}
use Rattle.vx_machine_task.proofs.ReadyViews.{task_ready, kids_ready}
use Rattle.vx_machine_task.proofs.ViewParts.{row_out, count_row}

-- ---- counts

-- as far as 64 bits tell
abbrev told : Active → Task → ℕ
told u t = counted (ready_in u t)

pub task_at : (u : Active) (t : Task) → ready_at (fin.keys u) (desk_of (out-Task t).head) (row (out-Task t).kids.items) ≡ told u t
task_at u t =
    let c : Desk = desk_of (out-Task t).head in
    let ks : Tasks = row (out-Task t).kids.items in
    let e : (one_if (may_act (fin.keys u) c ks c.todo) + ready_steps (fin.keys u) ks) + 0 ≡ ready_in u t = sym (ap (ready_steps (fin.keys u)) (row_out t no_tasks)) ∙ task_ready u t in
    let f : one_if (may_act (fin.keys u) c ks c.todo) + ready_steps (fin.keys u) ks ≡ ready_in u t = omega (arith, e) in
    ap counted f

each_told : (u : Active) (ts : List Task) → ready_each (fin.keys u) (row ts) ≡ map (told u) ts
each_told u [] = refl
each_told u (t ∷ ts) = ap (ready_each (fin.keys u)) (row_out t (row ts)) ∙ (λ k. task_at u t k ∷ each_told u ts k)

sum_told : (u : Active) (ts : List Task) → counted (sum (map (told u) ts)) ≡ counted (ready_among u ts)
sum_told u ts = ap (λ z. counted (sum z)) (sym (each_told u ts)) ∙ counted_each (fin.keys u) (row ts) ∙ ap counted (kids_ready u ts)

module _ (u : Active) (ts : List Task) (asked ns : List ℕ) (xs : List Counts) (f : FreshFrom (fin.keys u) asked 0 ns xs (row ts)) where
  counts_told : ns ≡ map (told u) ts
  counts_told = fresh_each (fin.keys u) asked 0 ns xs (row ts) f ∙ each_told u ts

  pub fresh_sum : counted (sum ns) ≡ counted (ready_among u ts)
  fresh_sum = ap (λ z. counted (sum z)) counts_told ∙ sum_told u ts

  pub fresh_before : (i r k : ℕ) → sum (take i ns) + r ≡ k → k < 2 ^ 64 - 1 → k ≡ ready_among u (take i ts) + r
  fresh_before i r k e l =
      let a : sum (take i ns) ≡ sum (map (told u) (take i ts)) = ap (λ z. sum (take i z)) counts_told ∙ ap sum (take-map (told u) i ts) in
      let b : counted (sum (map (told u) (take i ts))) ≡ counted (ready_among u (take i ts)) = sum_told u (take i ts) in
      omega (arith, e, l, a, b)

  pub fresh_length : length ns ≡ length ts
  fresh_length = ap length counts_told ∙ length_told ts
    where
      length_told : (ts : List Task) → length (map (told u) ts) ≡ length ts
      length_told [] = refl
      length_told (y ∷ ys) = ap suc (length_told ys)

  pub fresh_at : (i : ℕ) (t : Task) → i < length ts → get_or ts i t ≡ t → get_or ns i 0 ≡ told u t
  fresh_at i t h e = ap (λ z. get_or z i 0) counts_told ∙ at_told ts i t h e
    where
      at_told : (ts : List Task) (i : ℕ) (t : Task) → i < length ts → get_or ts i t ≡ t → get_or (map (told u) ts) i 0 ≡ told u t
      at_told [] i t h e = absurd (omega (arith, h))
      at_told (y ∷ ys) zero t h e = ap (told u) e
      at_told (y ∷ ys) (suc i) t h e = at_told ys i t (omega (arith, h)) e

-- ---- children

pub kid_is : (ts : List Task) (i : ℕ) (t : Task) → i < length ts → get_or ts i t ≡ t → KidIs i (row ts) (desk_of (out-Task t).head) (row (out-Task t).kids.items)
kid_is [] i t h e = absurd (omega (arith, h))
kid_is (y ∷ ys) zero t h e =
    subst (λ z. KidIs zero z (desk_of (out-Task t).head) (row (out-Task t).kids.items)) (sym (row_out y (row ys)))
    (ap (λ z. desk_of (out-Task z).head) (sym e), ap (λ z. row (out-Task z).kids.items) (sym e))
kid_is (y ∷ ys) (suc i) t h e =
    subst (λ z. KidIs (suc i) z (desk_of (out-Task t).head) (row (out-Task t).kids.items)) (sym (row_out y (row ys))) (kid_is ys i t (omega (arith, h)) e)

pub swap_row : (ts : List Task) (i : ℕ) (y : Task) → row (set ts i y) ≡ swap i (desk_of (out-Task y).head) (row (out-Task y).kids.items) (row ts)
swap_row [] i y = refl
swap_row (x ∷ ts) zero y = row_out y (row ts) ∙ sym (ap (swap zero (desk_of (out-Task y).head) (row (out-Task y).kids.items)) (row_out x (row ts)))
swap_row (x ∷ ts) (suc i) y =
    ap (task_row x) (swap_row ts i y)
    ∙ row_out x (swap i (desk_of (out-Task y).head) (row (out-Task y).kids.items) (row ts))
    ∙ sym (ap (swap (suc i) (desk_of (out-Task y).head) (row (out-Task y).kids.items)) (row_out x (row ts)))

-- those that are there, at any default
same_at : {A : Type 0} (xs : List A) (i : ℕ) (x : A) → i < length xs → get_or xs i (get_or xs i x) ≡ get_or xs i x
same_at [] i x h = absurd (omega (arith, h))
same_at (y ∷ ys) zero x h = refl
same_at (y ∷ ys) (suc i) x h = same_at ys i x (omega (arith, h))

pub all_known : (all : List (List ℕ)) (asked later ns : List ℕ) (xs : List Counts) (ts : List Task) → GoingFrom all asked later 0 ns xs (row ts) → AllKnown ns xs ts
all_known all asked later ns xs ts g =
    let n = going_lengths all asked later 0 ns xs (row ts) g in
    record {
      counts = n.0 ∙ count_row ts;
      kids = n.1 ∙ count_row ts;
      each = λ i x t h.
          let y : Task = get_or ts i t in
          let k : length xs ≡ length ts = n.1 ∙ count_row ts in
          going_kid all asked later i (desk_of (out-Task y).head) (row (out-Task y).kids.items) 0 ns xs (row ts) (get_or xs i x) (kid_is ts i y h (same_at ts i t h)) g (same_at xs i x (omega (arith, h, k)));
    }

-- ---- the child of the k-th that is ready

fresh_kids : (u : Active) (ts : List Task) (asked ns : List ℕ) (xs : List Counts) → FreshFrom (fin.keys u) asked 0 ns xs (row ts) → length xs ≡ length ts
fresh_kids u ts asked ns xs f = (fresh_lengths (fin.keys u) asked 0 ns xs (row ts) f).1 ∙ count_row ts

pub record Found (u : Active) (ts : List Task) (ns : List ℕ) (xs : List Counts) (i r k : ℕ) : Type 0 where
  pub place : i < length ts
  pub counts : i < length xs
  pub passed : k ≡ ready_among u (take i ts) + r
  pub within : (t : Task) → get_or ts i t ≡ t → r < told u t

pub found : (u : Active) (ts : List Task) (asked ns : List ℕ) (xs : List Counts) → FreshFrom (fin.keys u) asked 0 ns xs (row ts) → (i r k : ℕ) → i < length ns → sum (take i ns) + r ≡ k → r < get_or ns i 0
    → k < counted (ready_among u ts) → Found u ts ns xs i r k
found u ts asked ns xs f i r k l e h there =
    let n : length ns ≡ length ts = fresh_length u ts asked ns xs f in
    let m : length xs ≡ length ts = fresh_kids u ts asked ns xs f in
    let p : i < length ts = omega (arith, l, n) in
    record {
      place = p;
      counts = omega (arith, p, m);
      passed = fresh_before u ts asked ns xs f i r k e (omega (arith, there));
      within = λ t is. let a : get_or ns i 0 ≡ told u t = fresh_at u ts asked ns xs f i t p is in subst (λ z. r < z) a h;
    }

-- what is known of all where child i made a step
pub stepped_known : (u : Active) (ts : List Task) (y : Counts) (i : ℕ) (t : Task) (ns : List ℕ) (xs ys : List Counts) (asked : List ℕ) → FreshFrom (fin.keys u) asked 0 ns xs (row ts) → Knows y (row (out-Task t).kids.items)
    → ys ≡ set xs i y → KnowsFrom (i ∷ asked) 0 ns ys (row (set ts i t))
stepped_known u ts y i t ns xs ys asked f k e =
    let z : 0 + i ≡ i = omega arith in
    subst (λ v. KnowsFrom (i ∷ asked) 0 ns v (row (set ts i t))) (sym e)
    (subst (λ v. KnowsFrom (i ∷ asked) 0 ns (set xs i y) v) (sym (swap_row ts i t))
    (subst (λ v. KnowsFrom (v ∷ asked) 0 ns (set xs i y) (swap i (desk_of (out-Task t).head) (row (out-Task t).kids.items) (row ts))) z
    (swap_leaves i (desk_of (out-Task t).head) (row (out-Task t).kids.items) y asked 0 ns xs (row ts) k (fresh_knows (fin.keys u) asked 0 ns xs (row ts) f))))

-- ---- a task's own act

-- what is known behind it
pub act_touches : (s : Setting) (n : ℕ) (h : Head) (ks js : List Task) (t : Touched) → t ≡ touched_by (todo_of h.todo.items) → row js ≡ (do_act s n (desk_of h) (row ks) (todo_of h.todo.items)).kids → Follows t (row ks) (row js)
act_touches s n h ks js t e k =
    subst (λ z. Follows z (row ks) (row js)) (sym e) (subst (λ z. Follows (touched_by (todo_of h.todo.items)) (row ks) z) (sym k) (act_follows s n (desk_of h) (row ks) (todo_of h.todo.items)))
