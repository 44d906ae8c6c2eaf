-- Where a child's steps stand among those of all, and what stands after them.
use Rattle.std.proofs.Common.{◌≡◌, ℕ, zero, suc, ◌+◌, ◌<◌, Bool, true, false, cond, List, [], ◌∷◌, ◌++◌, map, length, get_or, set, take, Some, option_map, refl, sym, ap, subst, ◌∙◌, arith, append-nil, zero-add}
use Rattle.std.specs.FinMap as fin
use Rattle.vx_sequence.specs.Universe.{Active}
use Rattle.vx_tasks.specs.Run.{nth}
use Rattle.vx_plan.specs.PlanData.{Setting}
use Rattle.vx_machine_state.specs.State.{Desk, Tasks, no_tasks, task_then}
use Rattle.vx_machine_state.specs.Acts.{add, Did, do_act}
use Rattle.vx_machine_state.specs.Moves.{Step, may_act, own_step, in_kids, in_rest, steps}
use Rattle.vx_machine_state.specs.Places.{one_if, ready_in as ready_of}
use Rattle.vx_machine_state.proofs.Placing.{kid_place, rest_place}
use Rattle.vx_machine_task.specs.declared.task.Task.{Task, out-Task}
use Rattle.vx_machine_task.specs.Ready.{ready_in, ready_among}
use Rattle.vx_machine_node.specs.View.{todo_of}
use Rattle.vx_machine_task.specs.View.{desk_of, task_row, row}
use Rattle.vx_machine_task.proofs.ViewParts.{row_out}
use Rattle.vx_machine_task.proofs.ReadyViews.{task_ready}

-- the same step, after which these tasks stand
abbrev pub with_after : Step → Tasks → Step
with_after w cs = record { name = w.name; kind = w.kind; refusal = w.refusal; misfit = w.misfit; numbers = w.numbers; indices = w.indices; wrote = w.wrote; joined = w.joined; raises = w.raises; lowers = w.lowers; after = cs }

-- with these tasks behind
abbrev behind : Tasks → Step → Step
behind r w = with_after w (add w.after r)

nth_front : {A : Type 0} (xs ys : List A) (k : ℕ) (x : A) → nth xs k ≡ Some x → nth (xs ++ ys) k ≡ Some x
nth_front [] ys k x e = cc
nth_front (y ∷ xs) ys zero x e = e
nth_front (y ∷ xs) ys (suc k) x e = nth_front xs ys k x e

nth_map : {A B : Type 0} (f : A → B) (xs : List A) (k : ℕ) (x : A) → nth xs k ≡ Some x → nth (map f xs) k ≡ Some (f x)
nth_map f [] k x e = cc
nth_map f (y ∷ xs) zero x e = ap (option_map f) e
nth_map f (y ∷ xs) (suc k) x e = nth_map f xs k x e

kids_behind : (c : Desk) (r : Tasks) (xs : List Step) → map (in_kids c r) xs ≡ map (behind r) (map (in_kids c no_tasks) xs)
kids_behind c r [] = refl
kids_behind c r (x ∷ xs) = ap (λ z. in_kids c r x ∷ z) (kids_behind c r xs)

own_behind : (b : Bool) (c : Desk) (r : Tasks) (w : Did) (xs : List Step)
    → cond b (own_step c r w ∷ []) [] ++ map (in_kids c r) xs ≡ map (behind r) (cond b (own_step c no_tasks w ∷ []) [] ++ map (in_kids c no_tasks) xs)
own_behind true c r w xs = ap (λ z. own_step c r w ∷ z) (kids_behind c r xs)
own_behind false c r w xs = kids_behind c r xs

module _ (s : Setting) (all : List (List ℕ)) (n : ℕ) where
  first_place : (c : Desk) (ks r : Tasks) (k : ℕ) (w : Step) → nth (steps s all n (task_then c ks no_tasks)) k ≡ Some w → nth (steps s all n (task_then c ks r)) k ≡ Some (behind r w)
  first_place c ks r k w e =
      let d : Did = do_act s n c ks c.todo in
      let alone : List Step = cond (may_act all c ks c.todo) (own_step c no_tasks d ∷ []) [] ++ map (in_kids c no_tasks) (steps s all n ks) in
      let here : List Step = cond (may_act all c ks c.todo) (own_step c r d ∷ []) [] ++ map (in_kids c r) (steps s all n ks) in
      let a : nth alone k ≡ Some w = subst (λ z. nth z k ≡ Some w) (append-nil alone) e in
      let b : nth here k ≡ Some (behind r w) = subst (λ z. nth z k ≡ Some (behind r w)) (sym (own_behind (may_act all c ks c.todo) c r d (steps s all n ks))) (nth_map (behind r) alone k w a) in
      nth_front here (map (in_rest c ks) (steps s all n r)) k (behind r w) b

  -- a task's steps, with others behind it
  pub task_place : (t : Task) (r : Tasks) (k : ℕ) (w : Step) → nth (steps s all n (task_row t no_tasks)) k ≡ Some w → nth (steps s all n (task_row t r)) k ≡ Some (behind r w)
  task_place t r k w e =
      subst (λ z. nth (steps s all n z) k ≡ Some (behind r w)) (sym (row_out t r))
      (first_place (desk_of (out-Task t).head) (row (out-Task t).kids.items) r k w (subst (λ z. nth (steps s all n z) k ≡ Some w) (row_out t no_tasks) e))

add_row : (t : Task) (r : Tasks) → add (task_row t no_tasks) r ≡ task_row t r
add_row t r = ap (λ z. add z r) (row_out t no_tasks) ∙ sym (row_out t r)

-- these tasks, where this stands in the place of child i
abbrev pub kid_after : List Task → ℕ → Tasks → Tasks
kid_after [] i a = a
kid_after (x ∷ ts) zero a = add a (row ts)
kid_after (x ∷ ts) (suc i) a = task_row x (kid_after ts i a)

pub kid_set : (ts : List Task) (i : ℕ) (y : Task) → i < length ts → kid_after ts i (task_row y no_tasks) ≡ row (set ts i y)
kid_set [] i y h = absurd (omega (arith, h))
kid_set (x ∷ ts) zero y h = add_row y (row ts)
kid_set (x ∷ ts) (suc i) y h = ap (task_row x) (kid_set ts i y (omega (arith, h)))

-- where a child's step stands among those of all children
pub kid_step : (u : Active) (s : Setting) (n : ℕ) (ts : List Task) (i : ℕ) (x : Task) (k : ℕ) (w : Step) → i < length ts → get_or ts i x ≡ x → nth (steps s (fin.keys u) n (task_row x no_tasks)) k ≡ Some w
    → nth (steps s (fin.keys u) n (row ts)) (ready_among u (take i ts) + k) ≡ Some (with_after w (kid_after ts i w.after))
kid_step u s n [] i x k w h e p = absurd (omega (arith, h))
kid_step u s n (y ∷ ts) zero x k w h e p =
    let q : nth (steps s (fin.keys u) n (task_row y no_tasks)) k ≡ Some w = subst (λ z. nth (steps s (fin.keys u) n (task_row z no_tasks)) k ≡ Some w) (sym e) p in
    subst (λ j. nth (steps s (fin.keys u) n (row (y ∷ ts))) j ≡ Some (with_after w (add w.after (row ts)))) (sym (zero-add k)) (task_place s (fin.keys u) n y (row ts) k w q)
kid_step u s n (y ∷ ts) (suc i) x k w h e p =
    let c : Desk = desk_of (out-Task y).head in
    let ks : Tasks = row (out-Task y).kids.items in
    let a : Tasks = kid_after ts i w.after in
    let q : nth (steps s (fin.keys u) n (row ts)) (ready_among u (take i ts) + k) ≡ Some (with_after w a) = kid_step u s n ts i x k w (omega (arith, h)) e p in
    let r : nth (steps s (fin.keys u) n (task_then c ks (row ts))) ((one_if (may_act (fin.keys u) c ks c.todo) + ready_of (fin.keys u) ks) + (ready_among u (take i ts) + k)) ≡ Some (with_after w (task_then c ks a))
    = rest_place s (fin.keys u) n c ks (row ts) (ready_among u (take i ts) + k) ∙ ap (option_map (in_rest c ks)) q in
    let m : (one_if (may_act (fin.keys u) c ks c.todo) + ready_of (fin.keys u) ks) + 0 ≡ ready_in u y = sym (ap (ready_of (fin.keys u)) (row_out y no_tasks)) ∙ task_ready u y in
    let j : (one_if (may_act (fin.keys u) c ks c.todo) + ready_of (fin.keys u) ks) + (ready_among u (take i ts) + k) ≡ (ready_in u y + ready_among u (take i ts)) + k = omega (arith, m) in
    subst (λ z. nth (steps s (fin.keys u) n z) ((ready_in u y + ready_among u (take i ts)) + k) ≡ Some (with_after w (task_row y a))) (sym (row_out y (row ts)))
    (subst (λ z. nth (steps s (fin.keys u) n (task_then c ks (row ts))) ((ready_in u y + ready_among u (take i ts)) + k) ≡ Some (with_after w z)) (sym (row_out y a))
    (subst (λ z. nth (steps s (fin.keys u) n (task_then c ks (row ts))) z ≡ Some (with_after w (task_then c ks a))) j r))

-- a step of the children is one of the task's, behind its own
pub below_place : (u : Active) (s : Setting) (n : ℕ) (t : Task) (k : ℕ) (w : Step) → k < ready_of (fin.keys u) (row (out-Task t).kids.items) → nth (steps s (fin.keys u) n (row (out-Task t).kids.items)) k ≡ Some w
    → nth (steps s (fin.keys u) n (task_row t no_tasks)) (one_if (may_act (fin.keys u) (desk_of (out-Task t).head) (row (out-Task t).kids.items) (todo_of (out-Task t).head.todo.items)) + k)
    ≡ Some (with_after w (task_then (desk_of (out-Task t).head) w.after no_tasks))
below_place u s n t k w l e =
    let c : Desk = desk_of (out-Task t).head in
    let ks : Tasks = row (out-Task t).kids.items in
    subst (λ z. nth (steps s (fin.keys u) n z) (one_if (may_act (fin.keys u) c ks c.todo) + k) ≡ Some (with_after w (task_then c w.after no_tasks))) (sym (row_out t no_tasks))
    (kid_place s (fin.keys u) n c ks no_tasks k l ∙ ap (option_map (in_kids c no_tasks)) e)
