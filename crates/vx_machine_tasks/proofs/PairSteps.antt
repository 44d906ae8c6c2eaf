-- Pairs that may be written, of parts of a tree of tasks.
use Rattle.std.proofs.Common.{◌≡◌, ℕ, zero, suc, ◌<◌, List, [], ◌∷◌, ◌++◌, length, get_or, subst, arith}
use Rattle.vx_machine_tasks.specs.Pairs.{Pair, next_pairs, step_pairs, task_pairs, tasks_pairs, AllMay}
use Rattle.vx_machine_task.specs.declared.task.Task.{Task, out-Task}
use Rattle.vx_machine_task.specs.declared.task.Task.TheFolds.{fold_out-Task}

module _ (may : List ℕ → List ℕ → Type 0) where
  pub may_left : (xs ys : List Pair) → AllMay may (xs ++ ys) → AllMay may xs
  may_left [] ys h = tt
  may_left (x ∷ xs) ys h = (h.0, may_left xs ys h.1)

  pub may_right : (xs ys : List Pair) → AllMay may (xs ++ ys) → AllMay may ys
  may_right [] ys h = h
  may_right (x ∷ xs) ys h = may_right xs ys h.1

  pub all_may : ((p b : List ℕ) → may p b) → (xs : List Pair) → AllMay may xs
  all_may f [] = tt
  all_may f (x ∷ xs) = (f x.0 x.1, all_may f xs)

  parts_may : (t : Task) → AllMay may (task_pairs t) → AllMay may (next_pairs (out-Task t).head.todo.items ++ tasks_pairs (out-Task t).kids.items)
  parts_may t h = subst (λ ps. AllMay may ps) (fold_out-Task (List Pair) step_pairs t) h

  -- of a task by itself, and of those below it
  pub head_may : (t : Task) → AllMay may (task_pairs t) → AllMay may (next_pairs (out-Task t).head.todo.items)
  head_may t h = may_left (next_pairs (out-Task t).head.todo.items) (tasks_pairs (out-Task t).kids.items) (parts_may t h)

  pub kids_may : (t : Task) → AllMay may (task_pairs t) → AllMay may (tasks_pairs (out-Task t).kids.items)
  kids_may t h = may_right (next_pairs (out-Task t).head.todo.items) (tasks_pairs (out-Task t).kids.items) (parts_may t h)

  -- of one of a list
  pub kid_may : (ts : List Task) (i : ℕ) (x : Task) → i < length ts → get_or ts i x ≡ x → AllMay may (tasks_pairs ts) → AllMay may (task_pairs x)
  kid_may [] i x h e a = absurd (omega (arith, h))
  kid_may (y ∷ ts) zero x h e a = subst (λ z. AllMay may (task_pairs z)) e (may_left (task_pairs y) (tasks_pairs ts) a)
  kid_may (y ∷ ts) (suc i) x h e a = kid_may ts i x (omega (arith, h)) e (may_right (task_pairs y) (tasks_pairs ts) a)
