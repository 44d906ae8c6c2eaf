-- A task by its parts: its head and its children.
use Rattle.std.proofs.Common.{◌≡◌, ℕ, ◌+◌, ◌<◌, ◌≤◌, List, [], ◌∷◌, ◌++◌, length, get_or, zero, suc, refl, sym, subst, ap, ◌∙◌, arith, Vec, Global}
use Rattle.std.specs.Vec.{with_items}
use Rattle.std.proofs.lemmas.List.{with_items_is}
use Rattle.vx_sequence.specs.Universe.{Active}
use Rattle.vx_machine_ids.specs.Stock.{Stock, both}
use Rattle.vx_machine_ids.specs.Balance.{Owned, Moved}
use Rattle.vx_machine_ids.proofs.Stocks.{stock_is, all_push}
use Rattle.vx_machine_ids.proofs.MoveLaws.{owned_left, owned_right, moved_behind}
use Rattle.vx_machine_task.specs.Sizes.{task_count, count_of_all, count_step}
use Rattle.vx_machine_node.specs.Stocks.{item_stock, items_stock}
use Rattle.vx_machine_task.specs.Stocks.{head_stock, step_stock, task_stock, tasks_stock}
use Rattle.vx_machine_node.specs.declared.item.Item.{Item}
use Rattle.vx_machine_task.specs.declared.task.Head.{Head}
use Rattle.vx_machine_task.specs.declared.task.Task.{Task, out-Task}
use Rattle.vx_machine_task.specs.declared.task.Task.TheOpen.{Task-F}
use Rattle.vx_machine_task.specs.declared.task.Task.TheViews.{roll-Task, the_lemmas}
use Rattle.vx_machine_task.specs.declared.task.Task.TheFolds.{fold_out-Task}

pub out_roll : (x : Task-F Task) → out-Task (roll-Task x) ≡ x
out_roll x = simp the_lemmas refl

pub roll_out : (t : Task) → roll-Task (out-Task t) ≡ t
roll_out t = simp the_lemmas refl

pub task_stock_out : (t : Task) → task_stock t ≡ both (head_stock (out-Task t).head) (tasks_stock (out-Task t).kids.items)
task_stock_out = fold_out-Task Stock step_stock

pub task_stock_roll : (x : Task-F Task) → task_stock (roll-Task x) ≡ both (head_stock x.head) (tasks_stock x.kids.items)
task_stock_roll x = task_stock_out (roll-Task x) ∙ ap (λ (z : Task-F Task). both (head_stock z.head) (tasks_stock z.kids.items)) (out_roll x)

pub task_count_out : (t : Task) → task_count t ≡ 1 + count_of_all (out-Task t).kids.items
task_count_out = fold_out-Task ℕ count_step

pub count_push : (xs : List Task) (t : Task) → count_of_all (xs ++ (t ∷ [])) ≡ count_of_all xs + task_count t
count_push [] t = omega arith
count_push (x ∷ xs) t = let e : count_of_all (xs ++ (t ∷ [])) ≡ count_of_all xs + task_count t = count_push xs t in omega (arith, e)

-- the parts of a list whose last is taken off are fewer
pub popped_count : (all xs : List Task) (t : Task) → all ≡ xs ++ (t ∷ []) → count_of_all all ≡ count_of_all xs + task_count t
popped_count all xs t e = ap count_of_all e ∙ count_push xs t

pub count_at : (xs : List Task) (i : ℕ) (x : Task) → i < length xs → get_or xs i x ≡ x → task_count x ≤ count_of_all xs
count_at [] i x h e = absurd (omega (arith, h))
count_at (y ∷ ys) zero x h e = let a : task_count y ≡ task_count x = ap task_count e in omega (arith, a)
count_at (y ∷ ys) (suc i) x h e = let a : task_count x ≤ count_of_all ys = count_at ys i x (omega (arith, h)) e in omega (arith, a)

module _ (u : Active) (t : Task) (o : Owned u (task_stock t)) where
  pub parts_owned : Owned u (both (head_stock (out-Task t).head) (tasks_stock (out-Task t).kids.items))
  parts_owned = subst (λ s. Owned u s) (task_stock_out t) o

  pub head_owned : Owned u (head_stock (out-Task t).head)
  head_owned = owned_left u (head_stock (out-Task t).head) (tasks_stock (out-Task t).kids.items) parts_owned

  pub kids_owned : Owned u (tasks_stock (out-Task t).kids.items)
  kids_owned = owned_right u (head_stock (out-Task t).head) (tasks_stock (out-Task t).kids.items) parts_owned

  pub parts_moved : (v : Active) (e : Task) → Moved u v (both (head_stock (out-Task t).head) (tasks_stock (out-Task t).kids.items)) (both (head_stock (out-Task e).head) (tasks_stock (out-Task e).kids.items)) → Moved u v (task_stock t) (task_stock e)
  parts_moved v e m = subst (λ s. Moved u v (task_stock t) s) (sym (task_stock_out e)) (subst (λ s. Moved u v s (both (head_stock (out-Task e).head) (tasks_stock (out-Task e).kids.items))) (sym (task_stock_out t)) m)

  -- the head is the same, and the children moved
  pub kids_moved : (v : Active) (e : Task) → (out-Task e).head ≡ (out-Task t).head → Moved u v (tasks_stock (out-Task t).kids.items) (tasks_stock (out-Task e).kids.items) → Moved u v (task_stock t) (task_stock e)
  kids_moved v e h m =
      let a : task_stock e ≡ both (head_stock (out-Task t).head) (tasks_stock (out-Task e).kids.items) = task_stock_out e ∙ ap (λ x. both (head_stock x) (tasks_stock (out-Task e).kids.items)) h in
      subst (λ s. Moved u v (task_stock t) s) (sym a) (subst (λ s. Moved u v s (both (head_stock (out-Task t).head) (tasks_stock (out-Task e).kids.items))) (sym (task_stock_out t))
      (moved_behind u v (head_stock (out-Task t).head) (tasks_stock (out-Task t).kids.items) (tasks_stock (out-Task e).kids.items) parts_owned m))

-- a task made of this head and of these children
pub kids_of_roll : (h : Head) (v : Vec Task Global) (ws : List Task) → length ws ≡ v.len → (out-Task (roll-Task (record { head = h; kids = with_items v ws }))).kids.items ≡ ws
kids_of_roll h v ws e = ap (λ (r : Task-F Task). r.kids.items) (out_roll (record { head = h; kids = with_items v ws })) ∙ with_items_is v ws e

-- the children moved, and were borrowed as a slice
pub slice_moved : (u v : Active) (t e : Task) → Owned u (task_stock t) → (ks es : List Task) → ks ≡ (out-Task t).kids.items → (out-Task e).head ≡ (out-Task t).head → (out-Task e).kids.items ≡ es
    → Moved u v (tasks_stock ks) (tasks_stock es) → Moved u v (task_stock t) (task_stock e)
slice_moved u v t e o ks es k h i m = kids_moved u t o v e h (subst (λ z. Moved u v (tasks_stock z) (tasks_stock (out-Task e).kids.items)) k (subst (λ z. Moved u v (tasks_stock ks) (tasks_stock z)) (sym i) m))

pub rolled : (u v : Active) (s : Stock) (x : Task-F Task) → Moved u v s (both (head_stock x.head) (tasks_stock x.kids.items)) → Moved u v s (both (head_stock (out-Task (roll-Task x)).head) (tasks_stock (out-Task (roll-Task x)).kids.items))
rolled u v s x m = subst (λ (z : Task-F Task). Moved u v s (both (head_stock z.head) (tasks_stock z.kids.items))) (sym (out_roll x)) m

-- one more item on the queue
pub queue_more : (l d : Stock) (xs ys : List Item) (i : Item) → ys ≡ xs ++ (i ∷ []) → both l (both d (items_stock ys)) ≡ both (both l (both d (items_stock xs))) (item_stock i)
queue_more l d xs ys i e =
    ap (λ zs. both l (both d (items_stock zs))) e
    ∙ ap (λ x. both l (both d x)) (all_push item_stock xs i)
    ∙ stock_is (both l (both d (both (items_stock xs) (item_stock i)))) (both (both l (both d (items_stock xs))) (item_stock i)) (λ p. omega arith) (λ p. omega arith)

-- the head alone changed
pub head_more : (x : Task-F Task) (t : Task) (s : Stock) → x.kids ≡ (out-Task t).kids → head_stock x.head ≡ both (head_stock (out-Task t).head) s → task_stock (roll-Task x) ≡ both (task_stock t) s
head_more x t s k h =
    let a : Stock = head_stock (out-Task t).head in
    let b : Stock = tasks_stock (out-Task t).kids.items in
    task_stock_roll x
    ∙ (λ j. both (h j) (tasks_stock (k j).items))
    ∙ stock_is (both (both a s) b) (both (both a b) s) (λ p. omega arith) (λ p. omega arith)
    ∙ ap (λ z. both z s) (sym (task_stock_out t))
