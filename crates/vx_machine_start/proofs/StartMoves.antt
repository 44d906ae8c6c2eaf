-- What a start moves, call by call.
use Rattle.std.proofs.Common.{◌≡◌, List, [], ◌∷◌, ◌++◌, refl, sym, ap, ◌∙◌, arith}
use Rattle.vx_sequence.specs.Universe.{Active}
use Rattle.vx_machine_ids.specs.Stock.{Stock, none, both}
use Rattle.vx_machine_ids.specs.Balance.{Owned, Moved}
use Rattle.vx_machine_ids.proofs.Stocks.{stock_is, both_none, none_both, both_assoc, both_swap, all_push}
use Rattle.vx_machine_ids.proofs.MoveLaws.{moved_then, moved_beside, moved_drop_first, moved_as, owned_as, owned_now, owned_left, owned_right}
use Rattle.vx_machine_node.specs.Stocks.{local_stock, dues_stock, items_stock}
use Rattle.vx_machine_task.specs.Stocks.{task_stock, tasks_stock}
use Rattle.vx_machine_task.specs.declared.task.Task.{Task}
use Rattle.vx_machine_task.specs.declared.task.Task.TheOpen.{Task-F}
use Rattle.vx_machine_task.specs.declared.task.Task.TheViews.{roll-Task}
use Rattle.vx_machine_task.proofs.TaskParts.{task_stock_roll}

-- a task with nothing to do and nothing on its queue
pub idle_stock : (x : Task-F Task) → x.head.todo.items ≡ [] → x.head.inbox.items ≡ [] → task_stock (roll-Task x) ≡ both (local_stock x.head.local) (tasks_stock x.kids.items)
idle_stock x a b =
    task_stock_roll x
    ∙ (λ j. both (both (local_stock x.head.local) (both (dues_stock (a j)) (items_stock (b j)))) (tasks_stock x.kids.items))
    ∙ stock_is (both (both (local_stock x.head.local) (both none none)) (tasks_stock x.kids.items)) (both (local_stock x.head.local) (tasks_stock x.kids.items)) (λ p. omega arith) (λ p. omega arith)

-- ---- a task that starts alone

-- it holds what its local does
pub alone_moved : (u v : Active) (s l : Stock) (t : Task) (ks : List Task) → ks ≡ [] → task_stock t ≡ both l (tasks_stock ks) → Moved u v s l → Moved u v s (task_stock t)
alone_moved u v s l t ks e is m = moved_as u v s s l (task_stock t) refl (sym (is ∙ ap (λ z. both l (tasks_stock z)) e ∙ both_none l)) m

-- ---- a pointer, and the children that are started

module _ (u v : Active) (e : Stock) (ks : List Task) (is : ks ≡ []) where
  same : both e (tasks_stock ks) ≡ e
  same = ap (λ z. both e (tasks_stock z)) is ∙ both_none e

  pub none_yet : Owned u e → Owned u (both e (tasks_stock ks))
  none_yet o = owned_as u e (both e (tasks_stock ks)) (sym same) o

  pub from_none : (s : Stock) → Moved u v (both e (tasks_stock ks)) s → Moved u v e s
  from_none s m = moved_as u v (both e (tasks_stock ks)) e s s same refl m

-- the pointer is given up, and the children are left
module _ (u v : Active) (e f k : Stock) (o : Owned u e) (m : Moved u v e (both f k)) where
  pub pointer_owned : Owned v f
  pointer_owned = owned_left v f k (owned_now u v e (both f k) o m)

  pub kids_left : (w : Active) → Moved v w f none → Moved u w e k
  kids_left w n = moved_then u v w e (both f k) k m (moved_drop_first v w f k (owned_now u v e (both f k) o m) n)

  pub left_owned : (w : Active) → Moved v w f none → Owned w k
  left_owned w n = owned_now u w e k o (kids_left w n)

-- the children are held by a task that holds nothing else
pub held_kids : (u v : Active) (e k : Stock) (t : Task) → task_stock t ≡ both none k → Moved u v e k → Moved u v e (task_stock t)
held_kids u v e k t is m = moved_as u v e e k (task_stock t) refl (sym (is ∙ none_both k)) m

-- ---- one more child

-- the list is the same
pub same_kids : (u v : Active) (s e : Stock) (ks js : List Task) → js ≡ ks → Moved u v s (both e (tasks_stock ks)) → Moved u v s (both e (tasks_stock js))
same_kids u v s e ks js is m = moved_as u v s s (both e (tasks_stock ks)) (both e (tasks_stock js)) refl (ap (λ z. both e (tasks_stock z)) (sym is)) m

-- refused, the pointer alone changed
pub pointer_moved : (u v : Active) (e f k : Stock) → Owned u (both e k) → Moved u v e (both f none) → Moved u v (both e k) (both f k)
pointer_moved u v e f k o m = moved_as u v (both e k) (both e k) (both (both f none) k) (both f k) refl (ap (λ x. both x k) (both_none f)) (moved_beside u v e (both f none) k o m)

-- the child stands behind the others
pub child_moved : (u v : Active) (e f : Stock) (ks js : List Task) (t : Task) → Owned u (both e (tasks_stock ks)) → Moved u v e (both f (task_stock t)) → js ≡ ks ++ (t ∷ [])
    → Moved u v (both e (tasks_stock ks)) (both f (tasks_stock js))
child_moved u v e f ks js t o m is =
    let k : Stock = tasks_stock ks in
    moved_as u v (both e k) (both e k) (both (both f (task_stock t)) k) (both f (tasks_stock js)) refl
    (stock_is (both (both f (task_stock t)) k) (both f (both k (task_stock t))) (λ p. omega arith) (λ p. omega arith)
    ∙ ap (both f) (sym (all_push task_stock ks t)) ∙ ap (λ z. both f (tasks_stock z)) (sym is))
    (moved_beside u v e (both f (task_stock t)) k o m)

-- a child takes an item, and then stands behind the others
pub fed_moved : (u v w : Active) (e f i : Stock) (ks js : List Task) (t s : Task) → Owned u (both (both e (tasks_stock ks)) i) → Moved u v e (both f (task_stock t))
    → Moved v w (both (task_stock t) i) (task_stock s) → js ≡ ks ++ (s ∷ []) → Moved u w (both (both e (tasks_stock ks)) i) (both f (tasks_stock js))
fed_moved u v w e f i ks js t s o m n is =
    let k : Stock = tasks_stock ks in
    let a : Stock = task_stock t in
    let b : Stock = task_stock s in
    let turned : both (both f a) (both k i) ≡ both (both a i) (both f k) = stock_is (both (both f a) (both k i)) (both (both a i) (both f k)) (λ p. omega arith) (λ p. omega arith) in
    let before : Owned u (both e (both k i)) = owned_as u (both (both e k) i) (both e (both k i)) (both_assoc e k i) o in
    let first : Moved u v (both e (both k i)) (both (both f a) (both k i)) = moved_beside u v e (both f a) (both k i) before m in
    let between : Owned v (both (both a i) (both f k)) = owned_as v (both (both f a) (both k i)) (both (both a i) (both f k)) turned (owned_now u v (both e (both k i)) (both (both f a) (both k i)) before first) in
    let second : Moved v w (both (both a i) (both f k)) (both b (both f k)) = moved_beside v w (both a i) b (both f k) between n in
    moved_as u w (both (both e k) i) (both (both e k) i) (both b (both f k)) (both f (tasks_stock js)) refl
    (stock_is (both b (both f k)) (both f (both k b)) (λ p. omega arith) (λ p. omega arith) ∙ ap (both f) (sym (all_push task_stock ks s)) ∙ ap (λ z. both f (tasks_stock z)) (sym is))
    (moved_then u v w (both (both e k) i) (both (both a i) (both f k)) (both b (both f k))
    (moved_as u v (both e (both k i)) (both (both e k) i) (both (both f a) (both k i)) (both (both a i) (both f k)) (sym (both_assoc e k i)) turned first) second)

-- ---- what is split off

module _ (u v : Active) (e f b : Stock) (o : Owned u e) (m : Moved u v e (both f b)) where
  pub off_owned : Owned v b
  off_owned = owned_right v f b (owned_now u v e (both f b) o m)

  -- the other pointer goes on beside what is made of it
  pub off_moved : (w : Active) (t : Stock) → Moved v w b t → Moved u w e (both f t)
  off_moved w t n =
      moved_then u v w e (both f b) (both f t) m
      (moved_as v w (both b f) (both f b) (both t f) (both f t) (both_swap b f) (both_swap t f)
      (moved_beside v w b t f (owned_as v (both f b) (both b f) (both_swap f b) (owned_now u v e (both f b) o m)) n))
