-- What the acts of a task move, part by part.
use Rattle.std.proofs.Common.{◌≡◌, ℕ, ◌<◌, List, ◌∷◌, length, get_or, set, Result, Ok, Err, IfOk, refl, sym, ap, subst, ◌∙◌, arith}
use Rattle.vx_sequence.specs.Universe.{Active}
use Rattle.vx_machine_ids.specs.Stock.{Stock, none, both, ok_stock}
use Rattle.vx_machine_ids.specs.Balance.{Owned, Moved}
use Rattle.vx_machine_ids.proofs.Stocks.{stock_is, both_none, none_both, both_assoc, both_turn}
use Rattle.vx_machine_ids.proofs.MoveLaws.{moved_none, moved_then, moved_beside, moved_behind, moved_drop, owned_left, owned_right, owned_now, owned_as, moved_as}
use Rattle.vx_machine_ids.proofs.Lists.{set_more, set_same}
use Rattle.vx_write_answer.specs.declared.error.WriteError.{WriteError}
use Rattle.vx_machine_node.specs.Stocks.{item_stock, items_stock, due_stock, dues_stock, local_stock}
use Rattle.vx_machine_task.specs.Stocks.{task_stock, tasks_stock}
use Rattle.vx_machine_node.specs.declared.item.Due.{Due}
use Rattle.vx_machine_node.specs.declared.item.Item.{Item}
use Rattle.vx_machine_node.specs.declared.node.Local.{Local}
use Rattle.vx_machine_task.specs.declared.task.Task.{Task}

-- nothing moves, and what is held is said in other words
pub stays_as : (u : Active) (s t : Stock) → s ≡ t → Owned u s → Moved u u s t
stays_as u s t e o = subst (λ x. Moved u u s x) e (moved_none u s o)

-- a local that holds nothing is replaced
pub then_set : (v w : Active) (l t k : Stock) → Owned v (both l k) → Moved v w (both l none) t → Moved v w (both l k) (both t k)
then_set v w l t k o m = moved_beside v w l t k o (moved_as v w (both l none) l t t (both_none l) refl m)

pub with_none : (v : Active) (l : Stock) → Owned v l → Owned v (both l none)
with_none v l o = owned_as v l (both l none) (sym (both_none l)) o

-- ---- a put

pub given_moved : (u : Active) (ts : List Task) (n : ℕ) (x y : Task) (i : Item) → n < length ts → get_or ts n x ≡ x → task_stock y ≡ both (task_stock x) (item_stock i)
    → Owned u (both (tasks_stock ts) (item_stock i)) → Moved u u (both (tasks_stock ts) (item_stock i)) (tasks_stock (set ts n y))
given_moved u ts n x y i h e g o = stays_as u (both (tasks_stock ts) (item_stock i)) (tasks_stock (set ts n y)) (sym (set_more task_stock ts n x y (item_stock i) h e g)) o

pub back_moved : (u v : Active) (ts : List Task) (n : ℕ) (x y : Task) (i : Item) → n < length ts → get_or ts n x ≡ x → task_stock y ≡ task_stock x
    → Owned u (both (tasks_stock ts) (item_stock i)) → Moved u v (item_stock i) none → Moved u v (both (tasks_stock ts) (item_stock i)) (tasks_stock (set ts n y))
back_moved u v ts n x y i h e g o m = subst (λ s. Moved u v (both (tasks_stock ts) (item_stock i)) s) (sym (set_same task_stock ts n x y h e g))
    (moved_drop u v (tasks_stock ts) (item_stock i) o m)

-- ---- an append and a join, and the layout in mind behind it

module _ (u v : Active) (l s : Stock) (o : Owned u (both l s)) (m : Moved u v s none) where
  pub spent : Moved u v (both l s) l
  spent = moved_drop u v l s o m

  pub spent_owned : Owned v (both l none)
  spent_owned = with_none v l (owned_now u v (both l s) l o spent)

  pub spent_then : (w : Active) (t : Stock) → Moved v w (both l none) t → Moved u w (both l s) t
  spent_then w t n = moved_then u v w (both l s) l t spent (moved_as v w (both l none) l t t (both_none l) refl n)

module _ (u v : Active) (l k r : Stock) (o : Owned u (both l k)) (m : Moved u v k r) where
  pub joined_moved : Moved u v (both l k) (both l r)
  joined_moved = moved_behind u v l k r o m

  joined_owned : Owned v (both l r)
  joined_owned = owned_now u v (both l k) (both l r) o joined_moved

  pub local_owned : Owned v (both l none)
  local_owned = with_none v l (owned_left v l r joined_owned)

  pub joined_then : (w : Active) (t : Stock) → Moved v w (both l none) t → Moved u w (both l k) (both t r)
  joined_then w t n = moved_then u v w (both l k) (both l r) (both t r) joined_moved (then_set v w l t r joined_owned n)

-- ---- an act by what is due

-- it touches the children: what is in mind and what is left to do stay beside it
module _ (u : Active) (l k d i : Stock) (is : d ≡ i) (o : Owned u (both (both l k) d)) where
  behind : both (both l k) d ≡ both l (both k i)
  behind = both_assoc l k d ∙ ap (λ z. both l (both k z)) is

  pub put_owned : Owned u (both k i)
  put_owned = owned_right u l (both k i) (owned_as u (both (both l k) d) (both l (both k i)) behind o)

  pub put_moved : (v : Active) (r : Stock) → Moved u v (both k i) r → Moved u v (both (both l k) d) (both l r)
  put_moved v r m = moved_as u v (both l (both k i)) (both (both l k) d) (both l r) (both l r) (sym behind) refl
      (moved_behind u v l (both k i) r (owned_as u (both (both l k) d) (both l (both k i)) behind o) m)

-- it touches what is in mind, or what is left to do
module _ (u : Active) (l t k d i : Stock) (is : d ≡ i) (o : Owned u (both (both (both l t) k) d)) where
  beside : both (both (both l t) k) d ≡ both (both l i) (both t k)
  beside = stock_is (both (both (both l t) k) d) (both (both l d) (both t k)) (λ p. omega arith) (λ p. omega arith) ∙ ap (λ z. both (both l z) (both t k)) is

  pub append_owned : Owned u (both l i)
  append_owned = owned_left u (both l i) (both t k) (owned_as u (both (both (both l t) k) d) (both (both l i) (both t k)) beside o)

  pub append_moved : (v : Active) (m : Stock) → Moved u v (both l i) m → Moved u v (both (both (both l t) k) d) (both (both m t) k)
  append_moved v m h = moved_as u v (both (both l i) (both t k)) (both (both (both l t) k) d) (both m (both t k)) (both (both m t) k) (sym beside) (sym (both_assoc m t k))
      (moved_beside u v (both l i) m (both t k) (owned_as u (both (both (both l t) k) d) (both (both l i) (both t k)) beside o) h)

  before : both (both (both l t) k) d ≡ both (both t i) (both l k)
  before = stock_is (both (both (both l t) k) d) (both (both t d) (both l k)) (λ p. omega arith) (λ p. omega arith) ∙ ap (λ z. both (both t z) (both l k)) is

  pub press_owned : Owned u (both t i)
  press_owned = owned_left u (both t i) (both l k) (owned_as u (both (both (both l t) k) d) (both (both t i) (both l k)) before o)

  pub press_moved : (v : Active) (m : Stock) → Moved u v (both t i) m → Moved u v (both (both (both l t) k) d) (both (both l m) k)
  press_moved v m h = moved_as u v (both (both t i) (both l k)) (both (both (both l t) k) d) (both m (both l k)) (both (both l m) k) (sym before)
      (stock_is (both m (both l k)) (both (both l m) k) (λ p. omega arith) (λ p. omega arith))
      (moved_beside u v (both t i) m (both l k) (owned_as u (both (both (both l t) k) d) (both (both t i) (both l k)) before o) h)

  -- or is given up
  pub leave_owned : Owned u i
  leave_owned = owned_right u t i press_owned

  pub leave_moved : (v : Active) → Moved u v i none → Moved u v (both (both (both l t) k) d) (both (both l t) k)
  leave_moved v h = press_moved v t (moved_drop u v t i press_owned h)

-- it holds nothing
module _ (u : Active) (l t k d : Stock) (is : d ≡ none) (o : Owned u (both (both (both l t) k) d)) where
  alone : both (both (both l t) k) d ≡ both (both l k) t
  alone = ap (both (both (both l t) k)) is ∙ both_none (both (both l t) k) ∙ both_turn l t k

  pub join_owned : Owned u (both l k)
  join_owned = owned_left u (both l k) t (owned_as u (both (both (both l t) k) d) (both (both l k) t) alone o)

  pub join_moved : (v : Active) (m r : Stock) → Moved u v (both l k) (both m r) → Moved u v (both (both (both l t) k) d) (both (both m t) r)
  join_moved v m r h = moved_as u v (both (both l k) t) (both (both (both l t) k) d) (both (both m r) t) (both (both m t) r) (sym alone) (both_turn m r t)
      (moved_beside u v (both l k) (both m r) t (owned_as u (both (both (both l t) k) d) (both (both l k) t) alone o) h)

  pub close_moved : (r : Stock) → r ≡ k → Moved u u (both (both (both l t) k) d) (both (both l t) r)
  close_moved r e = stays_as u (both (both (both l t) k) d) (both (both l t) r) (ap (both (both (both l t) k)) is ∙ both_none (both (both l t) k) ∙ ap (both (both l t)) (sym e)) o

-- ---- a take

module _ (u : Active) (l d k i : Stock) (o : Owned u (both (both (both l d) k) i)) where
  -- by a chunked node, whose pointer is all that its local holds
  chunked_is : both (both (both l d) k) i ≡ both (both (both l k) i) d
  chunked_is = stock_is (both (both (both l d) k) i) (both (both (both l k) i) d) (λ p. omega arith) (λ p. omega arith)

  chunked_owned : Owned u (both (both (both l k) i) d)
  chunked_owned = owned_as u (both (both (both l d) k) i) (both (both (both l k) i) d) chunked_is o

  pub take_chunked_owned : (e : Stock) → l ≡ e → Owned u (both (both e k) i)
  take_chunked_owned e is = subst (λ z. Owned u (both (both z k) i)) is (owned_left u (both (both l k) i) d chunked_owned)

  pub take_chunked_moved : (v : Active) (e t r : Stock) → l ≡ e → Moved u v (both (both e k) i) (both t r) → Moved u v (both (both (both l d) k) i) (both (both t d) r)
  take_chunked_moved v e t r is m = moved_as u v (both (both (both l k) i) d) (both (both (both l d) k) i) (both (both t r) d) (both (both t d) r) (sym chunked_is) (both_turn t r d)
      (moved_beside u v (both (both l k) i) (both t r) d chunked_owned (subst (λ z. Moved u v (both (both z k) i) (both t r)) (sym is) m))

  -- by a struct's node, whose local holds nothing
  columns_is : both (both (both l d) k) i ≡ both (both d i) (both l k)
  columns_is = stock_is (both (both (both l d) k) i) (both (both d i) (both l k)) (λ p. omega arith) (λ p. omega arith)

  columns_owned : Owned u (both (both d i) (both l k))
  columns_owned = owned_as u (both (both (both l d) k) i) (both (both d i) (both l k)) columns_is o

  pub take_columns_owned : Owned u (both d i)
  take_columns_owned = owned_left u (both d i) (both l k) columns_owned

  columns_then : (t r : Stock) → both r (both l k) ≡ both (both l r) k
  columns_then t r = stock_is (both r (both l k)) (both (both l r) k) (λ p. omega arith) (λ p. omega arith)

  pub take_columns_moved : (v : Active) (t r : Stock) → t ≡ l → Moved u v (both d i) r → Moved u v (both (both (both l d) k) i) (both (both t r) k)
  take_columns_moved v t r is m = moved_as u v (both (both d i) (both l k)) (both (both (both l d) k) i) (both r (both l k)) (both (both t r) k) (sym columns_is)
      (columns_then t r ∙ ap (λ z. both (both z r) k) (sym is)) (moved_beside u v (both d i) r (both l k) columns_owned m)

  -- by any other
  flat_is : both (both (both l d) k) i ≡ both (both l i) (both d k)
  flat_is = stock_is (both (both (both l d) k) i) (both (both l i) (both d k)) (λ p. omega arith) (λ p. omega arith)

  flat_owned : Owned u (both (both l i) (both d k))
  flat_owned = owned_as u (both (both (both l d) k) i) (both (both l i) (both d k)) flat_is o

  pub take_flat_owned : Owned u (both l i)
  take_flat_owned = owned_left u (both l i) (both d k) flat_owned

  pub take_flat_moved : (v : Active) (t : Stock) → Moved u v (both l i) t → Moved u v (both (both (both l d) k) i) (both (both t d) k)
  take_flat_moved v t m = moved_as u v (both (both l i) (both d k)) (both (both (both l d) k) i) (both t (both d k)) (both (both t d) k) (sym flat_is) (sym (both_assoc t d k))
      (moved_beside u v (both l i) t (both d k) flat_owned m)

  -- an item that is given up
  pub take_nothing_owned : Owned u i
  take_nothing_owned = owned_right u (both (both l d) k) i o

  pub take_nothing_moved : (v : Active) → Moved u v i none → Moved u v (both (both (both l d) k) i) (both (both l d) k)
  take_nothing_moved v m = moved_drop u v (both (both l d) k) i o m

  -- by a node that regroups
  pub take_group_owned : Owned u (both (both l d) i)
  take_group_owned = owned_left u (both (both l d) i) k (owned_as u (both (both (both l d) k) i) (both (both (both l d) i) k) (both_turn (both l d) k i) o)

  pub take_group_moved : (v : Active) (r : Stock) → Moved u v (both (both l d) i) r → Moved u v (both (both (both l d) k) i) (both r k)
  take_group_moved v r m =
      moved_as u v (both (both (both l d) i) k) (both (both (both l d) k) i) (both r k) (both r k) (sym (both_turn (both l d) k i)) refl
      (moved_beside u v (both (both l d) i) r k (owned_as u (both (both (both l d) k) i) (both (both (both l d) i) k) (both_turn (both l d) k i) o) m)

-- ---- the end of a stream

pub ok_none : (r : Result Local WriteError) → IfOk r (λ l. local_stock l ≡ none) → ok_stock local_stock r ≡ none
ok_none (Ok l) h = h
ok_none (Err e) h = refl

-- one that held nothing holds nothing
pub ended_none : (u : Active) (l t d r : Stock) → l ≡ none → t ≡ none → r ≡ d → Owned u (both l d) → Moved u u (both l d) (both t r)
ended_none u l t d r a b e o = stays_as u (both l d) (both t r) (λ j. both ((a ∙ sym b) j) (sym e j)) o

-- its segment is to be appended
pub ended_full : (u : Active) (l s d r : Stock) → l ≡ s → r ≡ both d s → Owned u (both l d) → Moved u u (both l d) (both none r)
ended_full u l s d r a e o = stays_as u (both l d) (both none r)
    (ap (λ z. both z d) a ∙ stock_is (both s d) (both none (both d s)) (λ p. omega arith) (λ p. omega arith) ∙ ap (both none) (sym e)) o

-- its pointer is given up
pub ended_owned : (u : Active) (l e d : Stock) → l ≡ e → Owned u (both l d) → Owned u e
ended_owned u l e d a o = subst (λ z. Owned u z) a (owned_left u l d o)

pub ended_chunked : (u v : Active) (l e d r : Stock) → l ≡ e → r ≡ d → Owned u (both l d) → Moved u v e none → Moved u v (both l d) (both none r)
ended_chunked u v l e d r a b o m = moved_as u v (both l d) (both l d) (both none d) (both none r) refl (ap (both none) (sym b))
    (moved_beside u v l none d o (subst (λ z. Moved u v z none) (sym a) m))

-- of both together: what was in mind ended as t with r still due, and what was put in mind then is w's
module _ (u v : Active) (l d b c t r : Stock) (is : b ≡ l) (due : c ≡ d) (o : Owned u (both l d)) where
  pub end_owned : Owned u (both b c)
  end_owned = owned_as u (both l d) (both b c) (λ j. both (sym is j) (sym due j)) o

  pub end_moved : Moved u v (both b c) (both t r) → Moved u v (both l d) (both t r)
  end_moved m = moved_as u v (both b c) (both l d) (both t r) (both t r) (λ j. both (is j) (due j)) refl m

  pub end_local : (n : Stock) → n ≡ none → Moved u v (both b c) (both t r) → Owned v (both n t)
  end_local n e m = owned_as v t (both n t) (sym (none_both t) ∙ ap (λ z. both z t) (sym e)) (owned_left v t r (owned_now u v (both l d) (both t r) o (end_moved m)))

  pub end_then : (w : Active) (n s : Stock) → n ≡ none → Moved u v (both b c) (both t r) → Moved v w (both n t) s → Moved u w (both l d) (both s r)
  end_then w n s e m k = moved_then u v w (both l d) (both t r) (both s r) (end_moved m)
      (moved_beside v w t s r (owned_now u v (both l d) (both t r) o (end_moved m)) (moved_as v w (both n t) t s s (ap (λ z. both z t) e ∙ none_both t) refl k))

-- ---- the next act of a task

module _ (u : Active) (l q k : Stock) (ds rest : List Due) (d : Due) (is : ds ≡ d ∷ rest) (o : Owned u (both (both l (both (dues_stock ds) q)) k)) where
  first_is : both (both l (both (dues_stock ds) q)) k ≡ both (both (both (both l (dues_stock rest)) k) (due_stock d)) q
  first_is = ap (λ z. both (both l (both (dues_stock z) q)) k) is
      ∙ stock_is (both (both l (both (both (due_stock d) (dues_stock rest)) q)) k) (both (both (both (both l (dues_stock rest)) k) (due_stock d)) q) (λ p. omega arith) (λ p. omega arith)

  first_held : Owned u (both (both (both (both l (dues_stock rest)) k) (due_stock d)) q)
  first_held = owned_as u (both (both l (both (dues_stock ds) q)) k) (both (both (both (both l (dues_stock rest)) k) (due_stock d)) q) first_is o

  pub act_owned : Owned u (both (both (both l (dues_stock rest)) k) (due_stock d))
  act_owned = owned_left u (both (both (both l (dues_stock rest)) k) (due_stock d)) q first_held

  after_is : (m t r : Stock) → both (both (both m t) r) q ≡ both (both m (both t q)) r
  after_is m t r = stock_is (both (both (both m t) r) q) (both (both m (both t q)) r) (λ p. omega arith) (λ p. omega arith)

  pub act_moved : (v : Active) (m t r : Stock) → Moved u v (both (both (both l (dues_stock rest)) k) (due_stock d)) (both (both m t) r) → Moved u v (both (both l (both (dues_stock ds) q)) k) (both (both m (both t q)) r)
  act_moved v m t r h = moved_as u v (both (both (both (both l (dues_stock rest)) k) (due_stock d)) q) (both (both l (both (dues_stock ds) q)) k)
      (both (both (both m t) r) q) (both (both m (both t q)) r) (sym first_is) (after_is m t r)
      (moved_beside u v (both (both (both l (dues_stock rest)) k) (due_stock d)) (both (both m t) r) q first_held h)

-- none is due
module _ (u : Active) (l q k : Stock) (ds es : List Due) (is : ds ≡ es) (o : Owned u (both (both l (both (dues_stock ds) q)) k)) where
  idle : both (both l (both (dues_stock ds) q)) k ≡ both (both l (both (dues_stock es) q)) k
  idle = ap (λ z. both (both l (both (dues_stock z) q)) k) is

  pub idle_owned : Owned u (both (both l (both (dues_stock es) q)) k)
  idle_owned = owned_as u (both (both l (both (dues_stock ds) q)) k) (both (both l (both (dues_stock es) q)) k) idle o

  pub idle_moved : (v : Active) (t : Stock) → Moved u v (both (both l (both (dues_stock es) q)) k) t → Moved u v (both (both l (both (dues_stock ds) q)) k) t
  idle_moved v t m = moved_as u v (both (both l (both (dues_stock es) q)) k) (both (both l (both (dues_stock ds) q)) k) t t (sym idle) refl m

-- an item is taken from the queue
module _ (u : Active) (l d k : Stock) (xs rest : List Item) (i : Item) (from : xs ≡ i ∷ rest) (o : Owned u (both (both l (both d (items_stock xs))) k)) where
  item_is : both (both l (both d (items_stock xs))) k ≡ both (both (both (both l d) k) (item_stock i)) (items_stock rest)
  item_is = ap (λ z. both (both l (both d (items_stock z))) k) from
      ∙ stock_is (both (both l (both d (both (item_stock i) (items_stock rest)))) k) (both (both (both (both l d) k) (item_stock i)) (items_stock rest)) (λ p. omega arith) (λ p. omega arith)

  item_held : Owned u (both (both (both (both l d) k) (item_stock i)) (items_stock rest))
  item_held = owned_as u (both (both l (both d (items_stock xs))) k) (both (both (both (both l d) k) (item_stock i)) (items_stock rest)) item_is o

  pub take_owned : Owned u (both (both (both l d) k) (item_stock i))
  take_owned = owned_left u (both (both (both l d) k) (item_stock i)) (items_stock rest) item_held

  taken_is : (t r n : Stock) → both (both (both t r) n) (items_stock rest) ≡ both (both t (both r (items_stock rest))) n
  taken_is t r n = stock_is (both (both (both t r) n) (items_stock rest)) (both (both t (both r (items_stock rest))) n) (λ p. omega arith) (λ p. omega arith)

  pub take_moved : (v : Active) (t r n : Stock) → Moved u v (both (both (both l d) k) (item_stock i)) (both (both t r) n)
      → Moved u v (both (both l (both d (items_stock xs))) k) (both (both t (both r (items_stock rest))) n)
  take_moved v t r n m = moved_as u v (both (both (both (both l d) k) (item_stock i)) (items_stock rest)) (both (both l (both d (items_stock xs))) k)
      (both (both (both t r) n) (items_stock rest)) (both (both t (both r (items_stock rest))) n) (sym item_is) (taken_is t r n)
      (moved_beside u v (both (both (both l d) k) (item_stock i)) (both (both t r) n) (items_stock rest) item_held m)

-- the end is taken
module _ (u : Active) (l d k : Stock) (xs ys : List Item) (is : xs ≡ ys) (o : Owned u (both (both l (both d (items_stock xs))) k)) where
  rest_is : both (both l (both d (items_stock xs))) k ≡ both (both l d) (both (items_stock ys) k)
  rest_is = ap (λ z. both (both l (both d (items_stock z))) k) is
      ∙ stock_is (both (both l (both d (items_stock ys))) k) (both (both l d) (both (items_stock ys) k)) (λ p. omega arith) (λ p. omega arith)

  rest_held : Owned u (both (both l d) (both (items_stock ys) k))
  rest_held = owned_as u (both (both l (both d (items_stock xs))) k) (both (both l d) (both (items_stock ys) k)) rest_is o

  pub last_owned : Owned u (both l d)
  last_owned = owned_left u (both l d) (both (items_stock ys) k) rest_held

  last_is : (t r : Stock) → both (both t r) (both (items_stock ys) k) ≡ both (both t (both r (items_stock ys))) k
  last_is t r = stock_is (both (both t r) (both (items_stock ys) k)) (both (both t (both r (items_stock ys))) k) (λ p. omega arith) (λ p. omega arith)

  pub last_moved : (v : Active) (t r : Stock) → Moved u v (both l d) (both t r) → Moved u v (both (both l (both d (items_stock xs))) k) (both (both t (both r (items_stock ys))) k)
  last_moved v t r m = moved_as u v (both (both l d) (both (items_stock ys) k)) (both (both l (both d (items_stock xs))) k)
      (both (both t r) (both (items_stock ys) k)) (both (both t (both r (items_stock ys))) k) (sym rest_is) (last_is t r)
      (moved_beside u v (both l d) (both t r) (both (items_stock ys) k) rest_held m)

  -- with the children
  pub probe_owned : Owned u (both (both l d) k)
  probe_owned = owned_left u (both (both l d) k) (items_stock ys) (owned_as u (both (both l d) (both (items_stock ys) k)) (both (both (both l d) k) (items_stock ys)) probe_is rest_held)
    where
      probe_is : both (both l d) (both (items_stock ys) k) ≡ both (both (both l d) k) (items_stock ys)
      probe_is = stock_is (both (both l d) (both (items_stock ys) k)) (both (both (both l d) k) (items_stock ys)) (λ p. omega arith) (λ p. omega arith)

  pub probe_moved : (v : Active) (t r n : Stock) → Moved u v (both (both l d) k) (both (both t r) n) → Moved u v (both (both l (both d (items_stock xs))) k) (both (both t (both r (items_stock ys))) n)
  probe_moved v t r n m = moved_as u v (both (both (both l d) k) (items_stock ys)) (both (both l (both d (items_stock xs))) k)
      (both (both (both t r) n) (items_stock ys)) (both (both t (both r (items_stock ys))) n) (sym apart)
      (stock_is (both (both (both t r) n) (items_stock ys)) (both (both t (both r (items_stock ys))) n) (λ p. omega arith) (λ p. omega arith))
      (moved_beside u v (both (both l d) k) (both (both t r) n) (items_stock ys) (owned_as u (both (both l (both d (items_stock xs))) k) (both (both (both l d) k) (items_stock ys)) apart o) m)
    where
      apart : both (both l (both d (items_stock xs))) k ≡ both (both (both l d) k) (items_stock ys)
      apart = rest_is ∙ stock_is (both (both l d) (both (items_stock ys) k)) (both (both (both l d) k) (items_stock ys)) (λ p. omega arith) (λ p. omega arith)
