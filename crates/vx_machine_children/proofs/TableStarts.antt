-- How a zone table's child starts.
use Rattle.std.proofs.Common.{◌≡◌, ℕ, ◌+◌, ◌<◌, ◌^◌, false, true, List, [], ◌∷◌, ◌++◌, None, refl, sym, ap, subst, ◌∙◌, inl, inr, ⊎_elim, arith}
use Rattle.vx_model.specs.ChunkData.{ChunkData}
use Rattle.vx_model.specs.Ty.{Ty}
use Rattle.vx_path.specs.Path.{Eof, under, eof_path, next}
use Rattle.vx_sequence.specs.Universe.{Active}
use Rattle.vx_order.specs.Outlet.{Outlet}
use Rattle.vx_order.specs.Answers.{FullAt}
use Rattle.vx_order_answer.specs.declared.errors.OrderError.{OrderError}
use Rattle.vx_order_answer.specs.declared.errors.OrderError.TheVariants as order
use Rattle.vx_write_answer.specs.Causes.{of_order}
use Rattle.vx_strategy_spec.specs.StrategyData.{StrategyData}
use Rattle.vx_plan.specs.PlanData.{Setting, Item as Piece}
use Rattle.vx_machine_turns.specs.Forms.{Form}
use Rattle.vx_machine_turns.specs.Starts.{start_fault}
use Rattle.vx_machine_ids.specs.Stock.{Stock, none, both}
use Rattle.vx_machine_ids.specs.Balance.{Owned, Moved}
use Rattle.vx_machine_ids.proofs.Stocks.{stock_is, none_both, both_none, both_turn}
use Rattle.vx_machine_ids.proofs.MoveLaws.{moved_then, moved_behind, moved_drop, moved_drop_first, moved_as, owned_as, owned_now, owned_left, owned_right}
use Rattle.vx_machine_state.specs.State.{Next, start_table, Mind, Tasks, task_then}
use Rattle.vx_machine_state.specs.Start.{first_indices, started_task}
use Rattle.vx_machine_state.specs.Acts.{add, with_item, shut_desk}
use Rattle.vx_machine_state.specs.Zoned.{table_item}
use Rattle.vx_write_answer.specs.declared.step.ActionKind.TheVariants as actions
use Rattle.vx_write_answer.specs.declared.error.WriteError.{WriteError}
use Rattle.vx_write_answer.specs.declared.error.WriteError.TheVariants.{SourceFault, SinkFault, CompressFault, BatchType, NotStruct, DuplicateField, ManyChunks, EmptyList, ZoneCut, ForbiddenAggregate, ForbiddenEncoding, TooLarge, OutOfMemory, Stopped}
use Rattle.vx_machine_nodes.specs.Acting.{acted, ActDone, ActRefused}
use Rattle.vx_machine_node.specs.Context.{Allowed}
use Rattle.vx_machine_node.specs.Outcome.{AllFit}
use Rattle.vx_machine_node.specs.View.{form_at}
use Rattle.vx_machine_node.proofs.Fitting.{then_fit}
use Rattle.vx_machine_task.specs.declared.task.Task.{Task, out-Task}
use Rattle.vx_machine_start.specs.Starting.{IsAllowed, Counted, Started, StartRefused, FormRefused, PointerRefused}
use Rattle.vx_machine_task.specs.Stocks.{task_stock, tasks_stock}
use Rattle.vx_machine_task.specs.View.{desk_of, task_row, row}
use Rattle.vx_machine_start.proofs.StartRows.{kid_added, fed_task, started_as}
use Rattle.vx_machine_start.proofs.StartShows.{refused_as, far_refused}
use Rattle.vx_machine_start.proofs.StartMoves.{fed_moved, off_owned, off_moved}

-- ---- what is held

-- an id below a pointer, which goes on
pub first_moved : (u v w x : Active) (e f b c i : Stock) → Owned u e → Moved u v e (both f b) → Moved v w b (both c i) → Moved w x c none → Moved u x e (both f i)
first_moved u v w x e f b c i o m n p =
    off_moved u v e f b o m x i (moved_then v w x b (both c i) i n (moved_drop_first w x c i (owned_now v w b (both c i) (off_owned u v e f b o m) n) p))

-- the pointer below, and the one that is left of it
pub below_left : (u v w : Active) (e f b c i : Stock) → Owned u e → Moved u v e (both f b) → Moved v w b (both c i) → Owned w c
below_left u v w e f b c i o m n = owned_left w c i (owned_now v w b (both c i) (off_owned u v e f b o m) n)

module _ (u v w : Active) (e i : Stock) (ks : List Task) (o : Owned u (both (both (tasks_stock ks) i) e)) where
  -- the pointer alone, and the item alone
  pub fed_pointer : Owned u e
  fed_pointer = owned_right u (both (tasks_stock ks) i) e o

  pub fed_item : Owned u i
  fed_item = owned_right u (tasks_stock ks) i (owned_left u (both (tasks_stock ks) i) e o)

  -- a child that takes an item
  pub fed_alone : (js : List Task) (t s : Task) → Moved u v e (task_stock t) → Moved v w (both (task_stock t) i) (task_stock s) → js ≡ ks ++ (s ∷ []) → Moved u w (both (both (tasks_stock ks) i) e) (tasks_stock js)
  fed_alone js t s m n is =
      let turned : both (both (tasks_stock ks) i) e ≡ both (both e (tasks_stock ks)) i = stock_is (both (both (tasks_stock ks) i) e) (both (both e (tasks_stock ks)) i) (λ p. omega arith) (λ p. omega arith) in
      moved_as u w (both (both e (tasks_stock ks)) i) (both (both (tasks_stock ks) i) e) (both none (tasks_stock js)) (tasks_stock js) (sym turned) (none_both (tasks_stock js))
      (fed_moved u v w e none i ks js t s (owned_as u (both (both (tasks_stock ks) i) e) (both (both e (tasks_stock ks)) i) turned o)
      (moved_as u v e e (task_stock t) (both none (task_stock t)) refl (sym (none_both (task_stock t))) m) n is)

  module _ (t : Stock) (m : Moved u v e t) where
    item_last : both (both (tasks_stock ks) i) t ≡ both (tasks_stock ks) (both t i)
    item_last = stock_is (both (both (tasks_stock ks) i) t) (both (tasks_stock ks) (both t i)) (λ p. omega arith) (λ p. omega arith)

    begun : Moved u v (both (both (tasks_stock ks) i) e) (both (tasks_stock ks) (both t i))
    begun = moved_as u v (both (both (tasks_stock ks) i) e) (both (both (tasks_stock ks) i) e) (both (both (tasks_stock ks) i) t) (both (tasks_stock ks) (both t i)) refl item_last (moved_behind u v (both (tasks_stock ks) i) e t o m)

    begun_owned : Owned v (both (tasks_stock ks) (both t i))
    begun_owned = owned_now u v (both (both (tasks_stock ks) i) e) (both (tasks_stock ks) (both t i)) o begun

    -- the item beside it
    pub fed_owned : Owned v (both t i)
    fed_owned = owned_right v (tasks_stock ks) (both t i) begun_owned

    -- it takes none
    pub fed_none : Moved v w (both t i) none → Moved u w (both (both (tasks_stock ks) i) e) (tasks_stock ks)
    fed_none n = moved_then u v w (both (both (tasks_stock ks) i) e) (both (tasks_stock ks) (both t i)) (tasks_stock ks) begun (moved_drop v w (tasks_stock ks) (both t i) begun_owned n)

  -- the item alone, where it isn't started
  pub left_item : Moved u v e none → Owned v i
  left_item m = owned_right v (tasks_stock ks) i (owned_now u v (both (both (tasks_stock ks) i) e) (both (tasks_stock ks) i) o (moved_drop u v (both (tasks_stock ks) i) e o m))

  -- which is given up
  pub unstarted : Moved u v e none → Moved v w i none → Moved u w (both (both (tasks_stock ks) i) e) (tasks_stock ks)
  unstarted m n =
      let first : Moved u v (both (both (tasks_stock ks) i) e) (both (tasks_stock ks) i) = moved_drop u v (both (tasks_stock ks) i) e o m in
      moved_then u v w (both (both (tasks_stock ks) i) e) (both (tasks_stock ks) i) (tasks_stock ks) first
      (moved_drop v w (tasks_stock ks) i (owned_now u v (both (both (tasks_stock ks) i) e) (both (tasks_stock ks) i) o first) n)

  -- the pointer, once the item is given up
  module _ (m : Moved u v i none) where
    dropped : Moved u v (both (both (tasks_stock ks) i) e) (both (tasks_stock ks) e)
    dropped =
        let n : both (both (tasks_stock ks) i) e ≡ both (both (tasks_stock ks) e) i = both_turn (tasks_stock ks) i e in
        moved_as u v (both (both (tasks_stock ks) e) i) (both (both (tasks_stock ks) i) e) (both (tasks_stock ks) e) (both (tasks_stock ks) e) (sym n) refl
        (moved_drop u v (both (tasks_stock ks) e) i (owned_as u (both (both (tasks_stock ks) i) e) (both (both (tasks_stock ks) e) i) n o) m)

    dropped_owned : Owned v (both (tasks_stock ks) e)
    dropped_owned = owned_now u v (both (both (tasks_stock ks) i) e) (both (tasks_stock ks) e) o dropped

    pub left_pointer : Owned v e
    left_pointer = owned_right v (tasks_stock ks) e dropped_owned

    pub given_up : Moved v w e none → Moved u w (both (both (tasks_stock ks) i) e) (tasks_stock ks)
    given_up n = moved_then u v w (both (both (tasks_stock ks) i) e) (both (tasks_stock ks) e) (tasks_stock ks) dropped (moved_drop v w (tasks_stock ks) e dropped_owned n)

module _ (u v w : Active) (e f i k : Stock) (o : Owned u (both k e)) (m : Moved u v e (both f i)) where
  pointer_last : both k (both f i) ≡ both (both k i) f
  pointer_last = stock_is (both k (both f i)) (both (both k i) f) (λ p. omega arith) (λ p. omega arith)

  first_done : Moved u v (both k e) (both (both k i) f)
  first_done = moved_as u v (both k e) (both k e) (both k (both f i)) (both (both k i) f) refl pointer_last (moved_behind u v k e (both f i) o m)

  -- the id for the table, and the pointer for its child
  pub parts_owned : Owned v (both (both k i) f)
  parts_owned = owned_now u v (both k e) (both (both k i) f) o first_done

  pub table_moved : (s : Stock) → Moved v w (both (both k i) f) s → Moved u w (both k e) s
  table_moved s n = moved_then u v w (both k e) (both (both k i) f) s first_done n

-- there is no id, and the pointer is given up
pub table_left : (u v : Active) (e f k : Stock) → Owned u (both k e) → Moved u v e (both f none) → Owned v f
table_left u v e f k o m = owned_left v f none (owned_now u v e (both f none) (owned_right u k e o) m)

pub table_unmoved : (u v w : Active) (e f k : Stock) → Owned u (both k e) → Moved u v e (both f none) → Moved v w f none → Moved u w (both k e) k
table_unmoved u v w e f k o m n =
    let first : Moved u v e f = moved_as u v e e (both f none) f refl (both_none f) m in
    moved_drop u w k e o (moved_then u v w e f none first n)

-- a pointer's first path below it can go on
pub first_refused : (last n : ℕ) (e : OrderError) → n ≡ 0 → FullAt n e → PointerRefused last (of_order e)
first_refused last n (order.TooLarge k) z h = absurd (omega (arith, z, h.1))
first_refused last n order.SinkFault z h = absurd h
first_refused last n order.OutOfMemory z h = tt
first_refused last n (order.Stopped by name) z h = absurd h

-- ---- the child

pub table_started : (a : Allowed) (w v : StrategyData) (t u : Ty) (b c : List ℕ) (e : Eof) (k : Task) → w ≡ v → t ≡ u → b ≡ c → Started a (form_at w t) false b e k → Started a (form_at v u) false c e k
table_started a w v t u b c e k p x y h = started_as a v t u false b c e k x y (subst (λ z. Started a (form_at z t) false b e k) p h)

pub table_refused : (a : Allowed) (w v : StrategyData) (t u : Ty) (e : Eof) (x : WriteError) → w ≡ v → t ≡ u → FormRefused a (form_at w t) false e x → FormRefused a (form_at v u) false e x
table_refused a w v t u e x p q h = subst (λ z. FormRefused a (form_at v z) false e x) q (subst (λ z. FormRefused a (form_at z t) false e x) p h)

pub table_row : (a : Allowed) (f : Form) (name : List ℕ) (e : Eof) (k t : Task) (i : Piece) (ks more : List Task) → Started a f false name e k
    → ((r : Tasks) → task_row t r ≡ task_then (shut_desk (with_item (desk_of (out-Task k).head) i)) (row (out-Task k).kids.items) r)
    → more ≡ ks ++ (t ∷ []) → row more ≡ add (row ks) (started_task f false name e (i ∷ []) true)
table_row a f name e k t i ks more s fed is = kid_added ks more t (started_task f false name e (i ∷ []) true) is (fed_task a f false name e k t i s fed)

-- ---- the act

module _ (s : Setting) (name : List ℕ) (n : ℕ) (mind : Mind) (ks : Tasks) (f : Form) (e : Eof) (p : ChunkData) (o : Outlet) where
  pub table_done : (a : Allowed) (left : List Next) (u : Outlet) (kids : Tasks) → s.allowed ≡ a → IsAllowed a f false → e.last + 1 < 2 ^ 64 → Counted (next e) (first_indices f false (next e))
      → kids ≡ add ks (started_task f false (under name 1) (next e) (table_item e p ∷ []) true) → u ≡ o → ActDone (acted s name n mind ks (start_table f e p)) o n u mind left left kids actions.Join
  table_done a left u kids q allowed fits counts is out = record {
    unrefused = allowed s q;
    fits = refl;
    counted = then_fit (e.last + 1) (first_indices f false (next e)) fits (counts fits);
    todo_is = refl;
    mind_is = refl;
    kids_are = is;
    kind = refl;
    outlet = out;
  }

  why : (a : Allowed) (x : WriteError) → s.allowed ≡ a → StartRefused a (λ z. start_fault z f false) ((e.last + 1) ∷ first_indices f false (next e)) x → ActRefused (acted s name n mind ks (start_table f e p)) o x
  why a SourceFault q h = absurd h
  why a SinkFault q h = absurd h
  why a CompressFault q h = absurd h
  why a (BatchType c) q h = absurd h
  why a NotStruct q h = h s q
  why a (DuplicateField d) q h = h s q
  why a ManyChunks q h = absurd h
  why a EmptyList q h = absurd h
  why a (ZoneCut m) q h = absurd h
  why a (ForbiddenAggregate id) q h = h s q
  why a (ForbiddenEncoding id) q h = absurd h
  why a (TooLarge m) q h = inl (inr (h.1.0, h.1.1, h.1.2, h.0))
  why a OutOfMemory q h = tt
  why a (Stopped by d) q h = absurd h

  -- it can't start
  pub table_fails : (a : Allowed) (x : WriteError) → s.allowed ≡ a → FormRefused a f false (next e) x → ActRefused (acted s name n mind ks (start_table f e p)) o x
  table_fails a x q h =
      why a x q
      (refused_as a a (λ z. start_fault z f false) (λ z. start_fault z f false) (first_indices f false (next e)) ((e.last + 1) ∷ first_indices f false (next e)) x (λ z w r k. k z r) (λ t. (t.0, inr t.1, t.2)) h)

  -- its pointer can't go on
  pub pointer_fails : (x : WriteError) → PointerRefused e.last x → ActRefused (acted s name n mind ks (start_table f e p)) o x
  pointer_fails x h =
      why s.allowed x refl
      (far_refused s.allowed e.last (λ z. start_fault z f false) ((e.last + 1) ∷ first_indices f false (next e)) x (λ t. (t.0, ⊎_elim (λ k. inl k) (λ k. absurd k) t.1, t.2)) h)
