-- What the machine can do in a state.
use Rattle.std.specs.Prelude.{◌+◌, ◌&&◌, ◌∷◌, ◌++◌, ℕ, suc, Bool, true, false, cond, not, nat_eq, nat_le, get_or, List, map, length, Option, Some, None, []}
use Rattle.vx_path.specs.Path.{is_least}
use Rattle.vx_tasks.specs.Task.{Kind, Free, Take, TakeEnd, Put, Append, Join}
use Rattle.vx_tasks.specs.Run.{Move}
use Rattle.vx_plan.specs.PlanData.{Setting, Item}
use Rattle.vx_machine_turns.specs.Acts.{Seed, Act, born}
use Rattle.vx_machine_turns.specs.Locals.{Local}
use Rattle.vx_machine_turns.specs.Fuels.{Fuel, less}
use Rattle.vx_machine_turns.specs.Turns.{turn, first_at_end, more_at_end, firsts, kept}
use Rattle.vx_machine_turns.specs.Scripts.{as_kind, with_holds, all_uses, filled}
use Rattle.vx_machine_turns.specs.Plain.{plain_one}
use Rattle.vx_machine_steps.specs.Tree.{Head, Tree, Leaf, Work, counts, feed}

-- The first act of a block, and the further ones.

abbrev pub take_first : Setting → Local → Item → Act
take_first s l x = with_holds (all_uses (turn s l x).more ++ kept (turn s l x).after) (as_kind Take (turn s l x).first)

abbrev pub take_more : Setting → Local → Item → List Act
take_more s l x = filled (kept (turn s l x).after) (turn s l x).more

abbrev pub end_first : Setting → Local → Act
end_first s l = with_holds (all_uses (more_at_end s l) ++ []) (as_kind TakeEnd (first_at_end s l))

abbrev pub end_more : Setting → Local → List Act
end_more s l = filled [] (more_at_end s l)

-- a head's next act, and the head after it
pub record Due : Type 0 where
  pub act : Act
  pub head : Head

abbrev pub doing : Head → Act → List Act → Local → Bool → List Item → Due
doing h a todo l over xs = record {
  act = a;
  head = record { seed = h.seed; past = h.past ++ (a ∷ []); todo = todo; local = l; over = over; inbox = xs; closed = h.closed };
}

-- what comes where the present block is done: the next item or the end, where one is there
abbrev pub due_more : Setting → Head → Bool → List Item → Bool → Option Due
due_more s h true xs closed = None
due_more s h false (x ∷ xs) closed = Some (doing h (take_first s h.local x) (take_more s h.local x) (turn s h.local x).after false xs)
due_more s h false [] true = Some (doing h (end_first s h.local) (end_more s h.local) h.local true [])
due_more s h false [] false = None

abbrev pub due_todo : Setting → Head → List Act → Option Due
due_todo s h (a ∷ todo) = Some (doing h a todo h.local h.over h.inbox)
due_todo s h [] = due_more s h h.over h.inbox h.closed

abbrev pub due : Setting → Head → Option Due
due s h = due_todo s h h.todo

-- what is held after the acts, by one that held h before them
abbrev pub held_after : List (List ℕ) → List Act → List (List ℕ)
held_after h [] = h
held_after h (a ∷ acts) = held_after a.holds acts

-- what a head holds, beside what stands in its queue
abbrev pub holding : Head → List (List ℕ)
holding h = held_after (kept h.seed.local) h.past

-- all paths that are held
abbrev pub all_paths : Tree → List (List ℕ)
all_paths Leaf = []
all_paths (Work h ks r) = (map (λ x. x.0) h.inbox ++ (holding h ++ all_paths ks)) ++ all_paths r

abbrev pub is_nil : {A : Type 0} → List A → Bool
is_nil [] = true
is_nil (x ∷ xs) = false

-- each task has done all that it does
abbrev pub all_over : Tree → Bool
all_over Leaf = true
all_over (Work h ks r) = (is_nil h.todo && h.over && all_over ks) && all_over r

-- the queue of child c has no place
abbrev pub is_full : Seed → ℕ → Tree → ℕ → Bool
is_full q j Leaf c = false
is_full q j (Work h ks r) c = cond (nat_eq j c) (nat_le (1 + get_or q.spare j 0) (length h.inbox)) (is_full q (suc j) r c)

-- whether a next act may be done, of a task with these children; a take is next only where there is something to take
abbrev pub may : List (List ℕ) → Seed → Tree → Kind → Bool
may all q ks (Free w) = true
may all q ks Take = true
may all q ks TakeEnd = true
may all q ks (Put c) = not (is_full q 0 ks c)
may all q ks (Append p) = is_least p all
may all q ks Join = all_over ks

pub record TreeMove : Type 0 where
  pub name : List ℕ
  pub act : Act
  -- how many children its task has started before it, and how deep those that it starts may grow
  pub before : ℕ
  pub room : Fuel
  pub after : Tree

abbrev pub move_own : List (List ℕ) → Fuel → Head → Tree → Tree → Option Due → List TreeMove
move_own all d h ks r None = []
move_own all d h ks r (Some g) = cond (may all h.seed ks g.act.kind)
    (record {
      name = h.seed.name;
      act = g.act;
      before = born h.past + length (firsts h.seed);
      room = less d h.seed.type;
      after = Work g.head (feed (less d h.seed.type) g.act 0 ks) r;
    } ∷ []) []

abbrev pub in_kids : Head → Tree → TreeMove → TreeMove
in_kids h r m = record { name = m.name; act = m.act; before = m.before; room = m.room; after = Work h m.after r }

abbrev pub in_rest : Head → Tree → TreeMove → TreeMove
in_rest h ks m = record { name = m.name; act = m.act; before = m.before; room = m.room; after = Work h ks m.after }

-- a task's move, those below it, and those beside it, where these paths are held in all
abbrev pub tree_moves : Setting → List (List ℕ) → Fuel → Tree → List TreeMove
tree_moves s all d Leaf = []
tree_moves s all d (Work h ks r) =
    (move_own all d h ks r (due s h) ++ map (in_kids h r) (tree_moves s all (less d h.seed.type) ks)) ++ map (in_rest h ks) (tree_moves s all d r)

abbrev pub machine_moves : Setting → Fuel → Tree → List TreeMove
machine_moves s d t = tree_moves s (all_paths t) d t

-- the move of the theory
abbrev pub view : TreeMove → Move
view m = record { name = m.name; action = plain_one m.before m.act; after = counts m.after }
