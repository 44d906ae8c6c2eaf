-- Which tasks are ready, and how many.
use Rattle.std.specs.Prelude.{ℕ, zero, suc, ◌+◌, ◌*◌, ◌-◌, ◌^◌, ◌&&◌, ◌||◌, ◌==◌, min, not, nat_lt, Bool, true, false, List, [], ◌∷◌, map, length}
use Rattle.std.specs.Arc.{arc_value}
use Rattle.std.specs.VecDeque.{deque_len}
use Rattle.std.specs.FinMap as fin
use Rattle.vx_path.specs.Path.{is_least}
use Rattle.vx_model.specs.TyView.{ty}
use Rattle.vx_model.specs.Words.{all_by, total_by}
use Rattle.vx_layout_shape.specs.Shape.{struct_children}
use Rattle.vx_machine_state.specs.Acts.{column_count}
use Rattle.vx_sequence.specs.Universe.{Active}
use Rattle.vx_machine_ids.specs.Stock.{one}
use Rattle.vx_machine_node.specs.declared.item.Due.{Due}
use Rattle.vx_machine_node.specs.declared.item.Due.TheVariants.{Put, HandOn, Append, Close, Join, Table, Leave, Press, Ask, OpenRun, EndRun}
use Rattle.vx_machine_node.specs.declared.kinds.ColumnsNode.{ColumnsNode}
use Rattle.vx_machine_node.specs.declared.kinds.ListsNode.{ListsNode}
use Rattle.vx_machine_node.specs.declared.node.Local.{Local}
use Rattle.vx_machine_node.specs.declared.node.Local.TheVariants.{Empty, Full, Chunked, Columns, Lists, Grouped, Over, Passing, Made, Zoned, Pressing, AsIs, Probe, Asking, Runs}
use Rattle.vx_machine_node.specs.declared.node.Shape.{Shape}
use Rattle.vx_machine_node.specs.declared.node.Shape.TheVariants as shapes
use Rattle.vx_machine_task.specs.declared.task.Head.{Head}
use Rattle.vx_machine_task.specs.declared.task.Task.{Task, out-Task}
use Rattle.vx_machine_task.specs.declared.task.Task.TheOpen.{Task-F}
use Rattle.vx_machine_task.specs.declared.task.Task.TheFolds.{fold-Task}

-- It has done all, and has its layout; or nothing is left to do of one that has its children's. Whether that is so, and whether its
-- children have done all, is told.
abbrev pub is_made : Local → Bool → Bool → Bool
is_made (Made l) idle below = true
is_made Passing idle below = idle && below
is_made (Empty n) idle below = false
is_made (Full s) idle below = false
is_made (Chunked n eof rows) idle below = false
is_made (Columns n rows) idle below = false
is_made (Lists n rows) idle below = false
is_made (Grouped n) idle below = false
is_made (Zoned n) idle below = false
is_made (Pressing which) idle below = false
is_made AsIs idle below = false
is_made (Probe n eof) idle below = false
is_made Asking idle below = false
is_made (Runs r) idle below = false
is_made Over idle below = false

-- it takes no more
abbrev pub is_over : Local → Bool
is_over (Made l) = true
is_over Over = true
is_over Passing = true
is_over (Empty n) = false
is_over (Full s) = false
is_over (Chunked n eof rows) = false
is_over (Columns n rows) = false
is_over (Lists n rows) = false
is_over (Grouped n) = false
is_over (Zoned n) = false
is_over (Pressing which) = false
is_over AsIs = false
is_over (Probe n eof) = false
is_over Asking = false
is_over (Runs r) = false

-- what its parent needs to know of a task
pub record Kid : Type 0 where
  pub made : Bool
  -- whether its queue has a place
  pub room : Bool

abbrev pub all_true : List Bool → Bool
all_true bs = all_by (λ b. b) bs

abbrev pub made_step : Task-F Bool → Bool
made_step f = is_made f.head.local (deque_len f.head.todo == 0) (all_true f.kids.items)

-- a task has done all
abbrev pub made_of : Task → Bool
made_of = fold-Task Bool made_step

abbrev pub room_in : Head → Bool
room_in h = nat_lt (deque_len h.inbox) h.places

abbrev pub kid_of : Task → Kid
kid_of t = record { made = made_of t; room = room_in (out-Task t).head }

abbrev pub kids_of : List Task → List Kid
kids_of ts = map kid_of ts

abbrev pub all_made : List Kid → Bool
all_made ks = all_by (λ k. k.made) ks

abbrev pub room_at : ℕ → List Kid → Bool
room_at c [] = false
room_at zero (k ∷ ks) = k.room
room_at (suc c) (k ∷ ks) = room_at c ks

-- so many columns the type has
abbrev pub columns_fit : ColumnsNode → ℕ → Bool
columns_fit node n = n == struct_children (ty (arc_value node.dtype))

-- as many as a list's columns
abbrev pub lists_fit : ListsNode → ℕ → Bool
lists_fit node n = n == column_count (ty (arc_value node.dtype))

-- a layout can be made of so many
abbrev pub can_join : Shape → ℕ → Bool
can_join (shapes.Chunks t) n = true
can_join (shapes.Columns node rows) n = columns_fit node n
can_join (shapes.Lists node rows) n = lists_fit node n
can_join (shapes.Zones z) n = n == 2
can_join (shapes.Runs node rows) n = n == 2 * length rows.items

abbrev pub least_at : Active → List ℕ → Bool
least_at u p = is_least p (fin.keys u)

-- whether an act may be done, of a task with these children
abbrev pub may_due : Active → Due → List Kid → Bool
may_due u (Put c i) ks = room_at c ks
may_due u (HandOn i r) ks = room_at 0 ks
may_due u (Press which i) ks = true
may_due u (Append s) ks = least_at u s.id
may_due u Close ks = true
may_due u (Join h) ks = all_made ks && can_join h (length ks)
may_due u (Table t) ks = all_made ks
may_due u (Leave e) ks = all_made ks
may_due u (Ask p) ks = true
may_due u (OpenRun r i) ks = true
may_due u (EndRun c i) ks = room_at (suc c) ks

-- whether there is something to take: an item, or the end
abbrev pub may_take : Head → Bool
may_take h = not (is_over h.local) && (not (deque_len h.inbox == 0) || h.closed)

abbrev pub may_todo : Active → Head → List Kid → List Due → Bool
may_todo u h ks [] = may_take h
may_todo u h ks (d ∷ ds) = may_due u d ks

-- whether the task itself is ready
abbrev pub may_now : Active → Head → List Kid → Bool
may_now u h ks = may_todo u h ks h.todo.items

pub record Seen : Type 0 where
  pub ready : ℕ
  pub kid : Kid

abbrev pub seen_step : Active → Task-F Seen → Seen
seen_step u f = record {
  ready = one (may_now u f.head (map (λ (s : Seen). s.kid) f.kids.items)) + total_by (λ (s : Seen). s.ready) f.kids.items;
  kid = record { made = is_made f.head.local (deque_len f.head.todo == 0) (all_made (map (λ (s : Seen). s.kid) f.kids.items)); room = room_in f.head };
}

abbrev pub seen : Active → Task → Seen
seen u = fold-Task Seen (seen_step u)

-- how many are ready, of a task and all below it
abbrev pub ready_in : Active → Task → ℕ
ready_in u t = (seen u t).ready

abbrev pub ready_among : Active → List Task → ℕ
ready_among u ts = total_by (ready_in u) ts

-- as far as 64 bits tell
abbrev pub counted : ℕ → ℕ
counted n = min n (2 ^ 64 - 1)

-- there are no more
abbrev pub no_others : List Bool → Bool
no_others [] = true
no_others (b ∷ bs) = false

-- whether the layout is there, where this is told of each child
abbrev pub has_layout : Local → List Bool → Bool
has_layout (Made l) ks = no_others ks
has_layout Passing [] = false
has_layout Passing (k ∷ ks) = no_others ks && k
has_layout (Empty n) ks = false
has_layout (Full s) ks = false
has_layout (Chunked n eof rows) ks = false
has_layout (Columns n rows) ks = false
has_layout (Lists n rows) ks = false
has_layout (Grouped n) ks = false
has_layout (Zoned n) ks = false
has_layout (Pressing which) ks = false
has_layout AsIs ks = false
has_layout (Probe n eof) ks = false
has_layout Asking ks = false
has_layout (Runs r) ks = false
has_layout Over ks = false

abbrev pub done_step : Task-F Bool → Bool
done_step f = has_layout f.head.local f.kids.items && (deque_len f.head.todo == 0 && deque_len f.head.inbox == 0)

-- its layout is there, its own or its only child's, and nothing else
abbrev pub is_done : Task → Bool
is_done = fold-Task Bool done_step
