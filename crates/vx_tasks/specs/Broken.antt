-- Small trees that break one rule each, and what becomes of them.
use Rattle.std.specs.Prelude.{length, IsTrue, ◌≡◌, ℕ, ◌<◌, false, List, [], ◌∷◌}
use Rattle.vx_tasks.specs.Task.{next, sent, taken, next_kind, Action, Task, Forest}
use Rattle.vx_tasks.specs.Task.Prompt.{Close, Call}
use Rattle.vx_tasks.specs.Task.Kind.{Free, Take, TakeEnd, Append, Join}
use Rattle.vx_tasks.specs.Task.Forest.{Bare, Node}
use Rattle.vx_tasks.specs.State.{left, top, below, queue}
use Rattle.vx_tasks.specs.State.Counts.{Zeros}
use Rattle.vx_tasks.specs.Run.{run, end_of, moves_of, written, work, ready}
use Rattle.vx_tasks.specs.Queues.{is_end}
use Rattle.vx_tasks.specs.Nodes.{acts, puts, closing, refusal}

-- the run ends with work left and nothing ready
abbrev pub IsStuck : Forest → Type 0
IsStuck f = let e = end_of Zeros (run f Zeros [] (work f)) in (ready f e ≡ 0) × (0 < left f e)

-- the run appends [1] before [0]
abbrev pub IsDisordered : Forest → Type 0
IsDisordered f = written (moves_of (run f Zeros [] (work f))) ≡ (1 ∷ []) ∷ (0 ∷ []) ∷ []

-- a task with these children started at once, these paths held at the start, and these actions
abbrev pub doer : List ℕ → List (List ℕ) → List Action → Task
doer first held script = record { name = []; script = script; first = first; held = held; spare = []; eof = [] }

-- a task and its one child
abbrev pub pair : Task → Task → Forest
pair p t = Node p (Node t Bare Bare) Bare

-- a task and its two children
abbrev pub three : Task → Task → Task → Forest
three p a b = Node p (Node a Bare (Node b Bare Bare)) Bare

-- a child that sees its stream's end, and no more
abbrev pub watcher : Task
watcher = doer [] [] (acts TakeEnd [] ∷ [])

-- a child that is never started
abbrev pub never_started : Forest
never_started = pair (doer [] [] (closing (0 ∷ []) ∷ [])) watcher

-- of three items the child takes one
abbrev pub unread : Forest
unread = pair (doer (0 ∷ []) [] (puts 0 (1 ∷ []) [] ∷ puts 0 (2 ∷ []) [] ∷ puts 0 (3 ∷ []) [] ∷ closing (0 ∷ []) ∷ [])) (doer [] [] (acts Take [] ∷ []))

-- a task that holds [0] until it has given three items
abbrev pub giver : Task
giver = doer (0 ∷ []) ((0 ∷ []) ∷ [])
    (puts 0 (1 ∷ []) ((0 ∷ []) ∷ []) ∷ puts 0 (2 ∷ []) ((0 ∷ []) ∷ []) ∷ puts 0 (3 ∷ []) ((0 ∷ []) ∷ []) ∷ closing (0 ∷ []) ∷ [])

-- the child appends before it has taken all items: the append waits for [0], and the task above for a place
abbrev pub early_append : Forest
early_append = pair giver
    (doer [] [] (acts Take ((1 ∷ []) ∷ []) ∷ acts (Append (1 ∷ [])) [] ∷ acts Take [] ∷ acts Take [] ∷ acts TakeEnd [] ∷ []))

-- the child joins, over a child that appends, before it has taken all items
abbrev pub early_join : Forest
early_join = Node giver
    (Node (doer (0 ∷ []) [] (closing (0 ∷ []) ∷ acts Take [] ∷ acts Join [] ∷ acts Take [] ∷ acts Take [] ∷ acts TakeEnd [] ∷ []))
    (Node (doer [] ((1 ∷ []) ∷ []) (acts TakeEnd ((1 ∷ []) ∷ []) ∷ acts (Append (1 ∷ [])) [] ∷ [])) Bare Bare) Bare) Bare

-- a join before the queue of the child is closed
abbrev pub late_close : Forest
late_close = pair (doer (0 ∷ []) [] (acts Join [] ∷ closing (0 ∷ []) ∷ [])) watcher

-- two items for a child that is started only then
abbrev pub late_start : Forest
late_start = pair (doer [] [] (puts 0 (1 ∷ []) [] ∷ puts 0 (2 ∷ []) []
    ∷ record { kind = Free Call; starts = 0 ∷ []; gives = []; shuts = 0 ∷ []; holds = []; refuses = false } ∷ []))
    (doer [] [] (acts Take [] ∷ acts Take [] ∷ acts TakeEnd [] ∷ []))

-- a queue that is never closed, by a task that is told its own end and doesn't refuse
abbrev pub never_closed : Forest
never_closed = pair (doer (0 ∷ []) [] (acts TakeEnd [] ∷ [])) watcher

-- a join over a queue that stays open, since the task refuses later
abbrev pub open_join : Forest
open_join = pair (doer (0 ∷ []) [] (acts Join [] ∷ refusal TakeEnd ∷ [])) watcher

-- a path kept to the end
abbrev pub kept_path : Forest
kept_path = three (doer (0 ∷ 1 ∷ []) [] (closing (0 ∷ 1 ∷ []) ∷ []))
    (doer [] [] (acts TakeEnd ((0 ∷ []) ∷ []) ∷ []))
    (doer [] [] (acts TakeEnd ((1 ∷ []) ∷ []) ∷ acts (Append (1 ∷ [])) [] ∷ []))

-- an append by a task that holds a smaller path as well
abbrev pub two_held : Forest
two_held = Node (doer [] ((0 ∷ []) ∷ (1 ∷ []) ∷ []) (acts (Append (1 ∷ [])) [] ∷ [])) Bare Bare

-- a join that holds a path below the child's
abbrev pub low_join : Forest
low_join = pair (doer (0 ∷ []) ((0 ∷ []) ∷ []) (record { kind = Free Close; starts = []; gives = []; shuts = 0 ∷ []; holds = (0 ∷ []) ∷ []; refuses = false } ∷ acts Join [] ∷ []))
    (doer [] ((1 ∷ []) ∷ []) (acts TakeEnd ((1 ∷ []) ∷ []) ∷ acts (Append (1 ∷ [])) [] ∷ []))

-- a task that comes to a smaller path than it held
abbrev pub falling : Forest
falling = Node (doer [] ((1 ∷ []) ∷ []) (acts (Append (1 ∷ [])) ((0 ∷ []) ∷ []) ∷ acts (Append (0 ∷ [])) [] ∷ [])) Bare Bare

-- a child that appends the path that it holds from its start
abbrev pub appender : ℕ → List ℕ → Task
appender k eof = record {
  name = [];
  first = [];
  held = (k ∷ []) ∷ [];
  spare = [];
  eof = eof;
  script = acts TakeEnd ((k ∷ []) ∷ []) ∷ acts (Append (k ∷ [])) [] ∷ [];
}

-- an item, below all that is held, for a child that is started then
abbrev pub low_item : Forest
low_item =
    three (doer (0 ∷ []) ((2 ∷ []) ∷ [])
    (record { kind = Free Close; starts = []; gives = []; shuts = 0 ∷ []; holds = (2 ∷ []) ∷ []; refuses = false } ∷ acts Join ((2 ∷ []) ∷ [])
    ∷ record { kind = Free Call; starts = 1 ∷ []; gives = (1, 0 ∷ []) ∷ []; shuts = 1 ∷ []; holds = []; refuses = false } ∷ []))
    (appender 1 (1 ∷ []))
    (record {
      name = [];
      first = [];
      held = [];
      spare = [];
      eof = 2 ∷ [];
      script = acts Take ((0 ∷ []) ∷ []) ∷ acts TakeEnd ((0 ∷ []) ∷ []) ∷ acts (Append (0 ∷ [])) [] ∷ [];
    })

-- a child started with an eof path below all that is held
abbrev pub low_birth : Forest
low_birth = three (doer (0 ∷ []) [] (closing (0 ∷ []) ∷ acts Join []
    ∷ record { kind = Free Call; starts = 1 ∷ []; gives = []; shuts = 1 ∷ []; holds = []; refuses = false } ∷ []))
    (appender 1 (1 ∷ [])) (appender 0 (0 ∷ []))

-- a child that appends below its eof path and its stream
abbrev pub low_append : Forest
low_append = three (doer (0 ∷ []) ((2 ∷ []) ∷ [])
    (record { kind = Free Close; starts = []; gives = []; shuts = 0 ∷ []; holds = (2 ∷ []) ∷ []; refuses = false } ∷ acts Join ((2 ∷ []) ∷ [])
    ∷ record { kind = Free Call; starts = 1 ∷ []; gives = []; shuts = 1 ∷ []; holds = []; refuses = false } ∷ []))
    (appender 1 (1 ∷ [])) (appender 0 (2 ∷ []))

-- A task and its one child after so many steps under a schedule: the child has taken more than it was given.
abbrev pub IsOverdrawn : Task → Task → List ℕ → ℕ → Type 0
IsOverdrawn p t picks n =
    let e = end_of Zeros (run (pair p t) Zeros picks n) in length (sent p 0 (top e)) < taken t (top (below e))

-- the child may see the end next, and an item is there
abbrev pub IsHasty : Task → Task → List ℕ → ℕ → Type 0
IsHasty p t picks n =
    let e = end_of Zeros (run (pair p t) Zeros picks n) in
    IsTrue (next_kind is_end (next t (top (below e)))) × (0 < length (queue p (top e) 0 t (top (below e))))

-- a task that gives one item
abbrev pub one_item : Task
one_item = doer (0 ∷ []) [] (puts 0 (1 ∷ []) [] ∷ closing (0 ∷ []) ∷ [])

-- a child that takes two
abbrev pub greedy : Task
greedy = doer [] [] (acts Take [] ∷ acts Take [] ∷ [])

-- a task that gives an item after it closed the queue, and a child that takes it
abbrev pub late_gift : Task
late_gift = doer (0 ∷ []) [] (closing (0 ∷ []) ∷ puts 0 (1 ∷ []) [] ∷ [])

abbrev pub taker : Task
taker = doer [] [] (acts Take [] ∷ acts TakeEnd [] ∷ [])

-- a child that sees the end before its item
abbrev pub hasty : Task
hasty = doer [] [] (acts TakeEnd [] ∷ acts Take [] ∷ [])
