-- Scripts as they are where a refusal ends its task: the same tree, with all left out that no run can reach.
use Rattle.std.specs.Prelude.{ℕ, suc, ◌-◌, ◌||◌, Bool, false, cond, not, nat_eq, List, [], ◌∷◌, length}
use Rattle.vx_tasks.specs.Task.{Action, Kind, Task, Forest, has, given, starts_in, shuts_in, takes_of}
use Rattle.vx_tasks.specs.Task.Kind.{Free, Take, TakeEnd, Put, Append, Join}
use Rattle.vx_tasks.specs.Task.Forest.{Bare, Node}
use Rattle.vx_tasks.specs.Run.{outside}

-- an action reads past what is known, where so many items are still to be taken, and the stream has ended or is open
abbrev pub reads_past : Kind → ℕ → Bool → Bool
reads_past (Free w) k ended = false
reads_past Take k ended = nat_eq k 0
reads_past TakeEnd k ended = not ended
reads_past (Put c) k ended = false
reads_past (Append q) k ended = false
reads_past Join k ended = false

-- the actions before the first that reads past what is known
abbrev pub known : ℕ → Bool → List Action → List Action
known k ended [] = []
known k ended (a ∷ todo) = cond (reads_past a.kind k ended) [] (a ∷ known (k - takes_of a.kind) ended todo)

-- those up to the first that refuses, and those before it, which are all that can be done
abbrev pub to_refusal : List Action → List Action
to_refusal [] = []
to_refusal (a ∷ todo) = a ∷ cond a.refuses [] (to_refusal todo)

abbrev pub before_refusal : List Action → List Action
before_refusal [] = []
before_refusal (a ∷ todo) = cond a.refuses [] (a ∷ before_refusal todo)

-- Of a task with number j, below one that can do `made`: what it does of its script on the stream that it is made, what of
-- that can be done, and the task with no more than that.

abbrev pub known_of : List Action → ℕ → Task → List Action
known_of made j t = known (length (given j made)) (shuts_in j made) t.script

abbrev pub made_of : List Action → ℕ → Task → List Action
made_of made j t = before_refusal (known_of made j t)

abbrev pub cut_task : List Action → ℕ → Task → Task
cut_task made j t = record t { script = to_refusal (known_of made j t) }

-- A task that is never started stands for its number alone, before others that are.
abbrev pub idle : Task → Task
idle t = record t { script = [] }

abbrev pub behind : Task → Forest → Forest
behind t Bare = Bare
behind t (Node u kids rest) = Node (idle t) Bare (Node u kids rest)

-- the children from number j on of one that can do `made` and starts these with itself
abbrev pub cut_kids : List ℕ → List Action → ℕ → Forest → Forest
cut_kids first made j Bare = Bare
cut_kids first made j (Node t kids rest) =
    cond (has j first || starts_in j made)
    (Node (cut_task made j t) (cut_kids t.first (made_of made j t) 0 kids) (cut_kids first made (suc j) rest))
    (behind t (cut_kids first made (suc j) rest))

-- of a whole tree
abbrev pub cut : Forest → Forest
cut f = cut_kids outside.first outside.script 0 f
