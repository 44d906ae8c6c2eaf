-- Tasks without their data, as the theory of tasks has them.
use Rattle.std.specs.Prelude.{ℕ, ◌+◌, List, [], ◌∷◌, map, length}
use Rattle.vx_tasks.specs.Task.{Action, Task, Forest}
use Rattle.vx_tasks.specs.Task.Forest.{Bare, Node}
use Rattle.vx_tasks.specs.Nodes.{numbers}
use Rattle.vx_plan.specs.PlanData.{Item}
use Rattle.vx_machine_turns.specs.Acts.{Seed, Act, refuses}
use Rattle.vx_machine_turns.specs.Turns.{firsts, kept}
use Rattle.vx_machine_turns.specs.Readings.{Reading}

abbrev pub gift : ℕ × Item → ℕ × List ℕ
gift g = (g.0, g.1.0)

-- where k children are started before
abbrev pub plain_one : ℕ → Act → Action
plain_one k a = record { kind = a.kind; starts = numbers k (length a.starts); gives = map gift a.gives; shuts = a.shuts; holds = a.holds; refuses = refuses a }

abbrev pub plain : ℕ → List Act → List Action
plain k [] = []
plain k (a ∷ acts) = plain_one k a ∷ plain (length a.starts + k) acts

-- the task of a seed with a whole script
abbrev pub task_of : Seed → List Act → Task
task_of q acts = record {
  name = q.name;
  script = plain (length (firsts q)) acts;
  first = numbers 0 (length (firsts q));
  held = kept q.local;
  spare = q.spare;
  eof = q.eof;
}

abbrev pub script_reading : Reading Forest
script_reading = record { none = Bare; make = λ q acts kids rest. Node (task_of q acts) kids rest }
