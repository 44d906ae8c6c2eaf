-- Joins: where a task joins, what it holds is above all that the children started by then ever hold.
use Rattle.std.specs.Prelude.{◌≡◌, ℕ, suc, List, [], ◌∷◌, ◌++◌, IsTrue}
use Rattle.vx_path.specs.Lists.{In}
use Rattle.vx_path.specs.Path.{path_lt}
use Rattle.vx_tasks.specs.Task.{Action, Task, Forest, has}
use Rattle.vx_tasks.specs.Task.Kind.{Join}
use Rattle.vx_tasks.specs.Task.Forest.{Bare, Node}
use Rattle.vx_tasks.specs.Rules.{AllHeld, Apart}

-- of the children from number j on: m is above all that those of `on` and all below them ever hold
abbrev pub Under : List ℕ → List ℕ → ℕ → Forest → Type 0
Under m on j Bare = Unit {0}
Under m on j (Node c kids rest) = (IsTrue (has j on) → AllHeld (λ x. IsTrue (path_lt x m)) (Node c kids Bare)) × Under m on (suc j) rest

-- of the actions of one that holds h before them and has started the children of `on`
abbrev pub Joins : Forest → List ℕ → List (List ℕ) → List Action → Type 0
Joins kids on h [] = Unit {0}
Joins kids on h (a ∷ todo) = (a.kind ≡ Join → (m : List ℕ) → In m h → Under m on 0 kids) × Joins kids (a.starts ++ on) a.holds todo

abbrev pub JoinsApart : Type 0
JoinsApart = (t : Task) (kids : Forest) → Joins kids t.first t.held t.script → Apart t kids
