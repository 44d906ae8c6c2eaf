-- What actions put on the queues of children, and what rules that react send there.
use Rattle.std.specs.Prelude.{ℕ, suc, ◌*◌, List, [], ◌∷◌, ◌++◌}
use Rattle.vx_plan.specs.PlanData.{Item}
use Rattle.vx_react.specs.declared.place.Place.{Place}
use Rattle.vx_react.specs.declared.place.Place.TheVariants.{Child, Column, Codes, Values}
use Rattle.vx_react.specs.Reactor.{Output, Sent}
use Rattle.vx_machine_turns.specs.Acts.{Act}

-- each with the number of its child
abbrev pub put_by : List Act → List (ℕ × Item)
put_by [] = []
put_by (a ∷ acts) = a.gives ++ put_by acts

-- the number of the child that stands for a place: each run has two, its codes and its values
abbrev pub child_at : Place → ℕ
child_at Child = 0
child_at (Column k) = k
child_at (Codes k) = 2 * k
child_at (Values k) = suc (2 * k)

abbrev pub for_children : List Sent → List (ℕ × Item)
for_children [] = []
for_children (x ∷ xs) = (child_at x.0, x.1) ∷ for_children xs

-- outputs that have no ranks: they stand at the path itself
abbrev pub at_path : List ℕ → List Output → List (ℕ × Item)
at_path p [] = []
at_path p (x ∷ xs) = (child_at x.0, (p, x.1)) ∷ at_path p xs
