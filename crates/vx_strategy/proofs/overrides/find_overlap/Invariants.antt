use Rattle.std.proofs.Common.{◌≡◌, drop}
use Rattle.vx_strategy.specs.Places.{first_place}
use Rattle.vx_strategy.specs.Overridden.{is_over}
use Rattle.vx_strategy.proofs.PlaceSteps.{shifted}
use Rattle.vx_strategy.proofs.overrides.find_overlap.Given as goal

abbrev pub invariant-loop-i : goal.invariant-loop-i
invariant-loop-i l = first_place (is_over l.path) l.list ≡ shifted l.i (first_place (is_over l.path) (drop l.i l.list))
