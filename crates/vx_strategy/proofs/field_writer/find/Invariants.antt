use Rattle.std.proofs.Common.{◌≡◌, drop}
use Rattle.vx_strategy.specs.Places.{first_place}
use Rattle.vx_strategy.specs.FieldWays.{is_named}
use Rattle.vx_strategy.proofs.PlaceSteps.{shifted}
use Rattle.vx_strategy.proofs.field_writer.find.Given as goal

abbrev pub invariant-loop-i : goal.invariant-loop-i
invariant-loop-i l = first_place (is_named l.name) l.writers ≡ shifted l.i (first_place (is_named l.name) (drop l.i l.writers))
