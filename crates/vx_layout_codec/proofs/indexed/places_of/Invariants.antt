use Rattle.std.proofs.Common.{take}
use Rattle.vx_layout_codec.specs.Places.{TellsPlaces}
use Rattle.vx_layout_codec.proofs.indexed.places_of.Given as goal

abbrev pub invariant-loop-i : goal.invariant-loop-i
invariant-loop-i l = TellsPlaces l.places (take l.i l.ids)
