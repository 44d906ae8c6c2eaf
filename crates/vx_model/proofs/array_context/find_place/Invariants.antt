use Rattle.std.proofs.Common.{◌≡◌, drop}
use Rattle.vx_model.specs.Places.{listed_place}
use Rattle.vx_model.proofs.Lists.{moved}
use Rattle.vx_model.proofs.array_context.find_place.Given as goal

abbrev pub invariant-loop-i : goal.invariant-loop-i
invariant-loop-i l = moved l.i (listed_place l.id (drop l.i l.ids)) ≡ listed_place l.id l.ids
