use Rattle.std.proofs.Common.{◌≡◌, drop}
use Rattle.vx_session.specs.Ids.{place_of}
use Rattle.vx_session.proofs.Lists.{moved}
use Rattle.vx_session.proofs.layout_context.find_place.Given as goal

abbrev pub invariant-loop-i : goal.invariant-loop-i
invariant-loop-i l = moved l.i (place_of l.id (drop l.i l.ids)) ≡ place_of l.id l.ids
