use Rattle.std.proofs.Common.{◌≡◌}
use Rattle.vx_shared.proofs.bytes.SharedBytesTracker.reserve.Given as goal

abbrev pub invariant-loop : goal.invariant-loop
invariant-loop g l =
    (goal.iterator-loop g).can_next l.iterator' × (goal.iterator-loop g).is_finite l.iterator' × (l.seat.held ≡ l.fn.seat.held)
