use Rattle.std.proofs.Common.{◌≡◌}
use Rattle.vx_shared.proofs.ordered.OrderedSink.write.Given as goal

abbrev pub invariant-loop : goal.invariant-loop
invariant-loop g l =
    (goal.iterator-loop g).can_next l.iterator' × (goal.iterator-loop g).is_finite l.iterator'
    × (l.seat.column ≡ l.fn.seat.column) × (l.seat.writes.amount ≡ l.fn.seat.writes.amount) × (l.seat.faults.amount ≡ l.fn.seat.faults.amount)
    × (l.seat.made.amount ≡ l.fn.seat.made.amount) × (l.seat.seen.amount ≡ l.fn.seat.seen.amount)
