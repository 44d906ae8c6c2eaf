use Rattle.std.specs.Prelude.{◌≡◌, ◌+◌, sum_by, vec_len}
use Rattle.vx_seats.proofs.shares.Shares.all.Given as goal

abbrev pub invariant-loop-seat : goal.invariant-loop-seat
invariant-loop-seat g l =
    ((l.shares.writes.parts + vec_len l.seats ≡ vec_len l.initial.seats + 1) × (l.shares.faults.parts + vec_len l.seats ≡ vec_len l.initial.seats + 1)
    × (l.shares.made.parts + vec_len l.seats ≡ vec_len l.initial.seats + 1) × (l.shares.seen.parts + vec_len l.seats ≡ vec_len l.initial.seats + 1))
    × (sum_by (λ s. s.writes.amount) l.seats.items + l.shares.writes.amount ≡ sum_by (λ s. s.writes.amount) l.initial.seats.items + l.initial.shares.writes.amount)
    × (sum_by (λ s. s.faults.amount) l.seats.items + l.shares.faults.amount ≡ sum_by (λ s. s.faults.amount) l.initial.seats.items + l.initial.shares.faults.amount)
    × (sum_by (λ s. s.made.amount) l.seats.items + l.shares.made.amount ≡ sum_by (λ s. s.made.amount) l.initial.seats.items + l.initial.shares.made.amount)
    × (sum_by (λ s. s.seen.amount) l.seats.items + l.shares.seen.amount ≡ sum_by (λ s. s.seen.amount) l.initial.seats.items + l.initial.shares.seen.amount)

abbrev pub decreases-loop-seat : goal.decreases-loop-seat
decreases-loop-seat g l = goal.left-loop-seat g l
