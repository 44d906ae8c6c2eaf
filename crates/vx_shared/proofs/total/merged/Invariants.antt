use Rattle.std.specs.Prelude.{◌≡◌, ◌+◌, sum_by, vec_len}
use Rattle.vx_shared.proofs.total.merged.Given as goal

abbrev pub invariant-loop-seat : goal.invariant-loop-seat
invariant-loop-seat g l =
    (l.all.parts + vec_len l.seats ≡ vec_len l.initial.seats + 1)
    × (sum_by (λ s. s.held) l.seats.items + l.all.amount ≡ sum_by (λ s. s.held) l.initial.seats.items + l.initial.all.amount)

abbrev pub decreases-loop-seat : goal.decreases-loop-seat
decreases-loop-seat g l = goal.left-loop-seat g l
