use Rattle.std.specs.Prelude.{◌≡◌, ◌+◌, ◌≤◌, vec_len, All}
use Rattle.std.specs.Vec.{vec_capacity}
use Rattle.vx_shared.proofs.total.bytes_seats.Given as goal

abbrev pub invariant-loop-k : goal.invariant-loop-k
invariant-loop-k g l =
    (l.all.parts + l._k ≡ l.count) × (l.all.amount ≡ 0) × (vec_len l.seats ≡ l._k) × (l.count ≤ vec_capacity l.seats) × All (λ s. s.held ≡ 0) l.seats.items
