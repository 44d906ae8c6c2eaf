use Rattle.std.specs.Prelude.{◌≡◌, ◌+◌, ◌≤◌, vec_len, map, All}
use Rattle.std.specs.List.{range_with_len}
use Rattle.std.specs.Vec.{vec_capacity}
use Rattle.vx_seats.proofs.state.seats.Given as goal

abbrev pub invariant-loop-column : goal.invariant-loop-column
invariant-loop-column g l =
    ((l.all.writes.parts + l.column ≡ l.count) × (l.all.faults.parts + l.column ≡ l.count) × (l.all.made.parts + l.column ≡ l.count) × (l.all.seen.parts + l.column ≡ l.count))
    × ((l.all.writes.amount ≡ 0) × (l.all.faults.amount ≡ 0) × (l.all.made.amount ≡ 0) × (l.all.seen.amount ≡ 0))
    × (vec_len l.seats ≡ l.column)
    × (l.count ≤ vec_capacity l.seats)
    × (map (λ s. s.column) l.seats.items ≡ range_with_len 0 l.column)
    × All (λ s. (s.writes.amount ≡ 0) × (s.faults.amount ≡ 0) × (s.made.amount ≡ 0) × (s.seen.amount ≡ 0)) l.seats.items
