use Rattle.std.specs.Prelude.{◌≡◌, map, Some}
use Rattle.vx_seats.proofs.state.as_fronts.Given as goal

abbrev pub invariant-loop-path : goal.invariant-loop-path
invariant-loop-path l = l.fronts.items ≡ map (λ p. Some p) l.yielded
