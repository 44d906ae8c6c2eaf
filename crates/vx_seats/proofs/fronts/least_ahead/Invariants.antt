use Rattle.std.specs.Option.{option_copied}
use Rattle.vx_seats.specs.Fronts.{IsBest}
use Rattle.vx_seats.proofs.fronts.least_ahead.Given as goal

abbrev pub invariant-loop-k : goal.invariant-loop-k
invariant-loop-k l = IsBest l.fronts l.column l.k (option_copied l.best)
