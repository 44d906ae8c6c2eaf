use Rattle.std.proofs.Common.{◌≡◌, length}
use Rattle.vx_value_cases.proofs.lanes.insert_all.Given as goal

abbrev pub invariant-numbers : goal.invariant-numbers
invariant-numbers l = length l.lanes ≡ length l.initial.lanes
