use Rattle.std.proofs.Common.{◌≡◌, length}
use Rattle.vx_value_cases.proofs.lanes.insert_all_plain.Given as goal

abbrev pub invariant-numbers : goal.invariant-numbers
invariant-numbers l = length l.plain ≡ length l.initial.plain
