use Rattle.std.proofs.Common.{◌≡◌, ◌-◌, drop}
use Rattle.vx_metadata.specs.Values.{are_in_order}
use Rattle.vx_metadata.proofs.stats.are_in_order.Given as goal

abbrev pub invariant-loop-i : goal.invariant-loop-i
invariant-loop-i l = are_in_order (drop (l.i - 1) l.stats) ≡ are_in_order l.stats
