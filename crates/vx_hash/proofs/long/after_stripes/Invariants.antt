use Rattle.std.proofs.Common.{◌≡◌}
use Rattle.vx_hash.specs.XxHash3.{after_stripes}
use Rattle.vx_hash.proofs.long.after_stripes.Given as goal

abbrev pub invariant-stripes : goal.invariant-stripes
invariant-stripes l = l.after ≡ after_stripes l.fn.lanes l.bytes l.at l.i
