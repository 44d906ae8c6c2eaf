use Rattle.std.proofs.Common.{◌≡◌}
use Rattle.vx_hash.specs.XxHash3.{after_blocks}
use Rattle.vx_hash.proofs.long.after_blocks.Given as goal

abbrev pub invariant-count : goal.invariant-count
invariant-count l = l.lanes ≡ after_blocks l.bytes l.i
