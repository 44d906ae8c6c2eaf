use Rattle.std.proofs.Common.{◌≡◌}
use Rattle.std.specs.Prelude.{replicate}
use Rattle.vx_bloom_spec.specs.Blocks.{no_lanes}
use Rattle.vx_bloom_plain.proofs.PlainFilter.new.Given as goal

abbrev pub invariant-places : goal.invariant-places
invariant-places l = l.blocks.items ≡ replicate l.counter no_lanes
