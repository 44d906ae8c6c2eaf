use Rattle.std.proofs.Common.{◌≡◌, ◌++◌, take}
use Rattle.std.specs.List.{flat_map}
use Rattle.vx_bloom_spec.specs.Bytes.{number_bytes}
use Rattle.vx_bloom.proofs.bytes.push_block.Given as goal

abbrev pub invariant-lanes : goal.invariant-lanes
invariant-lanes l = l.out.items ≡ l.fn.out.items ++ flat_map number_bytes (take l.lane-index l.block)
