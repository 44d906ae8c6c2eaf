use Rattle.std.proofs.Common.{◌≡◌, take}
use Rattle.std.specs.List.{flat_map}
use Rattle.vx_bloom_spec.specs.Bytes.{block_bytes}
use Rattle.vx_bloom.proofs.partial.BloomPartial.serialize.Given as goal

abbrev pub invariant-places : goal.invariant-places
invariant-places g l = l.bytes.items ≡ flat_map block_bytes (take l.block-index l.self)
