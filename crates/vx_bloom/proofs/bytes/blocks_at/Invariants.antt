use Rattle.vx_bloom_spec.proofs.ReadBack.{BlocksOf}
use Rattle.vx_bloom.proofs.bytes.blocks_at.Given as goal

abbrev pub invariant-places : goal.invariant-places
invariant-places l = BlocksOf l.bytes l.place l.blocks.items
