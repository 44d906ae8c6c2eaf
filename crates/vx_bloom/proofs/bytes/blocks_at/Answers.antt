use Rattle.std.proofs.Common.{arith}
use Rattle.vx_bloom_spec.proofs.ReadBack.{blocks_begin, blocks_more}
use Rattle.vx_bloom.proofs.bytes.blocks_at.Goals as goal

pub places-init : goal.places-init
places-init c = rw c.in_ok-blocks.ensures.items (blocks_begin c.args.bytes.now)

pub places-preserved : goal.places-preserved
places-preserved c =
    rw (c.in_ok-push.ensures.items, c.block_at.ensures)
    (blocks_more c.args.bytes.now c.places.place c.places.blocks.items (record { each = λ i. omega (arith, c.type_inv.bytes i) }) (omega arith) c.places.invariant)
