use Rattle.std.proofs.Common.{◌<◌, length, arith}
use Rattle.vx_sequence.proofs.InBlocks.{by_place}
use Rattle.vx_sequence.proofs.blocks.Blocks.cut_full.Goals as goal

pub cut-requires-clause-two : goal.cut-requires-clause-two
cut-requires-clause-two c = by_place c.args.self.now.blocks.items c.args.block c.requires.block c.index.result.now c.index.ensures
    (λ d. 1 < length d.items) (omega (arith, c.len.ensures, c.index.result.now.ok.0, c.if-len-ge-MANY.true))
