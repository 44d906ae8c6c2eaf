use Rattle.std.proofs.Common.{◌∙◌, ◌<◌, length, sym}
use Rattle.vx_sequence.proofs.InBlocks.{entry_there, at_block}
use Rattle.vx_sequence.proofs.blocks.Blocks.entry.Goals as goal

pub returns : goal.returns
returns c = c.index-2.ensures
    ∙ sym (entry_there c.args.self.now.blocks.items c.args.place.block c.requires.block c.index.result.now c.index.ensures c.args.place.at c.index-2.result.now
    (at_block c.args.self.now.blocks.items c.args.place.block c.requires.block c.index.result.now c.index.ensures (λ d. c.args.place.at < length d.items) c.requires.at))
