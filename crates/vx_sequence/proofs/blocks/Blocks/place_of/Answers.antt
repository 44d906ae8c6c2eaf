use Rattle.std.proofs.Common.{◌<◌, ◌+◌, length, take}
use Rattle.vx_sequence.specs.Blocks.{all_of, list_of}
use Rattle.vx_sequence.proofs.Edits.{is_gap}
use Rattle.vx_sequence.proofs.InBlocks.{some_block, block_ascends, block_at, block_gap, by_place}
use Rattle.vx_sequence.proofs.blocks.Blocks.place_of.Goals as goal

pub block_of-block-requires-clause-some : goal.block_of-block-requires-clause-some
block_of-block-requires-clause-some c = some_block c.args.self.now.blocks.items c.args.path.now c.requires.is_there

pub place-requires : goal.place-requires
place-requires c = block_ascends c.args.self.now.blocks.items c.block_of-block.result c.block_of-block.ensures.within c.index.result.now c.index.ensures c.requires.ascends

pub unreachable-requires : goal.unreachable-requires
unreachable-requires c = is_gap (list_of c.args.self.now) c.args.path.now (length (all_of (take c.block_of-block.result c.args.self.now.blocks.items)) + c.in-Err.field-0)
    (block_gap c.args.self.now.blocks.items c.block_of-block.result c.block_of-block.ensures.within c.index.result.now c.index.ensures
    c.args.path.now c.in-Err.field-0 c.block_of-block.ensures c.in-Err.ensures.place) c.requires.is_there

pub returns-clause-place : goal.returns-clause-place
returns-clause-place c = record {
  block = c.block_of-block.ensures.within;
  at = by_place c.args.self.now.blocks.items c.block_of-block.result c.block_of-block.ensures.within c.index.result.now c.index.ensures
      (λ d. c.in-Ok.at < length d.items) c.in-Ok.ensures.place.within;
}

pub returns-clause-at : goal.returns-clause-at
returns-clause-at c = block_at c.args.self.now.blocks.items c.block_of-block.result c.block_of-block.ensures.within c.index.result.now c.index.ensures
    c.args.path.now c.in-Ok.at c.in-Ok.ensures.place
