use Rattle.std.proofs.Common.{◌≡◌, ◌+◌, length, take}
use Rattle.vx_sequence.specs.Blocks.{all_of}
use Rattle.vx_sequence.proofs.blocks.BlocksRow.path_at.Given as goal

-- so many entries stand in the blocks that were passed
abbrev pub invariant-loop-block : goal.invariant-loop-block
invariant-loop-block l = length (all_of (take l.block-index l.self.blocks.items)) + l.left ≡ l.place
