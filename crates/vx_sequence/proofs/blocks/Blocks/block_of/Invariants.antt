use Rattle.std.proofs.Common.{◌-◌, ◌≤◌, length, take, drop}
use Rattle.vx_sequence.specs.Entries.{AreBelow, IsBelow}
use Rattle.vx_sequence.specs.Blocks.{all_of}
use Rattle.vx_sequence.proofs.blocks.Blocks.block_of.Given as goal

-- what stands before the block in front of `low` is below the path, and the path is below what stands from block `high` on
abbrev pub invariant-loop-low : goal.invariant-loop-low
invariant-loop-low l = record {
  ordered : l.low ≤ l.high;
  within : l.high ≤ length l.self.blocks.items;
  before : AreBelow (all_of (take (l.low - 1) l.self.blocks.items)) l.path;
  behind : IsBelow l.path (all_of (drop l.high l.self.blocks.items));
}

abbrev pub decreases-loop-low : goal.decreases-loop-low
decreases-loop-low l = l.high - l.low
