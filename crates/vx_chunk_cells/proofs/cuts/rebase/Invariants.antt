use Rattle.std.proofs.Common.{◌≡◌, take}
use Rattle.vx_model.specs.Words.{head_or}
use Rattle.vx_chunk_cells.specs.Window.{rebased}
use Rattle.vx_chunk_cells.proofs.cuts.rebase.Given as goal

abbrev pub invariant-loop-offset : goal.invariant-loop-offset
invariant-loop-offset l = l.counted.items ≡ rebased (head_or 0 l.offsets) (take l.offset-index l.offsets)
