use Rattle.std.proofs.Common.{◌≡◌, ◌++◌, drop}
use Rattle.vx_model.specs.Words.{head_or}
use Rattle.vx_chunk_cells.specs.Window.{counted}
use Rattle.vx_chunk_cells.proofs.cuts.push_counted.Given as goal

abbrev pub invariant-loop-i : goal.invariant-loop-i
invariant-loop-i l = l.out.items ++ counted l.base (head_or 0 l.offsets) (drop l.i l.offsets) ≡ l.fn.out.items ++ counted l.base (head_or 0 l.offsets) (drop 1 l.offsets)
