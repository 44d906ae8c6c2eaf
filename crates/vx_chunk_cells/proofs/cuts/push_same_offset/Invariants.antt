use Rattle.std.proofs.Common.{◌≡◌, ◌++◌, replicate}
use Rattle.vx_chunk_cells.proofs.cuts.push_same_offset.Given as goal

abbrev pub invariant-loop-i : goal.invariant-loop-i
invariant-loop-i l = l.out.items ≡ l.fn.out.items ++ replicate l._i l.offset
