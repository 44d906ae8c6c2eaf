use Rattle.std.proofs.Common.{◌≡◌, ◌-◌, drop}
use Rattle.vx_model.specs.ChunkData.{are_offsets}
use Rattle.vx_chunk_cells.proofs.offsets.are_offsets.Given as goal

abbrev pub invariant-loop-i : goal.invariant-loop-i
invariant-loop-i l = are_offsets l.count (drop (l.i - 1) l.offsets) ≡ are_offsets l.count l.offsets
