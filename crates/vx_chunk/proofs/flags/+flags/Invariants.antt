use Rattle.std.proofs.Common.{◌≡◌, ◌+◌, ◌*◌, ◌++◌, map, drop}
use Rattle.vx_model.specs.ChunkData.{pieces_of, joined_cells}
use Rattle.vx_layout_spec.specs.Parts.{flag_of}
use Rattle.vx_chunk.specs.Depth.{depth, depths}
use Rattle.vx_chunk.proofs.flags.+flags.Given as goal

abbrev pub decreases-push_valid : goal.decreases-push_valid
decreases-push_valid l = 2 * depth l.chunk.now + 1

abbrev pub decreases-push_parts_valid : goal.decreases-push_parts_valid
decreases-push_parts_valid l = 2 * depths (pieces_of l.parts.now)

abbrev pub invariant-push_parts_valid-loop-part : goal.invariant-push_parts_valid-loop-part
invariant-push_parts_valid-loop-part l =
    l.out.items ++ map flag_of (joined_cells (pieces_of (drop l.part-index l.parts))) ≡ l.fn.out.items ++ map flag_of (joined_cells (pieces_of l.parts))
