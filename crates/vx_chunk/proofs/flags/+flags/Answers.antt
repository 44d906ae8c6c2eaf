use Rattle.std.proofs.Common.{arith}
use Rattle.vx_model.specs.ChunkData.{cells, piece_type}
use Rattle.vx_chunk.proofs.NodeSound.{in_dict, in_list}
use Rattle.vx_chunk.proofs.CellsFit.{cells_fit}
use Rattle.vx_chunk.proofs.RowGoals.{dict_cells}
use Rattle.vx_chunk.proofs.FlagSteps.{picked_flags}
use Rattle.vx_chunk.proofs.flags.+flags.Goals as goal

pub push_valid-overflow_sub-len : goal.push_valid-overflow_sub-len
push_valid-overflow_sub-len t c =
    let sound = in_list c.chunk.inside.node c.in-List.dtype c.in-List.elements c.in-List.offsets c.in-List.valid c.in-List.is c.chunk.invariant in
    omega arith

pub push_valid-returns-in-Dict : goal.push_valid-returns-in-Dict
push_valid-returns-in-Dict t c =
    let sound = in_dict c.chunk.inside.node c.in-Dict.codes c.in-Dict.values c.in-Dict.is c.chunk.invariant in
    let vs = c.in-Dict.values.value in
    rw (← c.chunk.view_is, dict_cells c.chunk.inside.node c.in-Dict.codes c.in-Dict.values c.in-Dict.is, picked_flags (piece_type vs) (cells vs) (cells c.in-Dict.codes.value) sound.dict_type (cells_fit vs sound.values_sound))
    (rw (c.len.ensures.rows, c.deref.ensures) at c.push_same_flag-in-Dict.ensures)
