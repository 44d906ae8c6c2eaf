use Rattle.std.proofs.Common.{◌≤◌, length, arith, rules}
use Rattle.vx_model.specs.ChunkData.{cells}
use Rattle.vx_chunk_cells.proofs.ListSteps.{first_is, last_at}
use Rattle.vx_chunk.proofs.NodeSound.{in_dict, in_list}
use Rattle.vx_chunk_cells.proofs.OffsetLaws.{offsets_window, offsets_within, some_offset}
use Rattle.vx_chunk.proofs.Depths.{depth_in}
use Rattle.vx_chunk.proofs.RowGoals.{rows_below, fields_have, rows_more}
use Rattle.vx_chunk.proofs.SizeSteps.{dict_span}
use Rattle.vx_chunk.proofs.sizes.+spans.Goals as goal

pub span_bytes-values_bytes-requires-clause-values :
    goal.span_bytes-values_bytes-requires-clause-values
span_bytes-values_bytes-requires-clause-values t c =
    rw c.deref-in-Dict.ensures (in_dict c.chunk.inside.node c.in-Dict.codes c.in-Dict.values c.in-Dict.is c.chunk.invariant).values_simple

pub span_bytes-offsets_between-offsets-requires-clause-within :
    goal.span_bytes-offsets_between-offsets-requires-clause-within
span_bytes-offsets_between-offsets-requires-clause-within t c =
    rw c.deref-in-List.ensures.value (rows_below c.chunk.inside.node c.in-List.dtype c.in-List.elements c.in-List.offsets c.in-List.valid c.args.to c.in-List.is c.chunk.invariant (rw c.chunk.view_is c.requires.within))

pub span_bytes-elements_bytes-requires : goal.span_bytes-elements_bytes-requires
span_bytes-elements_bytes-requires t c =
    let sound = in_list c.chunk.inside.node c.in-List.dtype c.in-List.elements c.in-List.offsets c.in-List.valid c.in-List.is c.chunk.invariant in
    let below = rows_below c.chunk.inside.node c.in-List.dtype c.in-List.elements c.in-List.offsets c.in-List.valid c.args.to c.in-List.is c.chunk.invariant (rw c.chunk.view_is c.requires.within) in
    (search rules, rw (c.deref-in-List-2.ensures, c.offsets_between-offsets.ensures, c.deref-in-List.ensures.value) (offsets_window (length (cells c.in-List.elements.value)) c.args.from c.args.to c.in-List.offsets.items sound.ascend c.requires.order below))

pub span_bytes-fields_bytes-requires : goal.span_bytes-fields_bytes-requires
span_bytes-fields_bytes-requires t c =
    (search rules, (c.requires.order, rw c.deref-in-Struct.ensures.value (fields_have c.chunk.inside.node c.in-Struct.dtype c.in-Struct.fields c.in-Struct.valid c.in-Struct.rows c.args.to c.in-Struct.is c.chunk.invariant (rw c.chunk.view_is c.requires.within))))

pub span_bytes-returns-in-Dict : goal.span_bytes-returns-in-Dict
span_bytes-returns-in-Dict t c =
    rw (← c.chunk.view_is, dict_span c.chunk.inside.node c.in-Dict.codes c.in-Dict.values c.args.from c.args.to c.in-Dict.is) (rw (c.deref.ensures, c.deref-in-Dict.ensures) at c.values_bytes.ensures)

pub elements_bytes-span_bytes-requires : goal.elements_bytes-span_bytes-requires
elements_bytes-span_bytes-requires t c =
    let os = c.args.offsets.now in
    let h = offsets_within (length (cells c.args.elements.now)) os c.requires in
    let some : 1 ≤ length os = some_offset (length (cells c.args.elements.now)) os c.requires in
    (search rules, (rw (first_is os, last_at os some) h.2, rw (last_at os some) h.1))

pub elements_bytes-returns : goal.elements_bytes-returns
elements_bytes-returns t c =
    let os = c.args.offsets.now in
    let some : 1 ≤ length os = some_offset (length (cells c.args.elements.now)) os c.requires in
    rw (first_is os, last_at os some) at c.span_bytes.ensures

pub fields_bytes-span_bytes-requires : goal.fields_bytes-span_bytes-requires
fields_bytes-span_bytes-requires t c =
    let deep = depth_in c.args.fields.now c.loop-field.field-index c.field-item.result c.field-item.is c.loop-field-test.true in
    (omega (arith, deep), (c.requires.order, (rows_more c.args.to c.args.fields.now c.loop-field.field-index c.field-item.result c.loop-field-test.true c.field-item.is c.loop-field.invariant.within).0))
