use Rattle.std.proofs.Common.{◌≤◌, length, refl, sym, ◌∙◌, arith, rules, append-nil}
use Rattle.std.proofs.lemmas.List.{drop_all}
use Rattle.vx_model.specs.ChunkData.{cells, pieces_of}
use Rattle.vx_chunk.specs.ChunkView.{node_piece}
use Rattle.vx_chunk.specs.Slice.{sliced_parts, sliced_each}
use Rattle.vx_chunk.proofs.NodeSound.{in_list}
use Rattle.vx_chunk.proofs.Depths.{depth_in}
use Rattle.vx_chunk_cells.proofs.OffsetLaws.{offsets_window, offsets_within, some_offset}
use Rattle.vx_chunk_cells.proofs.ListSteps.{first_is, last_at}
use Rattle.vx_chunk.proofs.RowGoals.{rows_below, fields_have, rows_more}
use Rattle.vx_chunk.proofs.SliceSound.{sliced_sound}
use Rattle.vx_chunk.proofs.SliceSteps.{all_kept}
use Rattle.vx_chunk.proofs.slice.+slice.Goals as goal

pub cut-invariant_of-result : goal.cut-invariant_of-result
cut-invariant_of-result t c =
    rw (c.in_ok-node.ensures) (sliced_sound (node_piece c.chunk.inside.node) c.args.from c.args.to c.chunk.invariant c.requires.order (rw c.chunk.view_is c.requires.within))

pub cut_each-cut-requires : goal.cut_each-cut-requires
cut_each-cut-requires t c =
    let deep = depth_in c.args.fields.now c.loop-field.field-index c.field-item.result c.field-item.is c.loop-field-test.true in
    (omega (arith, deep), (c.requires.order, (rows_more c.args.to c.args.fields.now c.loop-field.field-index c.field-item.result c.loop-field-test.true c.field-item.is c.loop-field.invariant.within).0))

pub cut_each-returns : goal.cut_each-returns
cut_each-returns t c =
    all_kept c.loop-field.cuts.items (sliced_each (pieces_of c.args.fields.now) c.args.from c.args.to)
    (sym (append-nil c.loop-field.cuts.items) ∙ (rw (drop_all c.loop-field.field-index c.args.fields.now c.loop-field-test.false) at c.loop-field.invariant.fields))

pub cut_list-cut-requires : goal.cut_list-cut-requires
cut_list-cut-requires t c =
    let os = c.args.offsets.now in
    let h = offsets_within (length (cells c.args.elements.now)) os c.requires in
    let some : 1 ≤ length os = some_offset (length (cells c.args.elements.now)) os c.requires in
    (search rules, (rw (first_is os, last_at os some) h.2, rw (last_at os some) h.1))

pub cut_list-list_of-requires : goal.cut_list-list_of-requires
cut_list-list_of-requires t c = (offsets_within (length (cells c.args.elements.now)) c.args.offsets.now c.requires).0

pub cut_list-returns : goal.cut_list-returns
cut_list-returns t c =
    let os = c.args.offsets.now in
    let some : 1 ≤ length os = some_offset (length (cells c.args.elements.now)) os c.requires in
    rw (c.in_ok-elements.ensures, first_is os, last_at os some) at c.list_of.ensures

pub cut_node-offsets_between-offsets-requires-clause-within :
    goal.cut_node-offsets_between-offsets-requires-clause-within
cut_node-offsets_between-offsets-requires-clause-within t c =
    rw c.deref-in-List.ensures.value (rows_below c.args.node.now c.in-List.dtype c.in-List.elements c.in-List.offsets c.in-List.valid c.args.to c.in-List.is c.requires.sound c.requires.within)

pub cut_node-cut_list-requires : goal.cut_node-cut_list-requires
cut_node-cut_list-requires t c =
    let sound = in_list c.args.node.now c.in-List.dtype c.in-List.elements c.in-List.offsets c.in-List.valid c.in-List.is c.requires.sound in
    let below = rows_below c.args.node.now c.in-List.dtype c.in-List.elements c.in-List.offsets c.in-List.valid c.args.to c.in-List.is c.requires.sound c.requires.within in
    (search rules, rw (c.deref-in-List-2.ensures, c.offsets_between-offsets.ensures, c.deref-in-List.ensures.value) (offsets_window (length (cells c.in-List.elements.value)) c.args.from c.args.to c.in-List.offsets.items sound.ascend c.requires.order below))

pub cut_node-cut_each-requires : goal.cut_node-cut_each-requires
cut_node-cut_each-requires t c =
    (search rules, (c.requires.order, rw c.deref-in-Struct.ensures.value (fields_have c.args.node.now c.in-Struct.dtype c.in-Struct.fields c.in-Struct.valid c.in-Struct.rows c.args.to c.in-Struct.is c.requires.sound c.requires.within)))

pub cut_parts-returns : goal.cut_parts-returns
cut_parts-returns t c =
    all_kept c.loop-part.kept.items (sliced_parts (pieces_of c.args.parts.now) c.args.from c.args.to)
    (sym (append-nil c.loop-part.kept.items) ∙ (rw (drop_all c.loop-part.part-index c.args.parts.now c.loop-part-test.false) at c.loop-part.invariant.parts))
