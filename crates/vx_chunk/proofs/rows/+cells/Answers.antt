use Rattle.std.proofs.Common.{◌≡◌, ◌-◌, length, map, ap, sym, ◌∙◌, arith, rules, ◌≤◌}
use Rattle.std.proofs.lemmas.List.{length-map, take_all}
use Rattle.vx_model.specs.Words.{head_or}
use Rattle.vx_model.specs.TreeView.{tree}
use Rattle.vx_model.specs.ChunkData.{cells}
use Rattle.vx_chunk_cells.specs.Window.{window, last_of}
use Rattle.vx_chunk_cells.specs.Columns.{trees_in, rows_across}
use Rattle.vx_chunk.specs.Rows.{column}
use Rattle.vx_chunk.proofs.NodeSound.{in_dict, in_list}
use Rattle.vx_chunk_cells.proofs.Windows.{length-window}
use Rattle.vx_chunk_cells.proofs.OffsetLaws.{offsets_window, offsets_within, some_offset}
use Rattle.vx_chunk.proofs.Depths.{depth_in}
use Rattle.vx_chunk_cells.proofs.ListSteps.{first_is, last_at}
use Rattle.vx_chunk_cells.proofs.Steps.{structs-rows_across}
use Rattle.vx_chunk.proofs.RowGoals.{dict_window, rows_below, list_window, lists_cut, fields_have, struct_window, rows_more, columns_more, parts_more}
use Rattle.vx_chunk.proofs.rows.+cells.Goals as goal

pub push_between-push_values-requires-clause-values :
    goal.push_between-push_values-requires-clause-values
push_between-push_values-requires-clause-values t c =
    rw c.deref-in-Dict.ensures (in_dict c.chunk.inside.node c.in-Dict.codes c.in-Dict.values c.in-Dict.is c.chunk.invariant).values_simple

pub push_between-offsets_between-offsets-requires-clause-within :
    goal.push_between-offsets_between-offsets-requires-clause-within
push_between-offsets_between-offsets-requires-clause-within t c =
    rw c.deref-in-List.ensures.value (rows_below c.chunk.inside.node c.in-List.dtype c.in-List.elements c.in-List.offsets c.in-List.valid c.args.to c.in-List.is c.chunk.invariant (rw c.chunk.view_is c.requires.within))

pub push_between-push_elements-requires : goal.push_between-push_elements-requires
push_between-push_elements-requires t c =
    let sound = in_list c.chunk.inside.node c.in-List.dtype c.in-List.elements c.in-List.offsets c.in-List.valid c.in-List.is c.chunk.invariant in
    let below = rows_below c.chunk.inside.node c.in-List.dtype c.in-List.elements c.in-List.offsets c.in-List.valid c.args.to c.in-List.is c.chunk.invariant (rw c.chunk.view_is c.requires.within) in
    (search rules, rw (c.deref-in-List-2.ensures, c.offsets_between-offsets.ensures, c.deref-in-List.ensures.value) (offsets_window (length (cells c.in-List.elements.value)) c.args.from c.args.to c.in-List.offsets.items sound.ascend c.requires.order below))

pub push_between-push_fields-requires : goal.push_between-push_fields-requires
push_between-push_fields-requires t c =
    (search rules, (c.requires.order, rw c.deref-in-Struct.ensures.value (fields_have c.chunk.inside.node c.in-Struct.dtype c.in-Struct.fields c.in-Struct.valid c.in-Struct.rows c.args.to c.in-Struct.is c.chunk.invariant (rw c.chunk.view_is c.requires.within))))

pub push_between-returns-in-Dict : goal.push_between-returns-in-Dict
push_between-returns-in-Dict t c =
    rw (← c.chunk.view_is, ← dict_window c.chunk.inside.node c.in-Dict.codes c.in-Dict.values c.args.from c.args.to c.in-Dict.is) (rw (c.deref.ensures, c.deref-in-Dict.ensures) at c.push_values.ensures)

pub push_between-returns-in-List : goal.push_between-returns-in-List
push_between-returns-in-List t c =
    rw (← c.chunk.view_is, ← list_window c.chunk.inside.node c.in-List.dtype c.in-List.elements c.in-List.offsets c.in-List.valid c.args.from c.args.to c.in-List.is c.requires.order)
    (rw (c.deref-in-List-2.ensures, c.offsets_between-offsets.ensures, c.deref-in-List.ensures.value, c.flags_from.ensures, c.deref-in-List-3.ensures.value) at c.push_elements.ensures)

pub push_between-returns-in-Struct : goal.push_between-returns-in-Struct
push_between-returns-in-Struct t c =
    rw (← c.chunk.view_is, ← struct_window c.chunk.inside.node c.in-Struct.dtype c.in-Struct.fields c.in-Struct.valid c.in-Struct.rows c.args.from c.args.to c.in-Struct.is c.requires.order (rw c.chunk.view_is c.requires.within))
    (rw (c.deref-in-Struct.ensures.value, c.flags_from-in-Struct.ensures, c.deref-in-Struct-2.ensures.value) at c.push_fields.ensures)

pub push_elements-cells_between-requires : goal.push_elements-cells_between-requires
push_elements-cells_between-requires t c =
    let os = c.args.offsets.now in
    let h = offsets_within (length (cells c.args.elements.now)) os c.requires in
    let some : 1 ≤ length os = some_offset (length (cells c.args.elements.now)) os c.requires in
    (search rules, (rw (first_is os, last_at os some) h.2, rw (last_at os some) h.1))

pub push_elements-push_lists-requires-clause-ascend :
    goal.push_elements-push_lists-requires-clause-ascend
push_elements-push_lists-requires-clause-ascend t c = (offsets_within (length (cells c.args.elements.now)) c.args.offsets.now c.requires).0

pub push_elements-push_lists-requires-clause-whole :
    goal.push_elements-push_lists-requires-clause-whole
push_elements-push_lists-requires-clause-whole t c =
    let os = c.args.offsets.now in
    let es = cells c.args.elements.now in
    let h = offsets_within (length es) os c.requires in
    let some : 1 ≤ length os = some_offset (length es) os c.requires in
    let cut : map tree c.in_ok-elements.elements.items ≡ window (head_or 0 os) (last_of os) es = rw (first_is os, last_at os some) at c.in_ok-elements.ensures in
    let long : length c.in_ok-elements.elements.items ≡ last_of os - head_or 0 os =
    sym (length-map c.in_ok-elements.elements.items tree) ∙ ap length cut ∙ length-window (head_or 0 os) (last_of os) es h.1 in
    omega (arith, h.2)

pub push_elements-returns : goal.push_elements-returns
push_elements-returns t c =
    let os = c.args.offsets.now in
    let es = cells c.args.elements.now in
    let some : 1 ≤ length os = some_offset (length es) os c.requires in
    let cut : map tree c.in_ok-elements.elements.items ≡ window (head_or 0 os) (last_of os) es = rw (first_is os, last_at os some) at c.in_ok-elements.ensures in
    rw (← lists_cut es os c.args.valid.now c.requires) (rw cut at c.push_lists.ensures)

pub push_fields-cells_between-requires : goal.push_fields-cells_between-requires
push_fields-cells_between-requires t c =
    let deep = depth_in c.args.fields.now c.loop-field.field-index c.field-item.result c.field-item.is c.loop-field-test.true in
    (omega (arith, deep), (c.requires.order, (rows_more c.args.to c.args.fields.now c.loop-field.field-index c.field-item.result c.loop-field-test.true c.field-item.is c.loop-field.invariant.within).0))

pub push_fields-loop-field-preserved : goal.push_fields-loop-field-preserved
push_fields-loop-field-preserved t c =
    let more = rows_more c.args.to c.args.fields.now c.loop-field.field-index c.field-item.result c.loop-field-test.true c.field-item.is c.loop-field.invariant.within in
    record {
      within = more.1;
      rows = rw (c.in_ok-push_each.ensures) (columns_more c.args.from c.args.to c.args.fields.now c.loop-field.field-index c.field-item.result _ _ c.loop-field-test.true c.field-item.is more.0 c.in_ok-column.ensures c.loop-field.invariant.rows);
    }

pub push_fields-returns : goal.push_fields-returns
push_fields-returns t c =
    let fields = c.args.fields.now in
    let all : map trees_in c.loop-field.rows.items ≡ rows_across (c.args.to - c.args.from) (map (column c.args.from c.args.to) fields) =
    rw (take_all c.loop-field.field-index fields (omega arith)) at c.loop-field.invariant.rows in
    rw (← structs-rows_across (c.args.to - c.args.from) (map (column c.args.from c.args.to) fields) c.args.valid.now) (rw all at c.push_structs.ensures)

pub push_parts-loop-part-preserved : goal.push_parts-loop-part-preserved
push_parts-loop-part-preserved t c = record {
  order = omega arith;
  cells = rw (c.in_ok-push_between.ensures, c.min.ensures, c.min-in-loop-part.ensures, c.saturating_sub-start.ensures, c.saturating_sub-end.ensures)
      (parts_more (map tree c.loop-part.out.items) _ c.args.parts.now c.loop-part.part-index c.loop-part.start c.loop-part.end c.len-rows.result c.part-item.result c.loop-part-test.true c.part-item.is c.len-rows.ensures.rows c.loop-part.invariant.cells);
}
