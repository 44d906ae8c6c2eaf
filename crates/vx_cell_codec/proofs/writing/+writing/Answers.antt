use Rattle.std.proofs.Common.{ℕ, List, ◌++◌, sym, ap, ◌∙◌, rules}
use Rattle.std.proofs.lemmas.List.{append-nil}
use Rattle.vx_model.specs.declared.dtype.DType as dt
use Rattle.vx_cell_codec.proofs.CellViews.{list_arm, struct_arm, fields_ended}
use Rattle.vx_cell_codec.proofs.writing.+writing.Goals as goal

pub push_cell-push_cells-requires : goal.push_cell-push_cells-requires
push_cell-push_cells-requires t c =
    (search (rules, dt.the_lemmas), rw (c.deref.ensures, c.deref-in-List-cell.ensures.value) (list_arm c.args.dtype.now c.args.cell.now c.in-List.items c.in-List.n c.in-List-cell.valid c.in-List-cell.cells c.in-List.is c.in-List-cell.is c.requires))

pub push_cell-push_fields-requires : goal.push_cell-push_fields-requires
push_cell-push_fields-requires t c =
    (search (rules, dt.the_lemmas), rw (c.deref-in-Struct-cell.ensures.value, c.deref-in-Struct-cell-2.ensures.value) (struct_arm c.args.dtype.now c.args.cell.now c.in-Struct.fields c.in-Struct.field-1 c.in-Struct-cell.valid c.in-Struct-cell.cells c.in-Struct.is c.in-Struct-cell.is c.requires))

pub push_fields-returns : goal.push_fields-returns
push_fields-returns t c =
    let e = fields_ended c.args.fields.now c.args.cells.now c.loop-i.i (rw c.min-i-end.ensures at c.loop-i-test.false) in
    sym (append-nil c.loop-i.out.items) ∙ ap (λ (r : List ℕ). c.loop-i.out.items ++ r) (sym e) ∙ c.loop-i.invariant.bytes
