use Rattle.std.proofs.Common.{rules, ◌≡◌, ◌++◌, length, drop, sym, ap, ap₂, ◌∙◌, subst}
use Rattle.vx_model.specs.Words.{all_by}
use Rattle.vx_model.specs.CellData.{fits}
use Rattle.vx_model.specs.TyView.{ty}
use Rattle.vx_model.specs.ChunkData.{plain_piece}
use Rattle.vx_column.specs.ColumnView.{column_cells}
use Rattle.vx_rules.specs.Blocks.{sizes_at, cut_off, left_over}
use Rattle.vx_regroup.specs.Refusals.{first_past, Refuses}
use Rattle.vx_regroup.specs.Rules.{exactly}
use Rattle.std.proofs.lemmas.Result.{err_from_is_err_and}
use Rattle.vx_regroup.proofs.CutSteps.{left_over_is, left_fit, sizes_are, tested_are}
use Rattle.vx_regroup.proofs.repartition.cut_behind.Goals as goal

pub returns-clause-leaves : goal.returns-clause-leaves
returns-clause-leaves c =
    c.in_ok-blocks.ensures.leaves
    ∙ ap₂ (cut_off (ty c.args.dtype.now)) c.in_ok-rows.ensures
    (c.deref.ensures.value ∙ c.in_ok-walk.ensures.sizes ∙ sizes_are (column_cells c.in_ok-rows.rows) (column_cells c.args.rows) (column_cells c.args.added) c.len-held.result c.in_ok-rows.ensures c.len-held.ensures c.args.len c.args.minimum (ty c.args.dtype.now))

pub returns-clause-left : goal.returns-clause-left
returns-clause-left c =
    let sizes : c.in_ok-walk.walk.sizes.items ≡ sizes_at (exactly c.args.len c.args.minimum) (ty c.args.dtype.now) (column_cells c.args.rows) (plain_piece (ty c.args.dtype.now) (column_cells c.args.added))
    = c.in_ok-walk.ensures.sizes ∙ sizes_are (column_cells c.in_ok-rows.rows) (column_cells c.args.rows) (column_cells c.args.added) c.len-held.result c.in_ok-rows.ensures c.len-held.ensures c.args.len c.args.minimum (ty c.args.dtype.now) in
    c.in_ok-blocks.ensures.left
    ∙ ap₂ drop (sym c.in_ok-walk.ensures.stands.cut_is) c.in_ok-rows.ensures
    ∙ sym (left_over_is (column_cells c.args.rows ++ column_cells c.args.added) c.in_ok-walk.walk.sizes.items)
    ∙ ap (left_over (column_cells c.args.rows ++ column_cells c.args.added)) sizes

pub returns-clause-fit : goal.returns-clause-fit
returns-clause-fit c =
    ap (all_by (fits (ty c.args.dtype.now))) (c.in_ok-blocks.ensures.left ∙ ap (drop c.in_ok-walk.walk.cut) c.in_ok-rows.ensures)
    ∙ left_fit (fits (ty c.args.dtype.now)) c.in_ok-walk.walk.cut (column_cells c.args.rows) (column_cells c.args.added) c.requires.fit c.requires.more_fit

pub returns-clause-fits : goal.returns-clause-fits
returns-clause-fits c =
    ap first_past (sym (tested_are (column_cells c.in_ok-rows.rows) (column_cells c.args.rows) (column_cells c.args.added) c.len-held.result c.in_ok-rows.ensures c.len-held.ensures c.args.len c.args.minimum (ty c.args.dtype.now))) ∙ c.in_ok-walk.ensures.fits

pub returns-in_err-walk-clause-refused : goal.returns-in_err-walk-clause-refused
returns-in_err-walk-clause-refused c =
    let p = err_from_is_err_and c.from_residual-in_err-walk.result c.from_residual-in_err-walk.ensures.1 in
    rw (p.1, p.2) (subst (λ z. Refuses (first_past z) c.in_err-walk.field-0.0) (tested_are (column_cells c.in_ok-rows.rows) (column_cells c.args.rows) (column_cells c.args.added) c.len-held.result c.in_ok-rows.ensures c.len-held.ensures c.args.len c.args.minimum (ty c.args.dtype.now)) c.in_err-walk.ensures.refused)
