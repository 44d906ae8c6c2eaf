use Rattle.std.proofs.Common.{ap₂, ◌∙◌}
use Rattle.vx_model.specs.Words.{all_by}
use Rattle.vx_model.specs.CellData.{fits}
use Rattle.vx_model.specs.TyView.{ty}
use Rattle.vx_layout_spec.proofs.CellsFit.{all_drop}
use Rattle.vx_column.specs.ColumnView.{column_cells}
use Rattle.vx_regroup.proofs.cuts.last_off.Goals as goal

pub column-requires : goal.column-requires
column-requires c =
    ap₂ (λ t rows. all_by (fits t) rows) c.in_ok-dtype.ensures.cases c.in_ok-before.ensures.back
    ∙ all_drop (fits (ty c.args.dtype.now)) _ (column_cells c.args.rows) c.requires.fit
