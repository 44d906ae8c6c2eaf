use Rattle.std.proofs.Common.{take, ap, ◌∙◌, sym}
use Rattle.vx_model.specs.Words.{all_by}
use Rattle.vx_model.specs.CellData.{fits}
use Rattle.vx_model.specs.TyView.{ty}
use Rattle.vx_layout_spec.proofs.CellsFit.{all_take}
use Rattle.vx_column.specs.ColumnView.{column_cells}
use Rattle.vx_rules.specs.Blocks.{cut_off}
use Rattle.vx_regroup.proofs.CutSteps.{cut_front}
use Rattle.vx_regroup.proofs.cuts.blocks_off.Goals as goal

pub blocks_of-requires-clause-fit : goal.blocks_of-requires-clause-fit
blocks_of-requires-clause-fit c = ap (all_by (fits (ty c.args.dtype.now))) c.in_ok-front.ensures.front ∙ all_take (fits (ty c.args.dtype.now)) _ (column_cells c.args.rows) c.requires.fit

pub returns-clause-leaves : goal.returns-clause-leaves
returns-clause-leaves c =
    c.in_ok-blocks.ensures
    ∙ ap (λ rows. cut_off (ty c.args.dtype.now) rows c.args.sizes.now) (c.in_ok-front.ensures.front ∙ ap (λ n. take n (column_cells c.args.rows)) (sym c.requires.summed))
    ∙ cut_front (ty c.args.dtype.now) (column_cells c.args.rows) c.args.sizes.now
