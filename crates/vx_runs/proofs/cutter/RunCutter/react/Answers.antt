use Rattle.std.proofs.Common.{◌≡◌, true, [], map, ap, sym, ◌∙◌, subst}
use Rattle.vx_model.specs.Words.{all_by}
use Rattle.vx_model.specs.Ty.{Ty}
use Rattle.vx_model.specs.CellData.{fits}
use Rattle.vx_model.specs.ChunkData.{cells}
use Rattle.vx_model.specs.TyView.{ty}
use Rattle.vx_column.specs.ColumnView.{column_cells}
use Rattle.vx_chunk.proofs.CellsFit.{cells_fit}
use Rattle.vx_rules.specs.Runs.{stretches}
use Rattle.vx_react.specs.Cutter.{cut_outputs}
use Rattle.vx_strategy_options.specs.OptionViews.{dict_options}
use Rattle.vx_runs.specs.declared.cutter.OpenRun.{OpenRun}
use Rattle.vx_runs.specs.CutterData.{CutterData}
use Rattle.vx_runs.proofs.Cutters.{chunk_gives}
use Rattle.vx_runs.proofs.cutter.RunCutter.react.Goals as goal

pub cut_off-requires-clause-fit : goal.cut_off-requires-clause-fit
cut_off-requires-clause-fit c =
    ap (all_by (fits (ty c.self.inside.dtype))) c.in_ok-column.ensures.cells
    ∙ subst (λ (t : Ty). all_by (fits t) (cells c.args.item) ≡ true) (c.requires ∙ sym (ap (λ (h : CutterData). h.typed) c.self.view_is)) (cells_fit c.args.item c.sound.ensures)

pub returns-clause-gives : goal.returns-clause-gives
returns-clause-gives c =
    chunk_gives c.self.inside.dtype c.self.inside.constraints c.self.inside.run.number c.self.inside.run.distinct c.args.self.now c.args.item (column_cells c.in_ok-column.column) c.args.last c.in_ok-cut.cut.outputs.items
    c.self.view_is c.in_ok-column.ensures.cells
    (subst (λ (r : OpenRun). c.in_ok-cut.cut.outputs.items ≡ cut_outputs (dict_options c.self.inside.constraints 0) (ty c.self.inside.dtype) r.number (stretches (dict_options c.self.inside.constraints 0) (ty c.self.inside.dtype) r.distinct [] (column_cells c.in_ok-column.column)) c.args.last)
    c.replace-run.ensures.value c.in_ok-cut.ensures.gives)
