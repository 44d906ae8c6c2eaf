use Rattle.std.proofs.Common.{◌≡◌, true, ap, ◌∙◌, sym, subst}
use Rattle.vx_model.specs.Words.{all_by}
use Rattle.vx_model.specs.CellData.{fits}
use Rattle.vx_model.specs.ChunkData.{cells}
use Rattle.vx_model.specs.TyView.{ty}
use Rattle.vx_chunk.proofs.CellsFit.{cells_fit}
use Rattle.vx_regroup.specs.Held.{RowsHeld}
use Rattle.vx_regroup.proofs.repartition.Repartition.react.Goals as goal

pub cut_behind-requires-clause-more_fit : goal.cut_behind-requires-clause-more_fit
cut_behind-requires-clause-more_fit c =
    ap (all_by (fits (ty c.self.inside.dtype))) c.in_ok-added.ensures.cells
    ∙ subst (λ t. all_by (fits t) (cells c.args.chunk) ≡ true) (c.requires ∙ sym (ap (λ (h : RowsHeld). h.typed) c.self.view_is)) (cells_fit c.args.chunk c.sound.ensures)
