-- Real cells, one by one.
use Rattle.std.proofs.Common.{◌≡◌, ◌&&◌, List, [], ◌∷◌, refl, ap}
use Rattle.vx_model.specs.Words.{all_by}
use Rattle.vx_model.specs.CellData.{CellData, trees_of}
use Rattle.vx_layout_spec.specs.Real.{is_real_cell, are_real_cells}

pub real_trees_of : (cs : List CellData) → are_real_cells (trees_of cs) ≡ all_by is_real_cell cs
real_trees_of [] = refl
real_trees_of (c ∷ cs) = ap (λ b. is_real_cell c && b) (real_trees_of cs)
