-- Cells as trees of numbers, one to one: by this a proof tells two columns apart.
use Rattle.std.specs.Prelude.{◌≡◌, zero, suc, List, [], ◌∷◌, pos, negsuc, refl}
use Rattle.std.specs.Coded.{Coded, code_by}
use base.Stored.{Gv, gnil, gnum, gcons}
use denote.Struct.Codes.{itself}
use Rattle.vx_model.specs.CellData.{CellData, CellList, null_cell, bool_cell, int_cell, text_cell, bytes_cell, list_cell, struct_cell, no_cells, cell}
use Rattle.vx_model.specs.Codes.{flag, flag_of, flag_back, number_of, numbers, numbers_of, numbers_back}

abbrev mutual
  pub tree_code : CellData → Gv
  tree_code null_cell = gcons (gnum 0) gnil
  tree_code (bool_cell b) = gcons (gnum 1) (flag b)
  tree_code (int_cell (pos n)) = gcons (gnum 2) (gnum n)
  tree_code (int_cell (negsuc n)) = gcons (gnum 3) (gnum n)
  tree_code (text_cell s) = gcons (gnum 4) (numbers s)
  tree_code (bytes_cell s) = gcons (gnum 5) (numbers s)
  tree_code (list_cell valid cs) = gcons (gnum 6) (gcons (flag valid) (trees_code cs))
  tree_code (struct_cell valid cs) = gcons (gnum 7) (gcons (flag valid) (trees_code cs))

  pub trees_code : CellList → Gv
  trees_code no_cells = gnil
  trees_code (cell c cs) = gcons (tree_code c) (trees_code cs)

abbrev mutual
  pub tree_of : Gv → CellData
  tree_of (gcons (gnum zero) b) = null_cell
  tree_of (gcons (gnum (suc zero)) b) = bool_cell (flag_of b)
  tree_of (gcons (gnum (suc (suc zero))) b) = int_cell (pos (number_of b))
  tree_of (gcons (gnum (suc (suc (suc zero)))) b) = int_cell (negsuc (number_of b))
  tree_of (gcons (gnum (suc (suc (suc (suc zero))))) b) = text_cell (numbers_of b)
  tree_of (gcons (gnum (suc (suc (suc (suc (suc zero)))))) b) = bytes_cell (numbers_of b)
  tree_of (gcons (gnum (suc (suc (suc (suc (suc (suc zero))))))) (gcons valid cs)) = list_cell (flag_of valid) (trees_of_code cs)
  tree_of (gcons (gnum (suc (suc (suc (suc (suc (suc (suc k)))))))) (gcons valid cs)) = struct_cell (flag_of valid) (trees_of_code cs)
  tree_of g = null_cell

  pub trees_of_code : Gv → CellList
  trees_of_code (gcons c cs) = cell (tree_of c) (trees_of_code cs)
  trees_of_code g = no_cells

mutual
  pub tree_back : (c : CellData) → tree_of (tree_code c) ≡ c
  tree_back null_cell = refl
  tree_back (bool_cell b) = cc (flag_back b)
  tree_back (int_cell (pos n)) = refl
  tree_back (int_cell (negsuc n)) = refl
  tree_back (text_cell s) = cc (numbers_back s)
  tree_back (bytes_cell s) = cc (numbers_back s)
  tree_back (list_cell valid cs) = cc (flag_back valid, trees_back cs)
  tree_back (struct_cell valid cs) = cc (flag_back valid, trees_back cs)

  pub trees_back : (cs : CellList) → trees_of_code (trees_code cs) ≡ cs
  trees_back no_cells = refl
  trees_back (cell c cs) = cc (tree_back c, trees_back cs)

abbrev pub cells_code : List CellData → Gv
cells_code [] = gnil
cells_code (c ∷ cs) = gcons (tree_code c) (cells_code cs)

abbrev pub cells_of : Gv → List CellData
cells_of (gcons c cs) = tree_of c ∷ cells_of cs
cells_of g = []

pub cells_back : (cs : List CellData) → cells_of (cells_code cs) ≡ cs
cells_back [] = refl
cells_back (c ∷ cs) = cc (tree_back c, cells_back cs)

abbrev pub cell_code : Coded (List CellData)
cell_code = code_by Gv itself cells_code cells_of cells_back
