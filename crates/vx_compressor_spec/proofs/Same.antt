-- Cells that are the same are equal.
use Rattle.std.proofs.Common.{◌≡◌, ◌&&◌, Bool, true, false, refl, ap, ap₂}
use Rattle.std.specs.Cmp.{booleans_Decides}
use Rattle.std.specs.Cmp.Lexicographic.{bytes_decides}
use Rattle.std.proofs.lemmas.Bool.Decides.{Decides-int_eq}
use Rattle.std.proofs.lemmas.Bool.{and_parts}
use mathlib.Core.Bool.{beq}
use Rattle.vx_model.specs.Ty.{Ty, boolean, primitive, utf8, binary, list, struct, extension}
use Rattle.vx_model.specs.CellData.{CellData, CellList, null_cell, bool_cell, int_cell, text_cell, bytes_cell, list_cell, struct_cell, no_cells, cell, fits}
use Rattle.vx_model.specs.ChunkData.{is_dict_type}
use Rattle.vx_rules.specs.Runs.{same_cell}
use Rattle.vx_compressor_spec.specs.TableImage.{tree_eq, trees_eq}

mutual
  pub tree_eq_true : (c d : CellData) → tree_eq c d ≡ true → c ≡ d
  tree_eq_true null_cell null_cell e = refl
  tree_eq_true (bool_cell a) (bool_cell b) e = ap bool_cell ((booleans_Decides a b).0 e)
  tree_eq_true (int_cell a) (int_cell b) e = ap int_cell ((Decides-int_eq a b).0 e)
  tree_eq_true (text_cell a) (text_cell b) e = ap text_cell ((bytes_decides a b).0 e)
  tree_eq_true (bytes_cell a) (bytes_cell b) e = ap bytes_cell ((bytes_decides a b).0 e)
  tree_eq_true (list_cell v cs) (list_cell w ds) e = ap₂ list_cell ((booleans_Decides v w).0 (and_parts (beq v w) (trees_eq cs ds) e).0) (trees_eq_true cs ds (and_parts (beq v w) (trees_eq cs ds) e).1)
  tree_eq_true (struct_cell v cs) (struct_cell w ds) e = ap₂ struct_cell ((booleans_Decides v w).0 (and_parts (beq v w) (trees_eq cs ds) e).0) (trees_eq_true cs ds (and_parts (beq v w) (trees_eq cs ds) e).1)
  tree_eq_true c d e = cc

  trees_eq_true : (cs ds : CellList) → trees_eq cs ds ≡ true → cs ≡ ds
  trees_eq_true no_cells no_cells e = refl
  trees_eq_true (cell c cs) (cell d ds) e = ap₂ cell (tree_eq_true c d (and_parts (tree_eq c d) (trees_eq cs ds) e).0) (trees_eq_true cs ds (and_parts (tree_eq c d) (trees_eq cs ds) e).1)
  trees_eq_true cs ds e = cc
