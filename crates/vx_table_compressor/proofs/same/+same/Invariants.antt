use Rattle.std.proofs.Common.{◌≡◌, map, drop}
use Rattle.vx_model.specs.CellData.{trees_of}
use Rattle.vx_model.specs.TreeView.{tree}
use Rattle.vx_compressor_spec.specs.TableImage.{trees_eq}
use Rattle.vx_table_compressor.proofs.same.+same.Given as goal

abbrev pub invariant-same_all-loop-i : goal.invariant-same_all-loop-i
invariant-same_all-loop-i l = trees_eq (trees_of (map tree (drop l.i l.a))) (trees_of (map tree (drop l.i l.b))) ≡ trees_eq (trees_of (map tree l.a)) (trees_of (map tree l.b))
