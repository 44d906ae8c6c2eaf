-- Steps of the walk that tells that cells are real.
use Rattle.std.proofs.Common.{◌≡◌, ℕ, suc, ◌<◌, ◌^◌, nat_lt, Bool, true, List, [], ◌∷◌, length, get_or, map, refl, ◌∙◌, arith}
use Rattle.std.proofs.lemmas.List.{length-map}
use Rattle.std.proofs.lemmas.Bool.Decides.{nat_tests}
use Rattle.std.specs.Global.{Vec}
use Rattle.std.proofs.lemmas.Bool.{and_from}
use Rattle.vx_model.specs.declared.cell.Cell.{Cell}
use Rattle.vx_model.specs.declared.cell.Cell as cl
use Rattle.vx_model.specs.Words.{all_by}
use Rattle.vx_model.specs.CellData.{trees_of}
use Rattle.vx_model.specs.TreeView.{tree}
use Rattle.vx_model.proofs.CellViews.{items_trees_of, tree_list, tree_struct, drop_all_by}
use Rattle.vx_layout_spec.specs.Real.{is_byte, is_real_cell, are_real_cells}
use Rattle.vx_layout_spec.proofs.RealLaws.{real_trees_of}
use Rattle.vx_chunk_cells.proofs.Tests.{below_test}

byte_test : (n : ℕ) → n < 256 → nat_lt n 256 ≡ true
byte_test n h = grind (arith, nat_tests)

pub all_bytes : (bs : List ℕ) → ((i : ℕ) → get_or bs i 0 < 256) → all_by is_byte bs ≡ true
all_bytes [] h = refl
all_bytes (b ∷ bs) h = and_from (nat_lt b 256) (all_by is_byte bs) (byte_test b (h 0)) (all_bytes bs (λ i. h (suc i)))

pub list_real : (d : Cell) (valid : Bool) (v : Vec Cell) → d ≡ cl.List valid v → all_by is_real_cell (map tree v.items) ≡ true → length v.items < 2 ^ 64 → is_real_cell (tree d) ≡ true
list_real d valid v e h short =
    rw (e, tree_list valid v)
    (and_from (are_real_cells (trees_of (map tree v.items))) _ (real_trees_of (map tree v.items) ∙ h)
    (rw (items_trees_of (map tree v.items), length-map v.items tree) (below_test (length v.items) short)))

pub struct_real : (d : Cell) (valid : Bool) (v : Vec Cell) → d ≡ cl.Struct valid v → all_by is_real_cell (map tree v.items) ≡ true → is_real_cell (tree d) ≡ true
struct_real d valid v e h = rw (e, tree_struct valid v) (real_trees_of (map tree v.items) ∙ h)

pub ruleset real_rules = (drop_all_by, list_real, struct_real, below_test)
