-- Scalars as values.
use Rattle.std.proofs.Common.{◌≡◌, ℕ, List, rules}
use Rattle.vx_model.specs.declared.row_value.Value as values
use Rattle.vx_model.specs.TreeView.{val}
use Rattle.vx_model.specs.ValueData.{text_value}
use Rattle.vx_model.proofs.CellViews.{val_list, val_struct, tree_list, tree_struct}

pub val_text : (s : List ℕ) → val (values.Utf8 s) ≡ text_value s
val_text s = search (rules, values.the_lemmas)

pub ruleset scalar_rules = (val_list, val_struct, tree_list, tree_struct)
