-- The values of cells, one by one.
use Rattle.std.proofs.lemmas.List.{map_push, map_more, append_assoc, append-nil}
use Rattle.vx_model.proofs.CellViews.{values_in-trees_of, tree_list, tree_struct, val_list, val_struct}

pub ruleset value_rules = (map_push, map_more, append_assoc, append-nil, values_in-trees_of, tree_list, tree_struct, val_list, val_struct)
