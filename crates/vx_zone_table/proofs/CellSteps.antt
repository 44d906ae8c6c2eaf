-- Values as cells, one by one.
use Rattle.std.proofs.lemmas.List.{map_push, map_more, append_assoc, append-nil}
use Rattle.vx_model.proofs.CellViews.{tree_list, tree_struct, val_list, val_struct}

pub ruleset cell_rules = (map_push, map_more, append_assoc, append-nil, tree_list, tree_struct, val_list, val_struct)
