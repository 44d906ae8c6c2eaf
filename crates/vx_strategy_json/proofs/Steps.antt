-- What the readers of strategies cite.
use Rattle.serde_json.proofs.Views.{view-Array, view-Object}
use Rattle.vx_json.proofs.Items.{item_rules}
use Rattle.vx_strategy_json.proofs.Depths.{get_depth, only_depth, two_depth, item_depth}

pub ruleset form_rules = (view-Array, view-Object, get_depth, only_depth, two_depth)

pub ruleset list_rules = (item_rules, item_depth)
