use Rattle.std.proofs.Common.{rules, ◌≡◌, false}
use Rattle.vx_model.specs.TyView.{ty}
use Rattle.vx_model.specs.TreeView.{tree}
use Rattle.vx_typed.specs.Lent.{lent_cell}
use Rattle.vx_rules.specs.Runs.{has_cell}
use Rattle.vx_strategy_options.specs.OptionViews.{dict_options}
use Rattle.vx_dict_encoder.proofs.Steps.{new_goes_on}
use Rattle.vx_dict_encoder.proofs.front.code_of.Goals as goal

pub returns-clause-code : goal.returns-clause-code
returns-clause-code c =
    let h : false ≡ has_cell (lent_cell c.args.cell) c.args.values.now.distinct = search rules in
    new_goes_on (dict_options c.args.limits 0) (ty c.args.dtype.now) c.args.values.now.distinct c.push.new.self (lent_cell c.args.cell) (tree c.in_ok-own.own) c.len-place.result
    h c.in_ok-push.ensures.ok c.in_ok-own.ensures c.len-place.ensures c.requires.plain (rw c.in_ok-own.ensures at c.in-Some-cost_with.ensures.fit)
