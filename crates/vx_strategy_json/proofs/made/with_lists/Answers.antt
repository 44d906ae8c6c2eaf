use Rattle.std.proofs.Common.{map}
use Rattle.std.proofs.lemmas.Result.{err_from_is_err_and}
use Rattle.vx_strategy.specs.StrategyView.{strategy_data}
use Rattle.vx_strategy_json.specs.Forms.{all_can_wrap}
use Rattle.vx_strategy_json.specs.Views.{wrap}
use Rattle.vx_strategy_json.proofs.Refused.{refused, wraps_told, wraps_true, asked_wraps}
use Rattle.vx_strategy_json.proofs.made.with_lists.Goals as goal

pub returns-in_err-with_list_layout_factory-in-Some : goal.returns-in_err-with_list_layout_factory-in-Some
returns-in_err-with_list_layout_factory-in-Some c =
    let p = err_from_is_err_and c.from_residual.result c.from_residual.ensures.1 in
    let ws = c.in-Some.wrappers.items in
    let e = c.in_err-with_list_layout_factory-in-Some.field-0.0 in
    rw (p.1, p.2, c.in-Some.is) (refused strategy_data e (all_can_wrap (map wrap ws)) _ (wraps_told ws e c.in_err-with_list_layout_factory-in-Some.ensures.refused))

pub returns-in_ok-with_list_layout_factory-in-Some : goal.returns-in_ok-with_list_layout_factory-in-Some
returns-in_ok-with_list_layout_factory-in-Some c =
    let ws = c.in-Some.wrappers.items in
    rw (c.in-Some.is, wraps_true ws c.in_ok-with_list_layout_factory-in-Some.ensures.wraps) (cc (c.in_ok-with_list_layout_factory-in-Some.ensures.ok, asked_wraps ws, c.into_strategy-in-Some.ensures))
