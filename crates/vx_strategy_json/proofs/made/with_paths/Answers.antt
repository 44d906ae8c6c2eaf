use Rattle.std.proofs.Common.{◌≡◌, map}
use Rattle.std.proofs.lemmas.Result.{err_from_is_err_and}
use Rattle.vx_strategy.specs.NodeViews.{table_way}
use Rattle.vx_strategy.specs.PairWays.{path_way}
use Rattle.vx_strategy_spec.specs.StrategyData.{no_ways}
use Rattle.vx_strategy_spec.specs.Admitted.{are_apart}
use Rattle.vx_strategy_json.specs.Forms.{overrides_of}
use Rattle.vx_strategy_json.proofs.Refused.{refused}
use Rattle.vx_strategy_json.proofs.Paths.{appended_all, all_apart, paths_told}
use Rattle.vx_strategy_json.proofs.made.with_paths.Goals as goal

pub returns-in_err-with_field_writers : goal.returns-in_err-with_field_writers
returns-in_err-with_field_writers c =
    let p = err_from_is_err_and c.from_residual.result c.from_residual.ensures.1 in
    let ps = map path_way c.args.overrides.items in
    let e = c.in_err-with_field_writers.field-0.0 in
    let none : c.in-Ok.table.overrides.item ≡ no_ways = cc (c.in-Ok.ensures.ok) in
    rw (p.1, p.2) (refused table_way e (are_apart (overrides_of ps)) _ (paths_told ps e (rw none at c.in_err-with_field_writers.ensures.refused)))

pub returns : goal.returns
returns c =
    let ps = map path_way c.args.overrides.items in
    let none : c.in-Ok.table.overrides.item ≡ no_ways = cc (c.in-Ok.ensures.ok) in
    rw (all_apart ps (rw none at c.in_ok-with_field_writers.ensures.fits)) (cc (c.in_ok-with_field_writers.ensures.ok, appended_all ps, c.in-Ok.ensures.ok, c.into_inner-validity.ensures, c.into_inner-leaf.ensures))
