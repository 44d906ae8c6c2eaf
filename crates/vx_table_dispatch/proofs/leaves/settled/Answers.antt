use Rattle.std.proofs.Common.{◌<◌, ap, sym, subst, ◌∙◌}
use Rattle.vx_model.specs.TyView.{ty}
use Rattle.vx_strategy.specs.StrategyView.{strategy_data}
use Rattle.vx_table_dispatch.specs.Settled.{settled, nested}
use Rattle.vx_table_dispatch.proofs.Settling.{itself, one_more, fewer}
use Rattle.vx_table_dispatch.proofs.leaves.settled.Goals as goal

pub further-init : goal.further-init
further-init c = ap (λ w. settled w (ty c.args.dtype.now)) c.in_ok-found.ensures ∙ one_more (strategy_data c.args.strategy.now) (ty c.args.dtype.now)

pub further-smaller : goal.further-smaller
further-smaller c =
    subst (λ w. nested w < nested (strategy_data c.further.found)) (sym c.in-Ok.ensures)
    (fewer (strategy_data c.further.found) (ty c.args.dtype.now) (sym c.passes_on.ensures ∙ c.further-test.true))

pub further-preserved : goal.further-preserved
further-preserved c =
    ap (λ w. settled w (ty c.args.dtype.now)) c.in-Ok.ensures ∙ one_more (strategy_data c.further.found) (ty c.args.dtype.now) ∙ c.further.invariant

pub returns : goal.returns
returns c = sym (itself (strategy_data c.further.found) (ty c.args.dtype.now) (sym c.passes_on.ensures ∙ c.further-test.false)) ∙ c.further.invariant
