use Rattle.std.proofs.Common.{map}
use Rattle.std.proofs.lemmas.Result.{err_from_is_err_and}
use Rattle.vx_aggregate.specs.AggregateView.{aggregate}
use Rattle.vx_session.specs.Views.{context}
use Rattle.vx_session.proofs.SpecSteps.{spec_fails}
use Rattle.vx_session.proofs.build_context.LayoutBuildContext.read_specs.Goals as goal

pub returns-in_err-aggregate : goal.returns-in_err-aggregate
returns-in_err-aggregate c =
    let p = err_from_is_err_and c.from_residual.result c.from_residual.ensures.1 in
    rw (p.1, p.2) (spec_fails _ (context c.args.self.now) c.args.specs.now c.loop-spec.spec-index c.spec-item.result (map aggregate c.loop-spec.aggregates.items) c.loop-spec-test.true c.spec-item.is c.in_err-aggregate.ensures c.loop-spec.invariant)
