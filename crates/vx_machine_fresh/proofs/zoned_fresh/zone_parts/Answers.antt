use Rattle.std.proofs.Common.{map, sym, ap, subst, ◌∙◌}
use Rattle.std.proofs.lemmas.Result.{err_from_is_err_and}
use Rattle.vx_model.specs.TyView.{ty}
use Rattle.vx_aggregate.specs.AggregateView.{aggregate}
use Rattle.vx_sink.specs.ContextView.{allowed_in}
use Rattle.vx_strategy_options.specs.RuleViews.{zone_rule}
use Rattle.vx_plan.specs.ZonedNode.{recorded}
use Rattle.vx_machine_fresh.specs.Fresh.{forbidden_among, ZonesRefused}
use Rattle.vx_machine_fresh.proofs.ZoneStarts.{faults_among}
use Rattle.vx_machine_fresh.proofs.zoned_fresh.zone_parts.Goals as goal

pub returns-in_err-all_allowed-clause-refused : goal.returns-in_err-all_allowed-clause-refused
returns-in_err-all_allowed-clause-refused c =
    let p = err_from_is_err_and c.from_residual-in_err-all_allowed.result c.from_residual-in_err-all_allowed.ensures.1 in
    let a = allowed_in c.args.ctx.now in
    rw (p.1, p.2) (subst (λ faults. ZonesRefused faults c.in_err-all_allowed.field-0.0)
    (ap (forbidden_among a) (ap (map aggregate) c.deref.ensures.value ∙ c.in_ok-aggregates.ensures.names) ∙ sym (faults_among a (recorded (zone_rule c.args.zoned.now.rule) (ty c.args.dtype.now))))
    c.in_err-all_allowed.ensures.refused)

pub returns-in-Ok-clause-allowed : goal.returns-in-Ok-clause-allowed
returns-in-Ok-clause-allowed c =
    let a = allowed_in c.args.ctx.now in
    faults_among a (recorded (zone_rule c.args.zoned.now.rule) (ty c.args.dtype.now))
    ∙ sym (ap (forbidden_among a) (ap (map aggregate) c.deref.ensures.value ∙ c.in_ok-aggregates.ensures.names)) ∙ c.in_ok-all_allowed.ensures.allowed
