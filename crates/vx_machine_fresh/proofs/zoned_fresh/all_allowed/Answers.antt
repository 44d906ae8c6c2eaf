use Rattle.std.proofs.Common.{◌<◌, length, Some, sym, ap, ◌∙◌, arith}
use Rattle.vx_sink.specs.ContextView.{allowed_in, allows_id}
use Rattle.vx_plan.specs.PlanData.{forbidden_aggregate}
use Rattle.vx_plan.specs.SourcePlan.{first_what}
use Rattle.vx_machine_fresh.proofs.ZoneStarts.{among_next, among_first, among_end}
use Rattle.vx_machine_fresh.proofs.zoned_fresh.all_allowed.Goals as goal

pub aggregates-preserved : goal.aggregates-preserved
aggregates-preserved c =
    let h : c.aggregates.aggregate-index < length c.args.aggregates.now = omega arith in
    among_next (allowed_in c.args.ctx.now) c.args.aggregates.now c.aggregates.aggregate-index c.aggregate-item.result h c.aggregate-item.is
    (ap (allows_id (allowed_in c.args.ctx.now)) (sym c.id.ensures) ∙ sym c.allows_aggregate.ensures ∙ c.if-not-allows_aggregate.false) ∙ c.aggregates.invariant

pub returns-then-not-allows_aggregate-clause-refused : goal.returns-then-not-allows_aggregate-clause-refused
returns-then-not-allows_aggregate-clause-refused c =
    let h : c.aggregates.aggregate-index < length c.args.aggregates.now = omega arith in
    ap first_what (sym c.aggregates.invariant)
    ∙ among_first (allowed_in c.args.ctx.now) c.args.aggregates.now c.aggregates.aggregate-index c.aggregate-item.result h c.aggregate-item.is
    (ap (allows_id (allowed_in c.args.ctx.now)) (sym c.id.ensures) ∙ sym c.allows_aggregate.ensures ∙ c.if-not-allows_aggregate.true)
    ∙ ap (λ t. Some (forbidden_aggregate t)) (sym (c.from.ensures ∙ c.in_ok-id.ensures.ok ∙ c.id-then-not-allows_aggregate.ensures))

pub returns-clause-allowed : goal.returns-clause-allowed
returns-clause-allowed c = sym c.aggregates.invariant ∙ among_end (allowed_in c.args.ctx.now) c.args.aggregates.now c.aggregates.aggregate-index c.aggregates-test.false
