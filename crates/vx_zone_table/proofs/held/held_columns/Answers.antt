use Rattle.vx_model.specs.TyView.{ty}
use Rattle.vx_zone_table.proofs.HeldSteps.{next_held}
use Rattle.vx_zone_table.proofs.held.held_columns.Goals as goal

pub loop-aggregate-preserved : goal.loop-aggregate-preserved
loop-aggregate-preserved c =
    next_held (ty c.args.column.now) c.args.aggregates.now c.loop-aggregate.aggregate-index c.aggregate-item.result _ _ _ c.loop-aggregate-test.true c.aggregate-item.is c.in_ok-push_held.ensures c.loop-aggregate.invariant
