use Rattle.std.proofs.Common.{sym, subst}
use Rattle.vx_model.specs.TyView.{ty}
use Rattle.vx_strategy.specs.StrategyView.{strategy_data}
use Rattle.vx_machine.proofs.LedgerSteps.{told_listed, told_allowed, told_marked}
use Rattle.vx_machine_view.specs.Machine.{Machine as Plain}
use Rattle.vx_machine.specs.Names.{HasNames}
use Rattle.vx_machine.specs.View.{machine_of}
use Rattle.vx_machine.specs.Whole.{machine_stock}
use Rattle.vx_write.proofs.RanSteps.{all_held, has_run}
use Rattle.vx_write.proofs.tasks.write_in.Goals as goal

pub run-requires-clause-enough : goal.run-requires-clause-enough
run-requires-clause-enough g c = subst (λ (z : Plain). HasNames z.phase (g.B.BatchSource.left c.args.source.now)) (sym c.in_ok-machine.ensures.shows) tt

pub returns-clause-ran : goal.returns-clause-ran
returns-clause-ran g c is exact =
    has_run c.args.ctx.now (g.C.CompressorPlugin.image (g.C.CompressorPlugin.kind c.args.compressor.now)) (strategy_data c.args.strategy.now) (g.B.BatchSource.kind c.args.source.now) c.args.schedule.now (g.B.BatchSource.to_come c.args.source.now) (g.O.Order.outlet c.args.order.now) c.run.new.trace.items
    c.args.eof c.take_below.new.pointer c.in-Ok.stream (ty c.dtype.result.now) (machine_of c.in_ok-machine.machine) is c.in-Ok.ensures.next c.in-Ok.ensures.below c.dtype.ensures
    (g.O.Order.outlet c.take_below.new.order) (g.O.Order.outlet c.start.new.order) (g.O.Order.outlet c.run.new.order) (g.B.BatchSource.to_come c.run.new.source) (g.B.Fallible.must_fail c.args.source.now) c.run.result
    c.in-Ok.ensures.outlet c.in_ok-machine.ensures.outlet c.in_ok-machine.ensures.allowed c.in_ok-machine.ensures.counted c.in_ok-machine.ensures.shows
    (c.run.ensures.ran c.requires.empty (all_held (g.O.Order.active c.args.order.now) (g.O.Order.active c.take_below.new.order) (g.O.Order.active c.start.new.order) c.args.eof c.take_below.new.pointer c.in-Ok.stream
    (machine_stock c.in_ok-machine.machine) exact c.in-Ok.ensures.moved c.in_ok-machine.ensures.moved))

pub returns-clause-same : goal.returns-clause-same
returns-clause-same g c = (
  record {
    listed_is = told_listed c.args.ctx.now c.run.new.ctx c.run.ensures.context;
    allowed_is = told_allowed c.args.ctx.now c.run.new.ctx c.run.ensures.context;
    marked_is = told_marked c.args.ctx.now c.run.new.ctx c.run.ensures.context;
    counted_is = c.run.ensures.tracked;
  },
  c.run.ensures.kind,
  c.run.ensures.compressor,
)
