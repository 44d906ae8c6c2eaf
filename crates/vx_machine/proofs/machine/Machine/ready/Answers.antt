use Rattle.std.proofs.Common.{◌≡◌, ◌+◌, ◌-◌, ◌^◌, min, sym, ap, ◌∙◌, arith}
use Rattle.vx_machine_ids.specs.Stock.{one}
use Rattle.vx_machine_ids.proofs.MoveLaws.{owned_right}
use Rattle.vx_machine_task.specs.Ready.{ready_in, counted}
use Rattle.vx_machine_task.specs.Stocks.{task_stock}
use Rattle.vx_machine.specs.Source.{phase_stock}
use Rattle.vx_machine.specs.Whole.{may_source, machine_ready}
use Rattle.vx_machine.specs.Run.{ready_at}
use Rattle.vx_machine.specs.View.{machine_of}
use Rattle.vx_machine.proofs.Coming.{never_stuck, is_front}
use Rattle.vx_machine.proofs.ReadyViews.{machine_view}
use Rattle.vx_machine.proofs.RunSteps.{ready_held}
use Rattle.vx_machine.proofs.machine.Machine.ready.Goals as goal

pub ready-requires : goal.ready-requires
ready-requires g c = owned_right (g.O.Order.active c.args.order.now) (phase_stock c.args.self.now.phase) (task_stock c.args.self.now.root) c.requires

pub returns-clause-told : goal.returns-clause-told
returns-clause-told g c =
    let x : c.one-own.result ≡ one (may_source c.args.self.now.phase c.args.self.now.root) = c.one-own.ensures ∙ ap one c.source_may.ensures in
    let y : c.ready.result ≡ counted (ready_in (g.O.Order.active c.args.order.now) c.args.self.now.root) = c.ready.ensures.told in
    let z : c.saturating_add.result ≡ min (c.one-own.result + c.ready.result) (2 ^ 64 - 1) = c.saturating_add.ensures in
    omega (arith, x, y, z)

pub returns-clause-view : goal.returns-clause-view
returns-clause-view g c = returns-clause-told g c ∙ ap counted (sym (machine_view (g.O.Order.active c.args.order.now) c.args.self.now))

pub returns-clause-never_stuck : goal.returns-clause-never_stuck
returns-clause-never_stuck g c = λ exact. never_stuck c.courses.ensures.ready (machine_of c.args.self.now) c.saturating_add.result (λ s none.
    let h : ready_at (machine_of c.args.self.now) ≡ machine_ready (g.O.Order.active c.args.order.now) c.args.self.now = ready_held (g.O.Order.active c.args.order.now) c.args.self.now exact s in
    let t : c.saturating_add.result ≡ counted (machine_ready (g.O.Order.active c.args.order.now) c.args.self.now) = returns-clause-told g c in
    omega (arith, h, t, none))

pub returns-clause-front : goal.returns-clause-front
returns-clause-front g c = is_front c.courses.ensures.front (machine_of c.args.self.now)
