use Rattle.std.proofs.Common.{◌&&◌, sym, ap, ◌∙◌}
use Rattle.vx_machine_task.specs.Ready.{is_done}
use Rattle.vx_machine.proofs.ReadyViews.{finished_view}
use Rattle.vx_machine.proofs.machine.Machine.finished.Goals as goal

pub returns-then-closed-clause-view : goal.returns-then-closed-clause-view
returns-then-closed-clause-view c =
    c.is_done.ensures ∙ ap (λ b. b && is_done c.args.self.now.root) (sym c.if-closed.true ∙ c.has_closed-closed.ensures) ∙ finished_view c.args.self.now
