use Rattle.std.proofs.Common.{◌≤◌}
use Rattle.vx_sink.specs.ContextView.{counted}
use Rattle.vx_machine_ids.specs.Balance.{Owned}
use Rattle.vx_machine.specs.Names.{HasNames}
use Rattle.vx_machine.specs.View.{phase_of}
use Rattle.vx_machine.specs.Whole.{machine_stock, machine_reserved}
use Rattle.vx_file_cases.proofs.steps.stepped.Given as goal

abbrev pub invariant-steps : goal.invariant-steps
invariant-steps g l = record {
  owned : Owned (g.O.Order.active l.order) (machine_stock l.machine);
  reserved : machine_reserved l.machine ≤ counted l.ctx;
  enough : HasNames (phase_of l.machine.phase) (g.B.BatchSource.left l.source);
}
