use Rattle.std.proofs.Common.{◌<◌, ◌≤◌, arith}
use Rattle.vx_machine_ids.proofs.MoveLaws.{owned_now}
use Rattle.vx_machine_tasks.specs.Pairs.{task_pairs}
use Rattle.vx_machine_tasks.proofs.PairSteps.{all_may}
use Rattle.vx_machine.specs.Whole.{machine_stock}
use Rattle.vx_file_cases.proofs.steps.stepped.Goals as goal

pub step-requires-clause-allowed : goal.step-requires-clause-allowed
step-requires-clause-allowed g c = all_may (g.O.Order.may_write c.steps.order) (λ p b. c.requires.allowed c.steps.order p b) (task_pairs c.steps.machine.root)

pub steps-preserved : goal.steps-preserved
steps-preserved g c = record {
  owned = owned_now (g.O.Order.active c.steps.order) (g.O.Order.active c.step.new.order) (machine_stock c.steps.machine) (machine_stock c.step.new.self) c.steps.invariant.owned c.step.ensures.moved;
  reserved = omega (arith, c.steps.invariant.reserved, c.step.ensures.tracked);
  enough = c.in-Ok.ensures.enough;
}
