use Rattle.std.proofs.Common.{sym, subst}
use Rattle.vx_machine_node.specs.Causes.{StartMay}
use Rattle.vx_machine_start.specs.Starting.{PointerRefused}
use Rattle.vx_machine_fresh.proofs.StartCauses.{full_starts}
use Rattle.vx_machine_start.proofs.CauseSteps.{full_refused}
use Rattle.vx_machine_start.proofs.start.split_below.Goals as goal

pub returns-in-Err-clause-cause : goal.returns-in-Err-clause-cause
returns-in-Err-clause-cause g c = subst (λ e. StartMay e) (sym c.into.ensures) (full_starts c.args.eof.now.last c.in-Err.full c.in-Err.ensures.full)

pub returns-in-Err-clause-refused : goal.returns-in-Err-clause-refused
returns-in-Err-clause-refused g c = subst (λ e. PointerRefused c.args.eof.now.last e) (sym c.into.ensures) (full_refused c.args.eof.now.last c.in-Err.full c.in-Err.ensures.full)
