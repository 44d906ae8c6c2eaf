use Rattle.std.proofs.Common.{ℕ, map, subst}
use Rattle.std.specs.Prelude.{string_bytes}
use Rattle.vx_run.specs.Summary.{summary}
use Rattle.vx_run.specs.declared.status.Status.TheVariants.{Done}
use Rattle.vx_run.specs.Answers.{IsText}
use Rattle.vx_run.specs.Running.{Ends}
use Rattle.vx_run.proofs.WordSteps.{same_rows}
use Rattle.vx_run.proofs.running.run_other.Goals as goal

pub returns-in-Ok-Some-clause-summed : goal.returns-in-Ok-Some-clause-summed
returns-in-Ok-Some-clause-summed g c n asks =
    subst (λ (m : ℕ). Ends (IsText Done (summary m)) (g.O.Output.written c.args.output.now) (g.O.Output.written c.sum_up.new.output) c.sum_up.result)
    (same_rows (map string_bytes c.args.words.now) c.in-Ok-Some.rows n (rw c.in-Ok-Some.field-0-is at c.in-Ok-Some.ensures) asks) c.sum_up.ensures.summed
