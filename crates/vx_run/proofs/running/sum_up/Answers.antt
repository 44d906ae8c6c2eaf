use Rattle.std.proofs.Common.{ℕ, List, subst, ◌∙◌}
use Rattle.vx_run.specs.Summary.{summary}
use Rattle.vx_run.specs.declared.status.Status.TheVariants.{Done}
use Rattle.vx_run.specs.Running.{Finishes}
use Rattle.vx_run.proofs.RunSteps.{ends_done}
use Rattle.vx_run.proofs.running.sum_up.Goals as goal

pub returns-in-Ok-clause-summed : goal.returns-in-Ok-clause-summed
returns-in-Ok-clause-summed g c =
    ends_done (summary c.args.rows) (g.O.Output.written c.args.output.now) (g.O.Output.written c.finish.new.output) c.finish.result
    (subst (λ (line : List ℕ). Finishes Done line (g.O.Output.written c.args.output.now) (g.O.Output.written c.finish.new.output) c.finish.result) (c.deref.ensures ∙ c.in-Ok.ensures) c.finish.ensures.wrote)
