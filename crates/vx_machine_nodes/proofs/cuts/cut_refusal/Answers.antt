use Rattle.std.proofs.Common.{◌+◌, arith}
use Rattle.vx_machine_nodes.proofs.RunSteps.{many_runs}
use Rattle.vx_machine_nodes.proofs.cuts.cut_refusal.Goals as goal

pub returns-in-TooLarge-clause-refused : goal.returns-in-TooLarge-clause-refused
returns-in-TooLarge-clause-refused c = λ number eof below h l. many_runs _ (c.from.result + 1) number eof below c.args.error c.in-TooLarge.is (omega (arith, c.from.ensures)) h l
