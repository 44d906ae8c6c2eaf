use Rattle.vx_machine_nodes.proofs.GroupNumbers.{past_refused, past_may}
use Rattle.vx_machine_nodes.proofs.grouped.refusal.Goals as goal

pub returns-else-n-clause-refused : goal.returns-else-n-clause-refused
returns-else-n-clause-refused c = λ ns h. past_refused ns c.in-TooLarge.n c.args.error c.in-TooLarge.is c.if-n.false h

pub returns-else-n-clause-cause : goal.returns-else-n-clause-cause
returns-else-n-clause-cause c = λ ns h. past_may ns c.in-TooLarge.n c.args.error c.in-TooLarge.is h
