use Rattle.vx_machine_nodes.proofs.ListSteps.{past_elements, past_may, other_elements, other_may}
use Rattle.vx_machine_nodes.proofs.lists.split_refusal.Goals as goal

pub returns-else-n-clause-refused : goal.returns-else-n-clause-refused
returns-else-n-clause-refused c = λ n h. past_elements n c.in-TooLarge.n c.args.error c.in-TooLarge.is c.if-n.false h

pub returns-else-n-clause-cause : goal.returns-else-n-clause-cause
returns-else-n-clause-cause c = λ n h. past_may n c.in-TooLarge.n c.args.error c.in-TooLarge.is h

pub returns-in_default-clause-refused : goal.returns-in_default-clause-refused
returns-in_default-clause-refused c = λ n h. other_elements n c.args.error c.into.result c.in_default.not-TooLarge c.into.ensures h

pub returns-in_default-clause-cause : goal.returns-in_default-clause-cause
returns-in_default-clause-cause c = λ n h. other_may n c.args.error c.into.result c.in_default.not-TooLarge c.into.ensures h
