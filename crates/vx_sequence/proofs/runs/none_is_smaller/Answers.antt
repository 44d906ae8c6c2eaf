use Rattle.vx_sequence.proofs.Laws.{made, all_least}
use Rattle.vx_sequence.proofs.runs.none_is_smaller.Goals as goal

pub returns-clause-made : goal.returns-clause-made
returns-clause-made c = λ u call p may a. made u call may p a

pub returns-clause-least : goal.returns-clause-least
returns-clause-least c = all_least
