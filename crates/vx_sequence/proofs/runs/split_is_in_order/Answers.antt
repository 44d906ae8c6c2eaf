use Rattle.vx_path.specs.Path.{inside, next}
use Rattle.vx_sequence.proofs.Laws.{goes_on, split_lt}
use Rattle.vx_sequence.proofs.runs.split_is_in_order.Goals as goal

pub returns : goal.returns
returns c = λ e first second p q a b x y. split_lt e p q (goes_on (inside e) first a p x) (goes_on (next e) second b q y)
