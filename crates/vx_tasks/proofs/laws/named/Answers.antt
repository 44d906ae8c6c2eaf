use Rattle.vx_tasks.specs.Run.{all_held, outside}
use Rattle.vx_tasks.proofs.Names.{moves_rise}
use Rattle.vx_tasks.proofs.laws.named.Goals as goal

pub returns : goal.returns
returns c = λ f s h. moves_rise (all_held f s) outside 1 0 f s h
