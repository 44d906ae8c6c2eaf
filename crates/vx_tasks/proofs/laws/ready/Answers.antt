use Rattle.vx_tasks.proofs.Runs.{always_ready}
use Rattle.vx_tasks.proofs.Picks.{none_ready}
use Rattle.vx_tasks.proofs.laws.ready.Goals as goal

pub returns-clause-some : goal.returns-clause-some
returns-clause-some c = λ f e ms rules l h. always_ready f e ms rules l h

pub returns-clause-none : goal.returns-clause-none
returns-clause-none c = λ f s h. none_ready f s h
