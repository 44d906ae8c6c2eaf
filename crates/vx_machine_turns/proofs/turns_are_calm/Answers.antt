use Rattle.vx_machine_turns.proofs.CalmLaws.{turns_are_calm}
use Rattle.vx_machine_turns.proofs.turns_are_calm.Goals as goal

pub returns : goal.returns
returns c = turns_are_calm
