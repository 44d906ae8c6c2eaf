use Rattle.vx_machine_turns.proofs.Fueled.{fuel_is_enough}
use Rattle.vx_machine_turns.proofs.fuel_is_enough.Goals as goal

pub returns : goal.returns
returns c = fuel_is_enough
