use Rattle.vx_machine_state.proofs.Placing.{steps_are_ready, own_place, kid_place, rest_place}
use Rattle.vx_machine_state.proofs.places.Goals as goal

pub returns-clause-ready : goal.returns-clause-ready
returns-clause-ready c = steps_are_ready

pub returns-clause-own : goal.returns-clause-own
returns-clause-own c = own_place

pub returns-clause-kid : goal.returns-clause-kid
returns-clause-kid c = kid_place

pub returns-clause-rest : goal.returns-clause-rest
returns-clause-rest c = rest_place
