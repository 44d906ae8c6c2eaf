use Rattle.vx_machine_view.proofs.Placing.{whole_is_ready, source_place, root_place}
use Rattle.vx_machine_view.proofs.places.Goals as goal

pub returns-clause-whole : goal.returns-clause-whole
returns-clause-whole c = whole_is_ready

pub returns-clause-source : goal.returns-clause-source
returns-clause-source c = source_place

pub returns-clause-root : goal.returns-clause-root
returns-clause-root c = root_place
