use Rattle.vx_machine_promises.proofs.Fitting.{valid_is_sound, appends_fit}
use Rattle.vx_machine_promises.proofs.valid.Goals as goal

pub returns-clause-sound : goal.returns-clause-sound
returns-clause-sound c = valid_is_sound

pub returns-clause-appends : goal.returns-clause-appends
returns-clause-appends c = appends_fit
