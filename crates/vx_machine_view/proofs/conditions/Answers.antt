use Rattle.vx_machine_view.proofs.Suiting.{forms_are_suited}
use Rattle.vx_machine_view.proofs.Imaging.{images_are_careful}
use Rattle.vx_machine_view.proofs.Sounding.{sound_is_typed, least_agrees}
use Rattle.vx_machine_view.proofs.conditions.Goals as goal

pub returns-clause-suited : goal.returns-clause-suited
returns-clause-suited c = forms_are_suited

pub returns-clause-typed : goal.returns-clause-typed
returns-clause-typed c = sound_is_typed

pub returns-clause-least : goal.returns-clause-least
returns-clause-least c = least_agrees

pub returns-clause-images : goal.returns-clause-images
returns-clause-images c = images_are_careful
