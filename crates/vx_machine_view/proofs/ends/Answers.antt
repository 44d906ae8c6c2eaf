use Rattle.vx_machine_view.proofs.Ending.{held_shows_at, finish_shows_at, layout_shows_at}
use Rattle.vx_machine_view.proofs.ends.Goals as goal

pub returns-clause-held : goal.returns-clause-held
returns-clause-held c = held_shows_at

pub returns-clause-finish : goal.returns-clause-finish
returns-clause-finish c = finish_shows_at

pub returns-clause-layout : goal.returns-clause-layout
returns-clause-layout c = layout_shows_at
