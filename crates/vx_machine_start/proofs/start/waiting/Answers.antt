use Rattle.vx_machine_start.proofs.StartMoves.{idle_stock}
use Rattle.vx_machine_task.proofs.ViewParts.{idle_row}
use Rattle.vx_machine_start.proofs.start.waiting.Goals as goal

pub returns-clause-held : goal.returns-clause-held
returns-clause-held c = idle_stock _ c.new.ensures.items c.new-2.ensures.items

pub returns-clause-shows : goal.returns-clause-shows
returns-clause-shows c = λ r. idle_row _ r c.new.ensures.items c.new-2.ensures.items
