use Rattle.std.proofs.Common.{refl}
use Rattle.vx_machine_state.specs.Acts.{with_item}
use Rattle.vx_machine_node.specs.Stocks.{item_stock}
use Rattle.vx_machine_node.specs.View.{item_of}
use Rattle.vx_machine_task.specs.View.{desk_of}
use Rattle.vx_machine_task.specs.declared.task.Task.{out-Task}
use Rattle.vx_machine_task.proofs.PaidSteps.{head_same}
use Rattle.vx_machine_task.proofs.TaskParts.{head_more}
use Rattle.vx_machine_task.proofs.ViewParts.{head_row}
use Rattle.vx_machine_task.proofs.task.Task.give.Goals as goal

pub returns-in-Ok-clause-given : goal.returns-in-Ok-clause-given
returns-in-Ok-clause-given c = head_more _ c.args.self.now (item_stock c.args.item) refl c.in-Ok.ensures.given

pub returns-in-Ok-clause-shows : goal.returns-in-Ok-clause-shows
returns-in-Ok-clause-shows c = λ r. head_row _ c.args.self.now (with_item (desk_of (out-Task c.args.self.now).head) (item_of c.args.item)) r refl c.in-Ok.ensures.shows

pub returns-in-Ok-clause-reserved : goal.returns-in-Ok-clause-reserved
returns-in-Ok-clause-reserved c = head_same _ c.args.self.now refl c.enqueue.ensures.reserved

pub returns-in-Err-clause-reserved : goal.returns-in-Err-clause-reserved
returns-in-Err-clause-reserved c = head_same _ c.args.self.now refl c.enqueue.ensures.reserved
