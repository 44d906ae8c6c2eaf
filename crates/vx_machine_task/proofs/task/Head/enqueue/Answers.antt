use Rattle.vx_machine_node.specs.Stocks.{local_stock, dues_stock}
use Rattle.vx_machine_task.proofs.TaskParts.{queue_more}
use Rattle.vx_machine_task.proofs.ViewParts.{desk_more}
use Rattle.vx_machine_task.proofs.task.Head.enqueue.Goals as goal

pub returns-in-Ok-clause-given : goal.returns-in-Ok-clause-given
returns-in-Ok-clause-given c = queue_more (local_stock c.args.self.now.local) (dues_stock c.args.self.now.todo.items) c.args.self.now.inbox.items c.push_back.new.self.items c.args.item c.in-Ok.ensures.items

pub returns-in-Ok-clause-shows : goal.returns-in-Ok-clause-shows
returns-in-Ok-clause-shows c = desk_more c.args.self.now c.push_back.new.self.items c.args.item c.in-Ok.ensures.items
