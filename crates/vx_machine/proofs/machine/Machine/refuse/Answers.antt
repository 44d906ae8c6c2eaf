use Rattle.vx_machine_ids.proofs.MoveLaws.{owned_left, owned_rest, moved_twice, leaves_none}
use Rattle.vx_machine_task.specs.Stocks.{task_stock}
use Rattle.vx_machine.specs.Source.{phase_stock}
use Rattle.vx_machine.specs.Whole.{machine_stock}
use Rattle.vx_machine.proofs.machine.Machine.refuse.Goals as goal

pub give_up_phase-requires : goal.give_up_phase-requires
give_up_phase-requires g c = owned_left (g.O.Order.active c.args.order.now) (phase_stock c.args.self.phase) (task_stock c.args.self.root) c.requires.owned

pub refuse-requires-clause-owned : goal.refuse-requires-clause-owned
refuse-requires-clause-owned g c = owned_rest (g.O.Order.active c.args.order.now) (g.O.Order.active c.give_up_phase.new.order) (phase_stock c.args.self.phase) (task_stock c.args.self.root) c.requires.owned c.give_up_phase.ensures.moved

pub returns-clause-moved : goal.returns-clause-moved
returns-clause-moved g c = moved_twice (g.O.Order.active c.args.order.now) (g.O.Order.active c.give_up_phase.new.order) (g.O.Order.active c.refuse.new.order)
    (phase_stock c.args.self.phase) (task_stock c.args.self.root) c.requires.owned c.give_up_phase.ensures.moved c.refuse.ensures.moved

pub returns-clause-empty : goal.returns-clause-empty
returns-clause-empty g c = λ e. leaves_none (g.O.Order.active c.args.order.now) (g.O.Order.active c.refuse.new.order) (machine_stock c.args.self) e
    (moved_twice (g.O.Order.active c.args.order.now) (g.O.Order.active c.give_up_phase.new.order) (g.O.Order.active c.refuse.new.order)
    (phase_stock c.args.self.phase) (task_stock c.args.self.root) c.requires.owned c.give_up_phase.ensures.moved c.refuse.ensures.moved)
