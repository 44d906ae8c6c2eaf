use Rattle.vx_machine_ids.specs.Stock.{ids_stock, end_stock}
use Rattle.vx_machine_ids.proofs.MoveLaws.{owned_right}
use Rattle.vx_column_ids.proofs.Moves.{below_owned, below_moved, lost_owned, lost_moved}
use Rattle.vx_column_ids.proofs.parts.part_below.Goals as goal

pub take_below-requires-clause-owned : goal.take_below-requires-clause-owned
take_below-requires-clause-owned c = owned_right c.args.universe.now (ids_stock c.args.ids.items) (end_stock c.args.eof.now) c.requires.owned

pub part_of-requires : goal.part_of-requires
part_of-requires c =
    below_owned c.args.universe.now c.take_below.new.universe (ids_stock c.args.ids.items) (end_stock c.args.eof.now) (end_stock c.take_below.new.pointer) (end_stock c.in-Ok.below) c.requires.owned c.in-Ok.ensures.moved

pub returns-in-Ok-clause-moved : goal.returns-in-Ok-clause-moved
returns-in-Ok-clause-moved c =
    below_moved c.args.universe.now c.take_below.new.universe (ids_stock c.args.ids.items) (end_stock c.args.eof.now) (end_stock c.take_below.new.pointer) (end_stock c.in-Ok.below) c.requires.owned c.in-Ok.ensures.moved
    c.part_of.new.universe c.part_of.ensures.moved

pub give_up_ids-requires : goal.give_up_ids-requires
give_up_ids-requires c =
    lost_owned c.args.universe.now c.take_below.new.universe (ids_stock c.args.ids.items) (end_stock c.args.eof.now) (end_stock c.take_below.new.pointer) c.requires.owned c.in-Err.ensures.moved

pub returns-in-Err-clause-moved : goal.returns-in-Err-clause-moved
returns-in-Err-clause-moved c =
    lost_moved c.args.universe.now c.take_below.new.universe (ids_stock c.args.ids.items) (end_stock c.args.eof.now) (end_stock c.take_below.new.pointer) c.requires.owned c.in-Err.ensures.moved
    c.give_up_ids.new.universe c.give_up_ids.ensures
