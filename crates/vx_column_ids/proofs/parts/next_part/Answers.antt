use Rattle.vx_machine_ids.specs.Stock.{both, ids_stock, end_stock}
use Rattle.vx_machine_ids.proofs.MoveLaws.{owned_left, owned_right}
use Rattle.vx_column_ids.specs.Outsets.{ends_stock}
use Rattle.vx_column_ids.proofs.Moves.{after_ids, ids_gone, parted_off}
use Rattle.vx_column_ids.proofs.parts.next_part.Goals as goal

pub next_ids-requires-clause-owned : goal.next_ids-requires-clause-owned
next_ids-requires-clause-owned c = owned_left c.args.universe.now (ends_stock c.args.pointers.now.items) (end_stock c.args.eof.now) c.requires.owned

pub part_below-requires-clause-owned : goal.part_below-requires-clause-owned
part_below-requires-clause-owned c =
    owned_right c.next_ids.new.universe (ends_stock c.next_ids.new.pointers.items) (both (ids_stock c.next_ids.new.ids.items) (end_stock c.args.eof.now))
    (after_ids c.args.universe.now c.next_ids.new.universe (ends_stock c.args.pointers.now.items) (ends_stock c.next_ids.new.pointers.items) (ids_stock c.next_ids.new.ids.items) (end_stock c.args.eof.now) c.requires.owned c.next_ids.ensures.moved)

pub give_up_ids-requires : goal.give_up_ids-requires
give_up_ids-requires c =
    owned_left c.next_ids.new.universe (ids_stock c.next_ids.new.ids.items) (end_stock c.args.eof.now)
    (owned_right c.next_ids.new.universe (ends_stock c.next_ids.new.pointers.items) (both (ids_stock c.next_ids.new.ids.items) (end_stock c.args.eof.now))
    (after_ids c.args.universe.now c.next_ids.new.universe (ends_stock c.args.pointers.now.items) (ends_stock c.next_ids.new.pointers.items) (ids_stock c.next_ids.new.ids.items) (end_stock c.args.eof.now) c.requires.owned c.next_ids.ensures.moved))

pub returns-in-Ok-clause-owned : goal.returns-in-Ok-clause-owned
returns-in-Ok-clause-owned c =
    parted_off c.next_ids.new.universe c.part_below.new.universe (ends_stock c.next_ids.new.pointers.items) (ids_stock c.next_ids.new.ids.items) (end_stock c.args.eof.now) (end_stock c.part_below.new.eof)
    (after_ids c.args.universe.now c.next_ids.new.universe (ends_stock c.args.pointers.now.items) (ends_stock c.next_ids.new.pointers.items) (ids_stock c.next_ids.new.ids.items) (end_stock c.args.eof.now) c.requires.owned c.next_ids.ensures.moved)
    c.part_below.ensures.moved

pub returns-in-Err-clause-owned : goal.returns-in-Err-clause-owned
returns-in-Err-clause-owned c =
    ids_gone c.next_ids.new.universe c.give_up_ids.new.universe (ends_stock c.next_ids.new.pointers.items) (ids_stock c.next_ids.new.ids.items) (end_stock c.args.eof.now)
    (after_ids c.args.universe.now c.next_ids.new.universe (ends_stock c.args.pointers.now.items) (ends_stock c.next_ids.new.pointers.items) (ids_stock c.next_ids.new.ids.items) (end_stock c.args.eof.now) c.requires.owned c.next_ids.ensures.moved)
    c.give_up_ids.ensures
