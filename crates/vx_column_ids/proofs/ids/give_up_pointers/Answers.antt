use Rattle.vx_machine_ids.specs.Stock.{end_stock}
use Rattle.vx_column_ids.specs.Outsets.{ends_stock}
use Rattle.vx_machine_ids.proofs.MoveLaws.{moved_then, moved_none}
use Rattle.vx_machine_ids.proofs.Lists.{pop_owned, pop_moved, pop_rest}
use Rattle.vx_column_ids.proofs.ids.give_up_pointers.Goals as goal

pub loop-pointer-init : goal.loop-pointer-init
loop-pointer-init c = record { owned = c.requires; moved = moved_none c.args.universe.now (ends_stock c.args.pointers.items) c.requires }

pub give_up_pointer-requires : goal.give_up_pointer-requires
give_up_pointer-requires c = pop_owned end_stock c.loop-pointer.universe c.loop-pointer.pointers.items c.pop.new.self.items c.in-Some.pointer c.in-Some.ensures.items c.loop-pointer.invariant.owned

pub loop-pointer-preserved : goal.loop-pointer-preserved
loop-pointer-preserved c = record {
  owned = pop_rest end_stock c.loop-pointer.universe c.loop-pointer.pointers.items c.pop.new.self.items c.in-Some.pointer c.in-Some.ensures.items c.loop-pointer.invariant.owned c.give_up_pointer.new.universe c.give_up_pointer.ensures;
  moved = moved_then c.args.universe.now c.loop-pointer.universe c.give_up_pointer.new.universe (ends_stock c.args.pointers.items) (ends_stock c.loop-pointer.pointers.items) (ends_stock c.pop.new.self.items) c.loop-pointer.invariant.moved
      (pop_moved end_stock c.loop-pointer.universe c.loop-pointer.pointers.items c.pop.new.self.items c.in-Some.pointer c.in-Some.ensures.items c.loop-pointer.invariant.owned c.give_up_pointer.new.universe c.give_up_pointer.ensures);
}
