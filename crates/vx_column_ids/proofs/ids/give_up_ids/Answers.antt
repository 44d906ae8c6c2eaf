use Rattle.vx_machine_ids.specs.Stock.{id_stock, ids_stock}
use Rattle.vx_machine_ids.proofs.MoveLaws.{moved_then, moved_none}
use Rattle.vx_machine_ids.proofs.Lists.{pop_owned, pop_moved, pop_rest}
use Rattle.vx_column_ids.proofs.ids.give_up_ids.Goals as goal

pub loop-id-init : goal.loop-id-init
loop-id-init c = record { owned = c.requires; moved = moved_none c.args.universe.now (ids_stock c.args.ids.items) c.requires }

pub give_up_id-requires : goal.give_up_id-requires
give_up_id-requires c = pop_owned id_stock c.loop-id.universe c.loop-id.ids.items c.pop.new.self.items c.in-Some.id c.in-Some.ensures.items c.loop-id.invariant.owned

pub loop-id-preserved : goal.loop-id-preserved
loop-id-preserved c = record {
  owned = pop_rest id_stock c.loop-id.universe c.loop-id.ids.items c.pop.new.self.items c.in-Some.id c.in-Some.ensures.items c.loop-id.invariant.owned c.give_up_id.new.universe c.give_up_id.ensures;
  moved = moved_then c.args.universe.now c.loop-id.universe c.give_up_id.new.universe (ids_stock c.args.ids.items) (ids_stock c.loop-id.ids.items) (ids_stock c.pop.new.self.items) c.loop-id.invariant.moved
      (pop_moved id_stock c.loop-id.universe c.loop-id.ids.items c.pop.new.self.items c.in-Some.id c.in-Some.ensures.items c.loop-id.invariant.owned c.give_up_id.new.universe c.give_up_id.ensures);
}
