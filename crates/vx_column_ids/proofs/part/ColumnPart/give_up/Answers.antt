use Rattle.vx_machine_ids.specs.Stock.{ids_stock, end_stock}
use Rattle.vx_machine_ids.proofs.MoveLaws.{owned_left, owned_rest}
use Rattle.vx_column_ids.proofs.part.ColumnPart.give_up.Goals as goal

pub give_up_ids-requires : goal.give_up_ids-requires
give_up_ids-requires c = owned_left c.args.self.universe (ids_stock c.args.self.ids.items) (end_stock c.args.self.eof) c.args.self.owned

pub give_up_pointer-requires : goal.give_up_pointer-requires
give_up_pointer-requires c =
    owned_rest c.args.self.universe c.give_up_ids.new.universe (ids_stock c.args.self.ids.items) (end_stock c.args.self.eof) c.args.self.owned c.give_up_ids.ensures
