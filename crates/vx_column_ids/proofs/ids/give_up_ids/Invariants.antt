use Rattle.std.proofs.Common.{vec_len}
use Rattle.vx_machine_ids.specs.Stock.{ids_stock}
use Rattle.vx_machine_ids.specs.Balance.{Owned, Moved}
use Rattle.vx_column_ids.proofs.ids.give_up_ids.Given as goal

abbrev pub invariant-loop-id : goal.invariant-loop-id
invariant-loop-id l = record {
  owned : Owned l.universe (ids_stock l.ids.items);
  moved : Moved l.initial.universe l.universe (ids_stock l.initial.ids.items) (ids_stock l.ids.items);
}

abbrev pub decreases-loop-id : goal.decreases-loop-id
decreases-loop-id l = vec_len l.ids
