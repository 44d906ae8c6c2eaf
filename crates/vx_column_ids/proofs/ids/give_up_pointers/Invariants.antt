use Rattle.std.proofs.Common.{vec_len}
use Rattle.vx_column_ids.specs.Outsets.{ends_stock}
use Rattle.vx_machine_ids.specs.Balance.{Owned, Moved}
use Rattle.vx_column_ids.proofs.ids.give_up_pointers.Given as goal

abbrev pub invariant-loop-pointer : goal.invariant-loop-pointer
invariant-loop-pointer l = record {
  owned : Owned l.universe (ends_stock l.pointers.items);
  moved : Moved l.initial.universe l.universe (ends_stock l.initial.pointers.items) (ends_stock l.pointers.items);
}

abbrev pub decreases-loop-pointer : goal.decreases-loop-pointer
decreases-loop-pointer l = vec_len l.pointers
