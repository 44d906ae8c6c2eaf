use Rattle.std.proofs.Common.{◌≡◌, ◌≤◌, map, take, vec_len, vec_capacity}
use Rattle.vx_path.specs.Path.{eof_path}
use Rattle.vx_machine_ids.specs.Stock.{both, ids_stock}
use Rattle.vx_machine_ids.specs.Balance.{Owned, Moved}
use Rattle.vx_column_ids.specs.Outsets.{ends_stock}
use Rattle.vx_column_ids.proofs.Pointers.{gone_on}
use Rattle.vx_column_ids.proofs.ids.next_ids.Given as goal

abbrev pub invariant-ids : goal.invariant-ids
invariant-ids l = record {
  owned : Owned l.universe (both (ends_stock l.pointers.items) (ids_stock l.ids.items));
  moved : Moved l.initial.universe l.universe (ends_stock l.initial.pointers.items) (both (ends_stock l.pointers.items) (ids_stock l.ids.items));
  ends : l.pointers.items ≡ gone_on l.i l.initial.pointers.items;
  given : l.ids.items ≡ map eof_path (take l.i l.initial.pointers.items);
  count : vec_len l.pointers ≡ vec_len l.initial.pointers;
  made : vec_len l.ids ≡ l.i;
  room : vec_len l.pointers ≤ vec_capacity l.ids;
}
