use Rattle.std.proofs.Common.{◌≡◌, ◌≤◌, [], ◌∷◌, vec_len, vec_capacity}
use Rattle.vx_machine_ids.specs.Stock.{both, end_stock}
use Rattle.vx_machine_ids.specs.Balance.{Owned, Moved}
use Rattle.vx_column_ids.specs.Outsets.{batch_ends, ends_stock}
use Rattle.vx_column_ids.proofs.ids.split_times.Given as goal

abbrev pub invariant-pointers : goal.invariant-pointers
invariant-pointers l = record {
  owned : Owned l.universe (both (end_stock l.stream) (ends_stock l.pointers.items));
  moved : Moved l.initial.universe l.universe (end_stock l.initial.stream) (both (end_stock l.stream) (ends_stock l.pointers.items));
  stem : l.stream.stem ≡ 0 ∷ [];
  last : l.stream.last ≡ l._i;
  ends : l.pointers.items ≡ batch_ends 0 0 l._i;
  count : vec_len l.pointers ≡ l._i;
  room : l.batches ≤ vec_capacity l.pointers;
}
