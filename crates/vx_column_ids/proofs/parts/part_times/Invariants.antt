use Rattle.std.proofs.Common.{◌≡◌, ◌+◌, ◌≤◌, [], map, vec_len, vec_capacity}
use Rattle.vx_machine_ids.specs.Stock.{both, end_stock}
use Rattle.vx_machine_ids.specs.Balance.{Owned}
use Rattle.vx_column_ids.specs.Outsets.{column_outsets, outset_of, batch_ends, ends_stock}
use Rattle.vx_column_ids.proofs.parts.part_times.Given as goal

-- so many columns have their parts, and the pointers stand before the next one's ids
abbrev pub invariant-parts : goal.invariant-parts
invariant-parts l = record {
  owned : Owned l.universe (both (ends_stock l.pointers.items) (end_stock l.eof));
  batches : l.pointers.items ≡ batch_ends l._c 0 (vec_len l.initial.pointers);
  stem : l.eof.stem ≡ [];
  last : l.eof.last ≡ l._c + 1;
  outsets : map outset_of l.parts.items ≡ column_outsets l._c (vec_len l.initial.pointers);
  count : vec_len l.parts ≡ l._c;
  room : l.count ≤ vec_capacity l.parts;
}
