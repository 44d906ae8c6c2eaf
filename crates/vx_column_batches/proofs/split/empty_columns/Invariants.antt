use Rattle.std.proofs.Common.{◌≡◌, [], map}
use Rattle.vx_column_batches.specs.Beside.{chunks_beside}
use Rattle.vx_column_batches.proofs.split.empty_columns.Given as goal

abbrev pub invariant-loop-c : goal.invariant-loop-c
invariant-loop-c l = map (λ c. c.items) l.columns.items ≡ chunks_beside l._c []
