use Rattle.std.proofs.Common.{◌≡◌, map}
use Rattle.vx_column_batches.specs.Beside.{columns_of, width_of, chunks_beside}
use Rattle.vx_column_batches.proofs.split.split_each.Given as goal

abbrev pub invariant-batches : goal.invariant-batches
invariant-batches l = map (λ c. c.items) l.columns.items ≡ chunks_beside (width_of l.split) (map (columns_of l.split) l.yielded)
