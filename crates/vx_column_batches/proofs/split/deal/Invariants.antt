use Rattle.std.proofs.Common.{◌≡◌, ◌++◌, map, take, drop}
use Rattle.std.specs.Vec.Iter.{into_iter_items}
use Rattle.vx_column_batches.specs.Beside.{dealt}
use Rattle.vx_column_batches.proofs.split.deal.Given as goal

abbrev pub invariant-loop-column : goal.invariant-loop-column
invariant-loop-column l =
    map (λ c. c.items) (take l.column-index l.column-items) ++ dealt (map (λ c. c.items) (drop l.column-index l.column-items)) (into_iter_items l.parts) ≡ dealt (map (λ c. c.items) l.fn.columns.items) l.fn.parts.items
