use Rattle.std.proofs.Common.{◌≡◌, ◌++◌, map}
use Rattle.std.specs.Vec.Iter.{into_iter_items}
use Rattle.vx_read.specs.Parts.{rows_in, queued}
use Rattle.vx_read.proofs.structs.queues_of.Given as goal

abbrev pub invariant-loop-column : goal.invariant-loop-column
invariant-loop-column l = map queued l.queues.items ++ map rows_in (into_iter_items l.column-iterator) ≡ map rows_in l.fn.columns.items
