use Rattle.std.proofs.Common.{◌≡◌, ◌++◌, length}
use Rattle.std.specs.Vec.Iter.{into_iter_items}
use Rattle.vx_react.specs.Splitter.{column_outputs}
use Rattle.vx_nodes.specs.Given.{outputs_in}
use Rattle.vx_nodes.proofs.outputs.to_columns.Given as goal

abbrev pub invariant-loop-chunk : goal.invariant-loop-chunk
invariant-loop-chunk l = outputs_in l.items ++ column_outputs (length l.items.items) (into_iter_items l.chunk-iterator) ≡ column_outputs 0 l.fn.chunks.items
