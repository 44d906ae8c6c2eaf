use Rattle.std.proofs.Common.{◌≡◌, ◌++◌}
use Rattle.std.specs.Vec.Iter.{into_iter_items}
use Rattle.vx_react.specs.Reactor.{child_outputs}
use Rattle.vx_nodes.specs.Given.{outputs_in}
use Rattle.vx_nodes.proofs.outputs.to_child.Given as goal

abbrev pub invariant-loop-chunk : goal.invariant-loop-chunk
invariant-loop-chunk l = outputs_in l.items ++ child_outputs (into_iter_items l.chunk-iterator) ≡ child_outputs l.fn.chunks.items
