use Rattle.std.proofs.Common.{◌≡◌, ◌++◌}
use Rattle.std.specs.Vec.Iter.{into_iter_items}
use Rattle.vx_nodes.specs.Given.{outputs_in}
use Rattle.vx_nodes.proofs.outputs.to_places.Given as goal

abbrev pub invariant-loop-place : goal.invariant-loop-place
invariant-loop-place l = outputs_in l.items ++ into_iter_items l.place-iterator ≡ l.fn.outputs.items
