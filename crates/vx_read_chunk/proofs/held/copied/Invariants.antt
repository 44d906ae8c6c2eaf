use Rattle.std.proofs.Common.{◌≡◌, map, take}
use Rattle.vx_model.specs.TreeView.{val}
use Rattle.vx_read_chunk.proofs.held.copied.Given as goal

abbrev pub invariant-loop-value : goal.invariant-loop-value
invariant-loop-value l = map val l.copies.items ≡ map val (take l.value-index l.values)
