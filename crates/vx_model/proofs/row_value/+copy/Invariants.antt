use Rattle.std.proofs.Common.{◌≡◌, map, take}
use Rattle.vx_model.specs.TreeView.{val}
use Rattle.vx_model.proofs.row_value.+copy.Given as goal

abbrev pub invariant-copy_all-loop-value : goal.invariant-copy_all-loop-value
invariant-copy_all-loop-value l = map val l.copies.items ≡ map val (take l.value-index l.values.items)
