use Rattle.std.proofs.Common.{◌≡◌, ◌++◌, map}
use Rattle.std.specs.Vec.Iter.{into_iter_items}
use Rattle.vx_model.specs.TreeView.{val}
use Rattle.vx_layout_spec.specs.Rows.{joined}
use Rattle.vx_read.specs.Parts.{rows_in}
use Rattle.vx_read.proofs.counts.joined.Given as goal

abbrev pub invariant-loop-part : goal.invariant-loop-part
invariant-loop-part l = map val l.rows.items ++ joined (map rows_in (into_iter_items l.part-iterator)) ≡ joined (map rows_in l.fn.parts.items)
