use Rattle.std.proofs.Common.{map}
use Rattle.std.specs.Vec.Iter.{into_iter_items}
use Rattle.vx_layout_tree.specs.LayoutView.{layout_data}
use Rattle.vx_column_layouts.proofs.Joining.{SoFar}
use Rattle.vx_column_layouts.proofs.numbers.all_numbered.Given as goal

abbrev pub invariant-columns : goal.invariant-columns
invariant-columns l = SoFar l.history l.fn.outcomes.items (into_iter_items l.outcome-iterator) (map layout_data l.layouts.items)
