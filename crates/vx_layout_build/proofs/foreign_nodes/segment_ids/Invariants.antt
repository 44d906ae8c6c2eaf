use Rattle.std.proofs.Common.{◌≡◌, take, map}
use Rattle.vx_layout_tree.specs.LayoutView.{number}
use Rattle.vx_layout_build.proofs.foreign_nodes.segment_ids.Given as goal

abbrev pub invariant-loop-number : goal.invariant-loop-number
invariant-loop-number l = map number l.ids.items ≡ take l.number-index l.numbers
