use Rattle.std.proofs.Common.{◌≡◌, drop, map}
use Rattle.vx_layout_spec.specs.LayoutTree.{children_of}
use Rattle.vx_layout_build.specs.ChildView.{child_lay}
use Rattle.vx_layout_tree.specs.LayoutView.{layout_data}
use Rattle.vx_layout_build.specs.Present.{all_answered}
use Rattle.vx_layout_build.proofs.PresentSteps.{onto}
use Rattle.vx_layout_build.proofs.layout_walk.LayoutLayoutWalk.children.Given as goal

abbrev pub invariant-loop-i : goal.invariant-loop-i
invariant-loop-i l = onto (map child_lay l.children.items) (all_answered (drop l.i (children_of (layout_data l.self)))) ≡ all_answered (children_of (layout_data l.self))
