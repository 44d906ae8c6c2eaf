use Rattle.std.proofs.Common.{◌≡◌, ◌++◌, map, vec_len}
use Rattle.vx_layout_build.specs.ChildView.{child_lay}
use Rattle.vx_layout_build.specs.PreOrder.{all_pre_order, stacked}
use Rattle.vx_layout_build.proofs.walk.push_all.Given as goal

abbrev pub decreases-loop-child : goal.decreases-loop-child
decreases-loop-child l = vec_len l.children

abbrev pub invariant-loop-child : goal.invariant-loop-child
invariant-loop-child l = all_pre_order (map child_lay l.children.items) ++ stacked (map child_lay l.stack.items) ≡ all_pre_order (map child_lay l.initial.children.items) ++ stacked (map child_lay l.initial.stack.items)
