use Rattle.std.proofs.Common.{◌≡◌, ◌≤◌, ◌+◌, ◌*◌}
use Rattle.std.specs.Vec.Iter.{into_iter_items}
use Rattle.vx_layout_bytes.specs.Values.{depth}
use Rattle.vx_layout_bytes.specs.Views.{seen_node}
use Rattle.vx_layout_build.specs.PartsView.{one_depth, children_depth}
use Rattle.vx_layout_build.specs.OpenView.{all_built, wanted_depths}
use Rattle.vx_layout_tree.specs.Views.{all_lays}
use Rattle.vx_layout_build.proofs.BuildSteps.{so_far}
use Rattle.vx_layout_build.proofs.build.+build.Given as goal

abbrev pub decreases-build_node : goal.decreases-build_node
decreases-build_node l = 8 * depth (seen_node l.node)

abbrev pub decreases-build_kind : goal.decreases-build_kind
decreases-build_kind l = 8 * children_depth l.parts.children + 5

abbrev pub decreases-build_open : goal.decreases-build_open
decreases-build_open l = 8 * wanted_depths l.frame.wanted.items + 4

abbrev pub decreases-build_all : goal.decreases-build_all
decreases-build_all l = 8 * wanted_depths l.wanted.items + 3

abbrev pub decreases-build_wanted : goal.decreases-build_wanted
decreases-build_wanted l = 8 * one_depth l.wanted.child + 2

abbrev pub decreases-build_one : goal.decreases-build_one
decreases-build_one l = 8 * one_depth l.child + 1

abbrev pub invariant-build_all-loop-child : goal.invariant-build_all-loop-child
invariant-build_all-loop-child l = (all_built l.fn.wanted.items ≡ so_far (all_lays l.layouts) (all_built (into_iter_items l.child-iterator))) × (wanted_depths (into_iter_items l.child-iterator) ≤ wanted_depths l.fn.wanted.items)
