use Rattle.vx_layout_spec.specs.LayoutTree.{children_of}
use Rattle.vx_layout_tree.specs.LayoutView.{layout_data}
use Rattle.vx_row_count.proofs.CountSteps.{child_below}
use Rattle.vx_row_count.proofs.child.child_there.Goals as goal

pub child-requires : goal.child-requires
child-requires c = child_below (children_of (layout_data c.args.layout.now)) c.args.i c.requires
