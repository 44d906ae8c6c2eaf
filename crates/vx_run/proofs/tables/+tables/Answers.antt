-- The tables of a node, and of its children, one after the other.
use Rattle.std.proofs.Common.{◌<◌, ◌≤◌, length, arith}
use Rattle.std.proofs.lemmas.Result.{IfOk-weaker}
use Rattle.vx_layout_spec.specs.LayoutTree.{children_of}
use Rattle.vx_layout_tree.specs.LayoutView.{layout_data}
use Rattle.vx_layout_tree.specs.LayDepth.{depth}
use Rattle.vx_read.proofs.ReadSteps.{child_falls}
use Rattle.vx_segment_map.specs.SegmentView.{segment_in}
use Rattle.vx_run.proofs.TableSteps.{has_child, of_child, child_read, own_read, next_read, all_read}
use Rattle.vx_run.proofs.tables.+tables.Goals as goal

pub push_tables-loop-i-init : goal.push_tables-loop-i-init
push_tables-loop-i-init t c = own_read (segment_in c.args.segments.now) (layout_data c.args.layout.now) c.args.tables.now.items c.push_own.new.tables.items c.in_ok-push_own.ensures

pub push_tables-loop-i-preserved : goal.push_tables-loop-i-preserved
push_tables-loop-i-preserved t c =
    let l = layout_data c.args.layout.now in
    let there : c.loop-i.i < length (children_of l) = omega arith in
    next_read (segment_in c.args.segments.now) l c.loop-i.i c.args.tables.now.items c.loop-i.tables.items c.push_child.new.tables.items there c.loop-i.invariant c.in_ok-push_child.ensures

pub push_tables-returns : goal.push_tables-returns
push_tables-returns t c =
    let l = layout_data c.args.layout.now in
    let all : length (children_of l) ≤ c.loop-i.i = omega arith in
    all_read (segment_in c.args.segments.now) l c.loop-i.i c.args.tables.now.items c.loop-i.tables.items all c.loop-i.invariant

pub push_child-child_there-requires : goal.push_child-child_there-requires
push_child-child_there-requires t c = has_child (segment_in c.args.segments.now) (layout_data c.args.layout.now) c.args.i c.requires.there c.requires.place

pub push_child-push_tables-pushed-requires : goal.push_child-push_tables-pushed-requires
push_child-push_tables-pushed-requires t c =
    let l = layout_data c.args.layout.now in
    let deep : depth (layout_data c.layout.result.now) < depth l = rw c.layout.ensures (child_falls l _ c.args.i c.in_ok-child.ensures) in
    (omega (arith, deep), rw c.layout.ensures (of_child (segment_in c.args.segments.now) l c.args.i _ c.requires.there c.in_ok-child.ensures).0)

pub push_child-returns : goal.push_child-returns
push_child-returns t c =
    IfOk-weaker c.push_tables-pushed.result _ _
    (λ u h. child_read (segment_in c.args.segments.now) (layout_data c.args.layout.now) c.args.i _ _ c.args.tables.now.items c.push_tables-pushed.new.tables.items c.requires.there c.in_ok-child.ensures c.layout.ensures h) c.push_tables-pushed.ensures
