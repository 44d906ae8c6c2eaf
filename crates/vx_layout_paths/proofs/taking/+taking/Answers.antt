use Rattle.std.proofs.Common.{◌∙◌, map, sym, ap, arith}
use Rattle.std.proofs.lemmas.Result.{on_ok_weaker}
use Rattle.vx_layout_tree.proofs.CopySteps.{one_below}
use Rattle.vx_layout_tree.specs.LayoutView.{layout_data, number}
use Rattle.vx_layout_paths.proofs.Steps.{depth_is, room_for_own, room_for_children, took_children, room_for_one, took_one_more}
use Rattle.vx_layout_paths.proofs.taking.+taking.Goals as goal

-- ---- a layout by its kind

pub take_paths-take_below-requires-in-Chunked-Owned : goal.take_paths-take_below-requires-in-Chunked-Owned
take_paths-take_below-requires-in-Chunked-Owned t c =
    let e = rw c.in-Chunked-Owned.field-0-is at c.in-Chunked-Owned.ensures in
    (omega arith, (c.requires.room, e.1 ∙ ap (map layout_data) (sym c.deref.ensures.value)))

pub take_paths-take_below-requires-in-Struct-Owned : goal.take_paths-take_below-requires-in-Struct-Owned
take_paths-take_below-requires-in-Struct-Owned t c =
    let e = rw c.in-Struct-Owned.field-0-is at c.in-Struct-Owned.ensures in
    (omega arith, (c.requires.room, e.1 ∙ ap (map layout_data) (sym c.deref-in-Struct-Owned.ensures.value)))

-- ---- a layout and its children

pub take_below-take_own-requires : goal.take_below-take_own-requires
take_below-take_own-requires t c = record { room = room_for_own (layout_data c.args.layout.now) (map number c.segment_ids.result.now) c.args.ordered.now c.segment_ids.ensures c.requires.room }

pub take_below-take_all-requires : goal.take_below-take_all-requires
take_below-take_all-requires t c = (
  omega (arith, depth_is (layout_data c.args.layout.now) (map layout_data c.args.children.now) c.requires.children),
  room_for_children (layout_data c.args.layout.now) (map number c.segment_ids.result.now) (map layout_data c.args.children.now) c.args.paths.now c.take_own.new.paths
      c.args.ordered.now c.take_own.new.ordered c.segment_ids.ensures c.requires.children c.in_ok-take_own.ensures c.requires.room,
)

pub take_below-returns : goal.take_below-returns
take_below-returns t c =
    on_ok_weaker c.take_all.result
    (took_children (layout_data c.args.layout.now) (map number c.segment_ids.result.now) (map layout_data c.args.children.now) c.args.paths.now c.take_own.new.paths c.take_all.new.paths
    c.args.ordered.now c.take_own.new.ordered c.take_all.new.ordered c.segment_ids.ensures c.requires.children c.in_ok-take_own.ensures)
    c.take_all.ensures

-- ---- one layout after another

pub take_all-take_paths-requires : goal.take_all-take_paths-requires
take_all-take_paths-requires t c = (
  omega (arith, one_below c.args.layouts.now c.loop-layout.layout-index c.layout-item.result c.loop-layout-test.true c.layout-item.is),
  room_for_one layout_data c.args.layouts.now c.loop-layout.layout-index c.layout-item.result c.args.paths.now c.loop-layout.paths c.args.ordered.now c.loop-layout.ordered
      c.loop-layout-test.true c.layout-item.is c.loop-layout.invariant c.requires.room,
)

pub take_all-loop-layout-preserved : goal.take_all-loop-layout-preserved
take_all-loop-layout-preserved t c =
    took_one_more layout_data c.args.layouts.now c.loop-layout.layout-index c.layout-item.result c.args.paths.now c.loop-layout.paths c.take_paths.new.paths
    c.args.ordered.now c.loop-layout.ordered c.take_paths.new.ordered c.loop-layout-test.true c.layout-item.is c.loop-layout.invariant c.in_ok-take_paths.ensures
