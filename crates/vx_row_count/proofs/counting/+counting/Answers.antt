-- The parts of a layout, one after the other.
use Rattle.std.proofs.Common.{◌≡◌, ◌<◌, length, sym, ap, subst, ◌∙◌, arith}
use Rattle.std.proofs.lemmas.Result.{IfOk-weaker}
use Rattle.vx_layout_spec.specs.LayoutTree.{children_of}
use Rattle.vx_layout_tree.specs.LayoutView.{layout_data}
use Rattle.vx_layout_tree.specs.LayDepth.{depth}
use Rattle.vx_read.proofs.ReadSteps.{child_falls}
use Rattle.vx_segment_map.specs.SegmentView.{segment_in}
use Rattle.vx_row_count.specs.Counting.{rows_before}
use Rattle.vx_row_count.proofs.CountSteps.{is_count, has_child, at_child, child_count, before_next, before_all, chunks, columns, coded, IsZoned, zones}
use Rattle.vx_row_count.proofs.counting.+counting.Goals as goal

pub count_child-child_there-requires : goal.count_child-child_there-requires
count_child-child_there-requires t c = has_child (segment_in c.args.segments.now) (children_of (layout_data c.args.layout.now)) c.args.i c.requires

pub count_child-count_rows-count-requires : goal.count_child-count_rows-count-requires
count_child-count_rows-count-requires t c =
    let l = layout_data c.args.layout.now in
    let deep : depth (layout_data c.layout.result.now) < depth l = rw c.layout.ensures (child_falls l _ c.args.i c.in_ok-child.ensures) in
    (omega (arith, deep), rw c.layout.ensures (at_child (segment_in c.args.segments.now) (children_of l) c.args.i _ c.requires c.in_ok-child.ensures).0)

pub count_child-returns : goal.count_child-returns
count_child-returns t c =
    IfOk-weaker c.count_rows-count.result _ _
    (λ n h. child_count (segment_in c.args.segments.now) (children_of (layout_data c.args.layout.now)) c.args.i _ _ n c.requires c.in_ok-child.ensures c.layout.ensures h) c.count_rows-count.ensures

pub count_chunks-count_child-requires : goal.count_chunks-count_child-requires
count_chunks-count_child-requires t c =
    let l = layout_data c.args.layout.now in
    let there : c.loop-i.i < length (children_of l) = omega arith in
    (omega arith, (chunks (segment_in c.args.segments.now) l c.requires.there c.requires.chunked).each c.loop-i.i there)

pub count_columns-count_child-requires : goal.count_columns-count_child-requires
count_columns-count_child-requires t c =
    (omega arith, (columns (segment_in c.args.segments.now) (layout_data c.args.layout.now) c.requires.there c.requires.columns).each 0 c.requires.some)

pub count_rows-count_child-requires : goal.count_rows-count_child-requires
count_rows-count_child-requires t c = (omega arith, (coded (segment_in c.args.segments.now) (layout_data c.args.layout.now) c.requires (sym c.in-Dict.ensures)).values)

pub count_rows-count_child-requires-in-Dict : goal.count_rows-count_child-requires-in-Dict
count_rows-count_child-requires-in-Dict t c = (omega arith, (coded (segment_in c.args.segments.now) (layout_data c.args.layout.now) c.requires (sym c.in-Dict.ensures)).codes)

pub count_rows-returns-in_ok-count_child-in-Dict : goal.count_rows-returns-in_ok-count_child-in-Dict
count_rows-returns-in_ok-count_child-in-Dict t c =
    let look = segment_in c.args.segments.now in
    let l = layout_data c.args.layout.now in
    IfOk-weaker c.count_child-in-Dict.result _ _ (λ n h. is_count look l n c.requires (h ∙ (coded look l c.requires (sym c.in-Dict.ensures)).count)) c.count_child-in-Dict.ensures

pub count_chunks-overflow_add-count : goal.count_chunks-overflow_add-count
count_chunks-overflow_add-count t c =
    let l = layout_data c.args.layout.now in
    let there : c.loop-i.i < length (children_of l) = omega arith in
    omega (
      arith,
      c.loop-i.invariant,
      c.in_ok-count.ensures,
      before_all (segment_in c.args.segments.now) (children_of l) c.loop-i.i there,
      (chunks (segment_in c.args.segments.now) l c.requires.there c.requires.chunked).all,
    )

pub count_chunks-loop-i-preserved : goal.count_chunks-loop-i-preserved
count_chunks-loop-i-preserved t c =
    let l = layout_data c.args.layout.now in
    let there : c.loop-i.i < length (children_of l) = omega arith in
    omega (arith, c.loop-i.invariant, c.in_ok-count.ensures, before_next (segment_in c.args.segments.now) (children_of l) c.loop-i.i there)

pub count_chunks-returns : goal.count_chunks-returns
count_chunks-returns t c =
    let look = segment_in c.args.segments.now in
    let l = layout_data c.args.layout.now in
    let all : c.loop-i.i ≡ length (children_of l) = omega arith in
    is_count look l c.loop-i.count c.requires.there (c.loop-i.invariant ∙ (ap (λ n. rows_before (children_of l) n) all ∙ (chunks look l c.requires.there c.requires.chunked).all))

pub count_columns-count_child-requires-in-loop-i : goal.count_columns-count_child-requires-in-loop-i
count_columns-count_child-requires-in-loop-i t c =
    let l = layout_data c.args.layout.now in
    let there : c.loop-i.i < length (children_of l) = omega arith in
    (omega arith, (columns (segment_in c.args.segments.now) l c.requires.there c.requires.columns).each c.loop-i.i there)

pub count_columns-returns : goal.count_columns-returns
count_columns-returns t c =
    let look = segment_in c.args.segments.now in
    let l = layout_data c.args.layout.now in
    is_count look l c.in_ok-count.count c.requires.there (c.in_ok-count.ensures ∙ (columns look l c.requires.there c.requires.columns).count 0 c.requires.some)

pub count_rows-count_child-requires-in-Zoned : goal.count_rows-count_child-requires-in-Zoned
count_rows-count_child-requires-in-Zoned t c = (omega arith, (zones (segment_in c.args.segments.now) (layout_data c.args.layout.now) c.requires (subst IsZoned c.in-Zoned.ensures tt)).there)

pub count_rows-count_child-requires-in-LegacyStats : goal.count_rows-count_child-requires-in-LegacyStats
count_rows-count_child-requires-in-LegacyStats t c =
    (omega arith, (zones (segment_in c.args.segments.now) (layout_data c.args.layout.now) c.requires (subst IsZoned c.in-LegacyStats.ensures tt)).there)

pub count_rows-returns-in-Zoned : goal.count_rows-returns-in-Zoned
count_rows-returns-in-Zoned t c =
    let look = segment_in c.args.segments.now in
    let l = layout_data c.args.layout.now in
    IfOk-weaker c.count_child-in-Zoned.result _ _ (λ n h. is_count look l n c.requires (h ∙ (zones look l c.requires (subst IsZoned c.in-Zoned.ensures tt)).count)) c.count_child-in-Zoned.ensures

pub count_rows-returns-in-LegacyStats : goal.count_rows-returns-in-LegacyStats
count_rows-returns-in-LegacyStats t c =
    let look = segment_in c.args.segments.now in
    let l = layout_data c.args.layout.now in
    IfOk-weaker c.count_child-in-LegacyStats.result _ _ (λ n h. is_count look l n c.requires (h ∙ (zones look l c.requires (subst IsZoned c.in-LegacyStats.ensures tt)).count)) c.count_child-in-LegacyStats.ensures
