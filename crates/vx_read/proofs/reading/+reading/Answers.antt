-- The children, one after the other.
use Rattle.std.proofs.Common.{◌<◌, arith, length, rules}
use Rattle.std.proofs.lemmas.Result.{err_from_is_err_and}
use Rattle.vx_layout_spec.specs.LayoutTree.{children_of}
use Rattle.vx_layout_spec.specs.Rows.{rows}
use Rattle.vx_layout_tree.specs.LayoutView.{layout_data}
use Rattle.vx_segment_reader.specs.Codec.{segment_codec}
use Rattle.vx_segment_map.specs.SegmentView.{segment_in}
use Rattle.vx_read.specs.Parts.{rows_in, first_parts, first_faults}
use Rattle.vx_read.specs.Reading.{first_fault}
use Rattle.vx_read.proofs.FaultSteps.{passed_on}
use Rattle.vx_read.proofs.ReadSteps.{child_reads, child_refused, part_more, fault_more, fault_stops}
use Rattle.vx_read.proofs.reading.+reading.Goals as goal

pub part_of-returns-in_err-child : goal.part_of-returns-in_err-child
part_of-returns-in_err-child t c x at =
    let look = segment_in c.args.segments.now in
    let l = layout_data c.args.layout.now in
    let e = c.in_err-child.field-0.0 in
    passed_on rows_in c.from_residual.result (rows segment_codec look x) (first_fault segment_codec look x) e c.from_residual.ensures
    (child_refused segment_codec look e (children_of l) c.args.i x c.requires at c.in_err-child.ensures)

pub part_of-returns : goal.part_of-returns
part_of-returns t c x at =
    let look = segment_in c.args.segments.now in
    let l = layout_data c.args.layout.now in
    child_reads segment_codec look (children_of l) c.args.i x _ c.rows_of-rows.result at c.in_ok-child.ensures (rw (← c.layout.ensures) c.rows_of-rows.ensures)

pub parts_of-returns-in_err-rows-clause-parts : goal.parts_of-returns-in_err-rows-clause-parts
parts_of-returns-in_err-rows-clause-parts t c =
    let l = layout_data c.args.layout.now in
    let there : c.loop-i.i < length (children_of l) = omega arith in
    let more : c.loop-i.i < c.args.count = omega arith in
    let p = err_from_is_err_and c.from_residual.result c.from_residual.ensures.1 in
    rw (p.1, p.2, ← c.loop-i.invariant.faults)
    (fault_stops segment_codec (segment_in c.args.segments.now) c.in_err-rows.field-0.0 (children_of l) c.loop-i.i c.args.count more there c.in_err-rows.ensures)

pub parts_of-loop-i-preserved : goal.parts_of-loop-i-preserved
parts_of-loop-i-preserved t c =
    let look = segment_in c.args.segments.now in
    let l = layout_data c.args.layout.now in
    let part = c.in_ok-rows.rows in
    let there : c.loop-i.i < length (children_of l) = omega arith in
    let more : c.loop-i.i < c.args.count = omega arith in
    record {
      count = search rules;
      parts = rw c.in_ok-push.ensures.items (part_more segment_codec look (children_of l) c.loop-i.i c.args.count c.loop-i.parts.items part (first_parts segment_codec look c.args.count l) more there c.in_ok-rows.ensures c.loop-i.invariant.parts);
      faults = fault_more segment_codec look (children_of l) c.loop-i.i c.args.count (rows_in part) (first_faults segment_codec look c.args.count l) more there c.in_ok-rows.ensures c.loop-i.invariant.faults;
    }
