-- The children, one after the other.
use Rattle.std.proofs.Common.{◌≡◌, ◌++◌, ◌<◌, ◌≤◌, length, map, Some, false, sym, ap, ◌∙◌, arith}
use Rattle.std.proofs.lemmas.List.{append-nil, take_all, map-append, length-append}
use Rattle.vx_model.specs.Words.{joined_by}
use Rattle.vx_model.specs.Ty.{nullable}
use Rattle.vx_model.specs.ChunkData.{row_values}
use Rattle.vx_layout_spec.specs.LayoutTree.{children_of, layout_type, row_count}
use Rattle.vx_layout_tree.specs.Children.{rows_at}
use Rattle.vx_layout_tree.specs.LayoutView.{layout_data}
use Rattle.vx_layout_tree.specs.LayDepth.{depth}
use Rattle.vx_segment_map.specs.SegmentView.{segment_in}
use Rattle.vx_read.proofs.ReadSteps.{child_falls}
use Rattle.vx_row_count.specs.Counting.{rows_of_child}
use Rattle.vx_read_chunk.specs.Held.{part_rows, parts_rows}
use Rattle.vx_read_chunk.proofs.ColumnSteps.{all_behind}
use Rattle.vx_read_chunk.proofs.HoldingSteps.{told_weaker, rows_of_built, child_counts, behind_more, chunked_whole, beside_more, struct_whole, data_whole}
use Rattle.vx_read_chunk.proofs.holding.+holding.Goals as goal

pub child_parts-held_parts-parts-requires : goal.child_parts-held_parts-parts-requires
child_parts-held_parts-parts-requires t c =
    let l = layout_data c.args.layout.now in
    let deep : depth (layout_data c.layout.result.now) < depth l = rw c.layout.ensures (child_falls l _ c.args.i c.in-Ok.ensures) in
    (omega (arith, deep), tt)

pub child_parts-returns-in-Ok : goal.child_parts-returns-in-Ok
child_parts-returns-in-Ok t c =
    let look = segment_in c.args.segments.now in
    let l = layout_data c.args.layout.now in
    told_weaker _ _ c.held_parts-parts.result (λ v e. rows_of_built look (children_of l) c.args.i _ (parts_rows v) c.in-Ok.ensures (rw (← c.layout.ensures) e)) c.held_parts-parts.ensures

pub chunked_parts-loop-i-preserved : goal.chunked_parts-loop-i-preserved
chunked_parts-loop-i-preserved t c =
    let look = segment_in c.args.segments.now in
    let l = layout_data c.args.layout.now in
    let i = c.loop-i.i in
    let so_far = parts_rows c.loop-i.parts in
    let more = parts_rows c.in-Some.more in
    let there : rows_of_child look (children_of l) i ≡ Some more = rw c.in-Some.is at c.in_ok-more.ensures in
    let both : parts_rows c.append.new.self ≡ so_far ++ more = ap (joined_by part_rows) c.in_ok-append-in-Some.ensures.items ∙ all_behind part_rows c.loop-i.parts.items c.in-Some.more.items in
    record {
      rows = behind_more look (children_of l) i so_far more there c.loop-i.invariant.rows ∙ ap Some (sym both);
      count = rw both (omega (arith, length-append so_far more, child_counts look (children_of l) i more there, c.child_row_count-count.ensures, c.loop-i.invariant.count));
    }

pub chunked_parts-returns : goal.chunked_parts-returns
chunked_parts-returns t c =
    let look = segment_in c.args.segments.now in
    let l = layout_data c.args.layout.now in
    let all : length (children_of l) ≤ c.loop-i.i = omega arith in
    chunked_whole look l (parts_rows c.loop-i.parts) c.requires (rw (take_all c.loop-i.i (children_of l) all) at c.loop-i.invariant.rows) (omega (arith, c.loop-i.invariant.count))

pub columns_of-loop-i-preserved : goal.columns_of-loop-i-preserved
columns_of-loop-i-preserved t c =
    let look = segment_in c.args.segments.now in
    let l = layout_data c.args.layout.now in
    let i = c.loop-i.i in
    let there : rows_of_child look (children_of l) i ≡ Some (row_values c.in-Some.column) = rw c.in-Some.is at c.in_ok-column.ensures in
    beside_more look (children_of l) i (map row_values c.loop-i.columns.items) (row_values c.in-Some.column) there c.loop-i.invariant
    ∙ ap Some (sym (ap (map row_values) c.in_ok-push-in-Some.ensures.items ∙ map-append row_values c.loop-i.columns.items _))

pub data_parts-returns : goal.data_parts-returns
data_parts-returns t c =
    let look = segment_in c.args.segments.now in
    let l = layout_data c.args.layout.now in
    let two : length (children_of l) ≡ 2 = omega (arith, c.nchildren.ensures) in
    let count : rows_at (children_of l) 0 ≡ row_count l = omega (arith, c.child_row_count.ensures, c.row_count.ensures) in
    told_weaker _ _ c.child_parts.result (λ v e. data_whole look l (parts_rows v) c.requires two count e) c.child_parts.ensures

pub struct_parts-returns-in_ok-vec-in-Some-2 : goal.struct_parts-returns-in_ok-vec-in-Some-2
struct_parts-returns-in_ok-vec-in-Some-2 t c =
    let look = segment_in c.args.segments.now in
    let l = layout_data c.args.layout.now in
    let plain : nullable (layout_type l) ≡ false = ap nullable (sym c.dtype-dtype.ensures) ∙ (sym c.is_nullable.ensures ∙ c.if-is_nullable.false) in
    let columns = rw c.in-Some.is at c.in_ok-columns.ensures in
    let fields = rw (c.in-Some-2.is, c.row_count.ensures) at c.in_ok-chunk.ensures in
    struct_whole look l (map row_values c.in-Some.columns.items) (row_values c.in-Some-2.chunk) c.requires plain columns fields
    ∙ ap Some (sym (ap (joined_by part_rows) c.in_ok-vec-in-Some-2.ensures.items ∙ append-nil (row_values c.in-Some-2.chunk)))
