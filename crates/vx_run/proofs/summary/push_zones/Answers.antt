use Rattle.std.proofs.Common.{ℕ, ◌<◌, List, length, subst, arith}
use Rattle.std.specs.Prelude.{string_bytes}
use Rattle.vx_layout_spec.specs.LayoutTree.{LayoutData}
use Rattle.vx_layout_tree.specs.LayoutView.{layout_data}
use Rattle.vx_row_count.specs.Counting.{HasChild}
use Rattle.vx_run.specs.Summary.{columns_of}
use Rattle.vx_run.proofs.SummarySteps.{columns_are, next_zones}
use Rattle.vx_run.proofs.summary.push_zones.Goals as goal

pub zones_at-requires : goal.zones_at-requires
zones_at-requires c =
    let l = layout_data c.args.layout.now in
    let less : c.loop-i.i < length (columns_of l) = omega arith in
    subst (λ (ls : List (LayoutData ℕ)). HasChild ls c.loop-i.i) (columns_are l c.loop-i.i less) (c.requires c.loop-i.i less)

pub loop-i-preserved : goal.loop-i-preserved
loop-i-preserved c =
    let l = layout_data c.args.layout.now in
    let less : c.loop-i.i < length (columns_of l) = omega arith in
    next_zones (string_bytes c.loop-i.out) (string_bytes c.push_count.new.out) _ (columns_of l) c.loop-i.i c.in_ok-zones.zones
    (rw (columns_are l c.loop-i.i less) c.in_ok-zones.ensures) c.in_ok-push_count.ensures c.loop-i.invariant
