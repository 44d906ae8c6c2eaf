use Rattle.vx_layout_tree.specs.LayoutView.{layout_data}
use Rattle.vx_segment_map.specs.SegmentView.{segment_in}
use Rattle.vx_run.proofs.SummarySteps.{columns_there}
use Rattle.vx_run.proofs.summary.sum_up.Goals as goal

pub push_zones-requires : goal.push_zones-requires
push_zones-requires c = columns_there (segment_in c.args.segments.now) (layout_data c.args.layout.now) c.requires
