use Rattle.std.proofs.Common.{sym}
use Rattle.vx_layout_tree.specs.LayoutView.{layout_data}
use Rattle.vx_segment_map.specs.SegmentView.{segment_in}
use Rattle.vx_run.specs.Tables.{own_tables}
use Rattle.vx_run.proofs.TableSteps.{one_read, none_read}
use Rattle.vx_run.proofs.tables.push_own.Goals as goal

pub returns-in_ok-push-in-Some : goal.returns-in_ok-push-in-Some
returns-in_ok-push-in-Some c = rw c.in_ok-push-in-Some.ensures.items (one_read (segment_in c.args.segments.now) c.args.tables.now.items c.in_ok-table-in-Some.table (own_tables (layout_data c.args.layout.now)) c.in_ok-table-in-Some.ensures)

pub returns-in-None : goal.returns-in-None
returns-in-None c = none_read (segment_in c.args.segments.now) (layout_data c.args.layout.now) c.args.tables.now.items (sym c.in-None.ensures)
