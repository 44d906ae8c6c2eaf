use Rattle.std.proofs.Common.{refl}
use Rattle.vx_layout_tree.specs.LayoutView.{layout_data}
use Rattle.vx_plan.specs.Number.{segment_at}
use Rattle.vx_read_chunk.specs.Held.{held_rows}
use Rattle.vx_report.specs.Report.{report}
use Rattle.vx_run.proofs.TableSteps.{report_shown}
use Rattle.vx_run.proofs.answer.written.Goals as goal

pub read_tables-requires : goal.read_tables-requires
read_tables-requires c = rw c.numbered-segments.ensures.segments c.requires.tables

pub held_back-requires : goal.held_back-requires
held_back-requires c = rw c.numbered-segments.ensures.segments c.requires.readable

pub returns : goal.returns
returns c =
    let look = segment_at c.args.first c.args.list.items in
    let read = rw c.numbered-segments.ensures.segments at c.in_ok-tables.ensures in
    let back = rw c.numbered-segments.ensures.segments at c.in_ok-rows.ensures in
    let rows = held_rows c.in_ok-rows.rows in
    let shown = rw (c.deref.ensures.value, c.numbered-segments.ensures.list, c.deref-2.ensures.value) at c.in_ok-text.ensures rows in
    (refl, report_shown look (layout_data c.args.layout.now) c.in_ok-tables.tables.items rows _ (λ tables vs. report c.args.first (layout_data c.args.layout.now) c.args.list.items tables c.args.steps.now vs) read back shown)
