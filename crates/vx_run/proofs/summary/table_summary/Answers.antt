use Rattle.std.proofs.Common.{◌≡◌}
use Rattle.std.proofs.lemmas.Result.{IfOk-weaker}
use Rattle.std.specs.Prelude.{string_bytes}
use Rattle.vx_layout_spec.specs.LayoutTree.{row_count}
use Rattle.vx_layout_tree.specs.LayoutView.{layout_data}
use Rattle.vx_run.specs.Summary.{summary_of, summary}
use Rattle.vx_run.proofs.SummarySteps.{summary_is}
use Rattle.vx_run.proofs.summary.table_summary.Goals as goal

pub returns : goal.returns
returns g c =
    IfOk-weaker c.sum_up-text.result
    (λ text. string_bytes text ≡ summary_of (row_count (layout_data c.in_ok-layout.layout)) (layout_data c.in_ok-layout.layout) c.in_ok-layout.list.items)
    (λ text. string_bytes text ≡ summary c.args.rows)
    (λ text h. summary_is c.args.rows (layout_data c.in_ok-layout.layout) c.in_ok-layout.list.items {text = string_bytes text} c.in_ok-layout.ensures.layout c.in_ok-layout.ensures.segments c.in_ok-layout.ensures.read h)
    c.sum_up-text.ensures
