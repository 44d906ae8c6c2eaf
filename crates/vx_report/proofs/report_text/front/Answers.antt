use Rattle.std.proofs.Common.{rules}
use Rattle.vx_layout_tree.specs.LayoutView.{layout_data}
use Rattle.vx_report.specs.ZoneText.{zone_tables}
use Rattle.vx_report.proofs.Lines.{text_rules}
use Rattle.vx_report.proofs.ZoneSteps.{tables_told}
use Rattle.vx_report.proofs.report_text.front.Goals as goal

pub returns : goal.returns
returns c = rw (← tables_told 0 c.args.tables.now (zone_tables (layout_data c.args.layout.now)) c.requires.tables) (search (rules, text_rules))
