use Rattle.vx_plan.proofs.SourceLaws.{counts_rows}
use Rattle.vx_plan.proofs.layouts_count_rows.Goals as goal

pub returns : goal.returns
returns c = counts_rows
