use Rattle.std.proofs.Common.{List, ℕ, sym, subst}
use Rattle.std.specs.Prelude.{string_bytes}
use Rattle.vx_job.specs.TreeText.{tree_job}
use Rattle.vx_run.specs.declared.status.Status.{Status}
use Rattle.vx_run.specs.TreeAnswers.{IsTreeAnswer}
use Rattle.vx_run.specs.Told.{told_text}
use Rattle.vx_run.proofs.command.tree_alone.Goals as goal

pub returns : goal.returns
returns c =
    let made = tree_job c.args.bytes.now in
    let status = subst (λ (s : Status). IsTreeAnswer made s (string_bytes c.in_ok-answer.answer.text)) (sym c.without_rows.ensures.status) c.in_ok-answer.ensures in
    subst (λ (text : List ℕ). IsTreeAnswer made c.without_rows.result.answer.status text) (sym c.without_rows.ensures.text) status
