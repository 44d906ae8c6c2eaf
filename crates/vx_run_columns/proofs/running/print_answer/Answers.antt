use Rattle.std.proofs.Common.{List, ℕ, subst}
use Rattle.vx_job.specs.JobText.{job}
use Rattle.vx_run.specs.Told.{told_text}
use Rattle.vx_run_columns.specs.BesideAnswers.{IsAnswerBeside}
use Rattle.vx_run_columns.proofs.Printing.{ends_told, ends_known, no_output_fault}
use Rattle.vx_run_columns.proofs.running.print_answer.Goals as goal

pub finish_rows-requires : goal.finish_rows-requires
finish_rows-requires g c = no_output_fault _ c.in-Ok-columns_answer.answer.answer.status (told_text c.in-Ok-columns_answer.answer) c.in-Ok-columns_answer.ensures

pub returns-in-Ok-columns_answer-clause-ran : goal.returns-in-Ok-columns_answer-clause-ran
returns-in-Ok-columns_answer-clause-ran g c bytes told =
    let answer = c.in-Ok-columns_answer.answer in
    let read = subst (λ (b : List ℕ). IsAnswerBeside (job b) answer.answer.status (told_text answer)) c.deref.ensures.value c.in-Ok-columns_answer.ensures in
    ends_told (g.I.Input.to_come c.args.input.now) (g.I.Input.to_come c.read_all.new.input) bytes c.in-Ok.bytes.items answer.answer.status (told_text answer) _ _ c.finish_rows.result told c.in-Ok.ensures.read read
    c.finish_rows.ensures.wrote

pub returns-in-Ok-columns_answer-clause-judged : goal.returns-in-Ok-columns_answer-clause-judged
returns-in-Ok-columns_answer-clause-judged g c is = (c.in-Ok.bytes.items, c.in-Ok.ensures.read)

pub returns-in-Ok-columns_answer-clause-known : goal.returns-in-Ok-columns_answer-clause-known
returns-in-Ok-columns_answer-clause-known g c =
    ends_known _ c.in-Ok-columns_answer.answer.answer.status (told_text c.in-Ok-columns_answer.answer) _ _ c.finish_rows.result c.in-Ok-columns_answer.ensures c.finish_rows.ensures.wrote
