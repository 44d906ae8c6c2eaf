use Rattle.std.proofs.Common.{List, ℕ, subst}
use Rattle.vx_run.specs.Commands.{Answers}
use Rattle.vx_run.specs.Told.{told_text}
use Rattle.vx_run.proofs.RunSteps.{answers_told, ends_so, ends_known, answers_fit}
use Rattle.vx_run.proofs.running.run_command.Goals as goal

pub finish_rows-requires : goal.finish_rows-requires
finish_rows-requires g c = answers_fit c.args.command _ c.in-Ok-answer_by.answer.answer.status (told_text c.in-Ok-answer_by.answer) c.in-Ok-answer_by.ensures

pub returns-in-Ok-answer_by-clause-ran : goal.returns-in-Ok-answer_by-clause-ran
returns-in-Ok-answer_by-clause-ran g c bytes told =
    let answer = c.in-Ok-answer_by.answer in
    let read = subst (λ (b : List ℕ). Answers c.args.command b answer.answer.status (told_text answer)) c.deref.ensures.value c.in-Ok-answer_by.ensures in
    let answers = answers_told c.args.command (g.I.Input.to_come c.args.input.now) (g.I.Input.to_come c.read_all.new.input) bytes c.in-Ok.bytes.items _ _ told c.in-Ok.ensures.read read in
    ends_so c.args.command bytes answer.answer.status (told_text answer) _ _ c.finish_rows.result answers c.finish_rows.ensures.wrote

pub returns-in-Ok-answer_by-clause-judged : goal.returns-in-Ok-answer_by-clause-judged
returns-in-Ok-answer_by-clause-judged g c is = (c.in-Ok.bytes.items, c.in-Ok.ensures.read)

pub returns-in-Ok-answer_by-clause-known : goal.returns-in-Ok-answer_by-clause-known
returns-in-Ok-answer_by-clause-known g c =
    ends_known c.args.command _ c.in-Ok-answer_by.answer.answer.status (told_text c.in-Ok-answer_by.answer) _ _ c.finish_rows.result c.in-Ok-answer_by.ensures c.finish_rows.ensures.wrote
