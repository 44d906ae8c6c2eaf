use Rattle.std.proofs.Common.{vec_len, ap}
use Rattle.std.proofs.lemmas.Result.{IfOk-weaker}
use Rattle.std.specs.Prelude.{is_some}
use Rattle.vx_job.specs.JobView.{job_view}
use Rattle.vx_run_columns.proofs.JobsBeside.{written_tables, written_rows, report_answers, refusal_answers}
use Rattle.vx_run_columns.proofs.answer.write_by.Goals as goal

pub written-answer-requires-clause-readable : goal.written-answer-requires-clause-readable
written-answer-requires-clause-readable g c = ap is_some (written_rows (job_view c.args.job) c.in-Ok.ensures.ok)

pub written-answer-requires-clause-numbered : goal.written-answer-requires-clause-numbered
written-answer-requires-clause-numbered g c = c.in-Ok.ensures.numbered

pub written-answer-requires-clause-tables : goal.written-answer-requires-clause-tables
written-answer-requires-clause-tables g c = written_tables (job_view c.args.job) c.in-Ok.ensures.ok

pub returns-in-Ok : goal.returns-in-Ok
returns-in-Ok g c = IfOk-weaker c.written-answer.result _ _ (λ a h. report_answers (job_view c.args.job) (vec_len c.args.compressors, c.requires.some, c.requires.columns) c.in-Ok.ensures.ok h) c.written-answer.ensures

pub refusal-answer-requires : goal.refusal-answer-requires
refusal-answer-requires g c = c.in-Err.ensures.numbered

pub returns-in-Err : goal.returns-in-Err
returns-in-Err g c = IfOk-weaker c.refusal-answer.result _ _ (λ a h. refusal_answers (job_view c.args.job) _ (vec_len c.args.compressors, c.requires.some, c.requires.columns) c.in-Err.ensures.err h) c.refusal-answer.ensures
