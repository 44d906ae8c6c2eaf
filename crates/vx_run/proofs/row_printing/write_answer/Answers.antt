use Rattle.std.proofs.Common.{subst}
use Rattle.std.proofs.lemmas.Result.{on_err_weaker}
use Rattle.std.specs.Prelude.{string_bytes}
use Rattle.std.specs.Io.KnownBytes.{Appends}
use Rattle.vx_read_chunk.specs.Held.{held_rows}
use Rattle.vx_report.specs.RowText.{row_lines}
use Rattle.vx_run.specs.Running.{AppendsFront}
use Rattle.vx_run.proofs.RowSteps.{on_err, front_first, front_next}
use Rattle.vx_run.proofs.row_printing.write_answer.Goals as goal

pub returns-in_err-write_all-clause-front : goal.returns-in_err-write_all-clause-front
returns-in_err-write_all-clause-front g c =
    let now = g.O.Output.written c.write_all.new.output in
    let front = subst (AppendsFront (g.O.Output.written c.args.output.now) now) c.as_bytes.ensures.value c.in_err-write_all.ensures.front in
    on_err c.from_residual.result (front_first (g.O.Output.written c.args.output.now) now (string_bytes c.args.answer.now.answer.text) (row_lines (held_rows c.args.answer.now.rows)) front)

pub returns-clause-front : goal.returns-clause-front
returns-clause-front g c =
    let text = string_bytes c.args.answer.now.answer.text in
    let mid = g.O.Output.written c.write_all.new.output in
    let wrote = subst (Appends (g.O.Output.written c.args.output.now) mid) c.as_bytes.ensures.value c.in_ok-write_all.ensures.all in
    on_err_weaker c.write_rows.result (λ front. front_next (g.O.Output.written c.args.output.now) mid (g.O.Output.written c.write_rows.new.output) text (row_lines (held_rows c.args.answer.now.rows)) wrote front) c.write_rows.ensures.front
