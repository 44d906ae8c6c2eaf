use Rattle.std.proofs.Common.{◌≡◌, ◌+◌, List, ℕ, take, drop, subst, ◌∙◌, arith}
use Rattle.std.specs.Io.KnownBytes.{Appends}
use Rattle.vx_chunk_cells.specs.Window.{window}
use Rattle.vx_read_chunk.specs.Held.{part_rows}
use Rattle.vx_report.specs.RowText.{row_lines}
use Rattle.vx_run.specs.Running.{AppendsFront}
use Rattle.vx_run.proofs.RunSteps.{appends_more}
use Rattle.vx_run.proofs.RowSteps.{on_err, front_so_far, front_then, lines_from, lines_at, lines_more}
use Rattle.vx_run.proofs.row_printing.write_part.Goals as goal

pub returns-in_default-clause-front : goal.returns-in_default-clause-front
returns-in_default-clause-front g c =
    let rows = part_rows c.args.part.now in
    front_so_far (g.O.Output.written c.args.output.now) (g.O.Output.written c.parts.output) (row_lines (take c.parts.at rows)) (row_lines (drop c.parts.at rows)) (row_lines rows)
    c.parts.invariant.wrote (lines_from rows c.parts.at)

pub returns-in_err-write_all-clause-front : goal.returns-in_err-write_all-clause-front
returns-in_err-write_all-clause-front g c =
    let rows = part_rows c.args.part.now in
    let at = c.parts.at in
    let n = c.min-count.result in
    let now = g.O.Output.written c.write_all.new.output in
    let front = subst (AppendsFront (g.O.Output.written c.parts.output) now) (c.as_bytes.ensures.value ∙ c.in-Ok.ensures) c.in_err-write_all.ensures.front in
    on_err c.from_residual.result (
    front_then (g.O.Output.written c.args.output.now) (g.O.Output.written c.parts.output) now
    (row_lines (take at rows)) (row_lines (window at (at + n) rows)) (row_lines (drop n (drop at rows))) (row_lines rows) c.parts.invariant.wrote front (lines_at rows at n)
    )

pub parts-preserved : goal.parts-preserved
parts-preserved g c =
    let rows = part_rows c.args.part.now in
    let at = c.parts.at in
    let n = c.min-count.result in
    let now = g.O.Output.written c.write_all.new.output in
    let more = subst (Appends (g.O.Output.written c.parts.output) now) (c.as_bytes.ensures.value ∙ c.in-Ok.ensures) c.in_ok-write_all.ensures.all in
    record {
      wrote = subst (Appends (g.O.Output.written c.args.output.now) now) (lines_more rows at n) (appends_more (g.O.Output.written c.args.output.now) (g.O.Output.written c.parts.output) now (row_lines (take at rows)) (row_lines (window at (at + n) rows)) c.parts.invariant.wrote more);
      count = c.in_ok-write_all.ensures.count ∙ c.parts.invariant.count;
      may = λ k h. (let m = c.in_ok-write_all.ensures.kept k h in c.parts.invariant.may m.0 m.1);
      rows = c.parts.invariant.rows;
      within = omega (arith, c.parts.invariant.within, c.min-count.ensures);
    }
