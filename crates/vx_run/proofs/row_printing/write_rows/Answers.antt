use Rattle.std.proofs.Common.{◌≡◌, ◌+◌, ◌<◌, List, ℕ, length, get_or, take, drop, subst, ◌∙◌, arith}
use Rattle.std.specs.Io.KnownBytes.{Appends}
use Rattle.vx_model.specs.Words.{joined_by}
use Rattle.vx_read_chunk.specs.Held.{part_rows}
use Rattle.vx_report.specs.RowText.{row_lines}
use Rattle.vx_run.proofs.RunSteps.{appends_more}
use Rattle.vx_run.proofs.RowSteps.{on_err, front_then, parts_at, parts_more}
use Rattle.vx_run.proofs.row_printing.write_rows.Goals as goal

pub returns-in_err-write_part-clause-front : goal.returns-in_err-write_part-clause-front
returns-in_err-write_part-clause-front g c =
    let parts = c.args.rows.now.parts.items in
    let i = c.loop-part.part-index in
    let part = c.part-item.result in
    let there : i < length parts = rw (← c.deref-part-items.ensures.value) (omega arith) in
    let is : part ≡ get_or parts i part = rw (← c.deref-part-items.ensures.value) c.part-item.is in
    on_err c.from_residual.result (
    front_then (g.O.Output.written c.args.output.now) (g.O.Output.written c.loop-part.output) (g.O.Output.written c.write_part.new.output)
    (row_lines (joined_by part_rows (take i parts))) (row_lines (part_rows part)) (row_lines (joined_by part_rows (drop (i + 1) parts))) (row_lines (joined_by part_rows parts))
    c.loop-part.invariant.wrote c.in_err-write_part.ensures.front (parts_at parts i part there is)
    )

pub loop-part-preserved : goal.loop-part-preserved
loop-part-preserved g c =
    let parts = c.args.rows.now.parts.items in
    let i = c.loop-part.part-index in
    let part = c.part-item.result in
    let there : i < length parts = rw (← c.deref-part-items.ensures.value) (omega arith) in
    let is : part ≡ get_or parts i part = rw (← c.deref-part-items.ensures.value) c.part-item.is in
    let now = g.O.Output.written c.write_part.new.output in
    record {
      wrote = subst (Appends (g.O.Output.written c.args.output.now) now) (parts_more parts i part there is) (appends_more (g.O.Output.written c.args.output.now) (g.O.Output.written c.loop-part.output) now (row_lines (joined_by part_rows (take i parts))) (row_lines (part_rows part)) c.loop-part.invariant.wrote c.in_ok-write_part.ensures.all);
      count = c.in_ok-write_part.ensures.count ∙ c.loop-part.invariant.count;
      may = λ k h. (let m = c.in_ok-write_part.ensures.kept k h in c.loop-part.invariant.may m.0 m.1);
    }
