use Rattle.std.proofs.Common.{◌≡◌, ℕ, take}
use Rattle.std.specs.Io.KnownBytes.{Appends}
use Rattle.vx_model.specs.Words.{joined_by}
use Rattle.vx_read_chunk.specs.Held.{part_rows}
use Rattle.vx_report.specs.RowText.{row_lines}
use Rattle.vx_run.specs.Running.{MayFail}
use Rattle.vx_run.proofs.row_printing.write_rows.Given as goal

abbrev pub invariant-loop-part : goal.invariant-loop-part
invariant-loop-part g l = record {
  wrote : Appends (g.O.Output.written l.fn.output) (g.O.Output.written l.output) (row_lines (joined_by part_rows (take l.part-index l.rows.parts.items)));
  count : g.O.Fallible.faults l.output ≡ g.O.Fallible.faults l.fn.output;
  may : (k : ℕ) → g.O.Fallible.may_fail l.output k → MayFail (g.O.Fallible.may_fail l.fn.output);
}
