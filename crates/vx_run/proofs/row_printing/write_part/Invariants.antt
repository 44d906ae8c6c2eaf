use Rattle.std.proofs.Common.{◌≡◌, ℕ, ◌-◌, ◌≤◌, length, take}
use Rattle.std.specs.Io.KnownBytes.{Appends}
use Rattle.vx_read_chunk.specs.Held.{part_rows}
use Rattle.vx_report.specs.RowText.{row_lines}
use Rattle.vx_run.specs.Running.{MayFail}
use Rattle.vx_run.proofs.row_printing.write_part.Given as goal

abbrev pub invariant-parts : goal.invariant-parts
invariant-parts g l = record {
  wrote : Appends (g.O.Output.written l.fn.output) (g.O.Output.written l.output) (row_lines (take l.at (part_rows l.part)));
  count : g.O.Fallible.faults l.output ≡ g.O.Fallible.faults l.fn.output;
  may : (k : ℕ) → g.O.Fallible.may_fail l.output k → MayFail (g.O.Fallible.may_fail l.fn.output);
  rows : l.rows ≡ length (part_rows l.part);
  within : l.at ≤ l.rows;
}

abbrev pub decreases-parts : goal.decreases-parts
decreases-parts g l = l.rows - l.at
