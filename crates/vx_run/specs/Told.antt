-- What is printed of an answer with rows.
use Rattle.std.specs.Prelude.{ℕ, List, ◌++◌, string_bytes}
use Rattle.vx_read_chunk.specs.Held.{held_rows}
use Rattle.vx_report.specs.RowText.{row_lines}
use Rattle.vx_run.specs.declared.answer.RowsAnswer.{RowsAnswer}

-- its text, and then a line a row
abbrev pub told_text : RowsAnswer → List ℕ
told_text a = string_bytes a.answer.text ++ row_lines (held_rows a.rows)
