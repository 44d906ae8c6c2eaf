use Rattle.std.proofs.Common.{◌≡◌, ◌+◌, ◌++◌, drop}
use Rattle.std.specs.Prelude.{string_bytes}
use Rattle.vx_report.specs.Report.{segment_lines}
use Rattle.vx_report.proofs.report_text.push_segments.Given as goal

abbrev pub invariant-loop-i : goal.invariant-loop-i
invariant-loop-i l = string_bytes l.out ++ segment_lines (l.first + l.i) (drop l.i l.segments) ≡ string_bytes l.fn.out ++ segment_lines l.first l.segments
