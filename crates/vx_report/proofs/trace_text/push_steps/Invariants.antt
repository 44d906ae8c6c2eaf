use Rattle.std.proofs.Common.{◌≡◌, ◌++◌, drop}
use Rattle.std.specs.Prelude.{string_bytes}
use Rattle.vx_report.specs.TraceText.{step_lines}
use Rattle.vx_report.proofs.trace_text.push_steps.Given as goal

abbrev pub invariant-loop-i : goal.invariant-loop-i
invariant-loop-i l = string_bytes l.out ++ step_lines (drop l.i l.steps) ≡ string_bytes l.fn.out ++ step_lines l.steps
