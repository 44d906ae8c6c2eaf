use Rattle.std.proofs.Common.{◌≡◌, ◌++◌, drop}
use Rattle.std.specs.Prelude.{string_bytes, nat_lt}
use Rattle.vx_report.specs.TraceText.{path_from, path_text}
use Rattle.vx_report.proofs.trace_text.push_path.Given as goal

abbrev pub invariant-loop-i : goal.invariant-loop-i
invariant-loop-i l = string_bytes l.out ++ path_from (nat_lt 0 l.i) (drop l.i l.path) ≡ string_bytes l.fn.out ++ path_text l.path
