-- Steps of the loops over a trace and over a path.
use Rattle.std.proofs.Common.{◌≡◌, ℕ, ◌+◌, ◌<◌, Bool, true, List, ◌++◌, length, get_or, drop, refl, append_assoc}
use Rattle.std.proofs.lemmas.List.{drop_more, append-nil}
use Rattle.std.specs.Prelude.{decimal}
use Rattle.vx_write_answer.specs.declared.step.Step.{Step}
use Rattle.vx_report.specs.TraceText.{dot_if, path_from, step_line, step_lines}

pub drop_step : (ss : List Step) (i : ℕ) (s : Step) → i < length ss → s ≡ get_or ss i s
    → step_lines (drop i ss) ≡ step_line s ++ step_lines (drop (i + 1) ss)
drop_step ss i s lt is = rw (drop_more ss i s lt, ← is) refl

pub drop_number : (later : Bool) (ns : List ℕ) (i n : ℕ) → i < length ns → n ≡ get_or ns i n
    → path_from later (drop i ns) ≡ dot_if later ++ (decimal n ++ path_from true (drop (i + 1) ns))
drop_number later ns i n lt is = rw (drop_more ns i n lt, ← is) refl

pub ruleset trace_rules = (append_assoc, append-nil, drop_step, drop_number)
