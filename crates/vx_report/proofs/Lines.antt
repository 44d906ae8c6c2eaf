-- Steps of the loop over segments.
use Rattle.std.proofs.Common.{◌≡◌, ℕ, ◌+◌, ◌<◌, List, ◌++◌, length, get_or, drop, refl, append_assoc, suc, arith}
use Rattle.std.proofs.lemmas.List.{drop_more, append-nil}
use Rattle.vx_report.specs.Report.{segment_line, segment_lines}

pub drop_lines : (first : ℕ) (bs : List (List ℕ)) (i : ℕ) (b : List ℕ) → i < length bs → b ≡ get_or bs i b
    → segment_lines (first + i) (drop i bs) ≡ segment_line (first + i) b ++ segment_lines (first + (i + 1)) (drop (i + 1) bs)
drop_lines first bs i b lt is =
    let n : suc (first + i) ≡ first + (i + 1) = omega arith in
    rw (drop_more bs i b lt, ← is, n) refl

pub ruleset text_rules = (append_assoc, append-nil)

pub ruleset line_rules = (append_assoc, append-nil, drop_lines)
