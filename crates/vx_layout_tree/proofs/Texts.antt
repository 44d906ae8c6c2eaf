-- Steps of the texts of layouts.
use Rattle.std.proofs.Common.{◌≡◌, ℕ, ◌+◌, ◌<◌, ◌==◌, Bool, false, List, ◌++◌, length, get_or, drop, map, refl, append_assoc, arith}
use Rattle.std.proofs.lemmas.List.{drop_more, append-nil}
use Rattle.std.proofs.lemmas.Bool.Decides.{nat_tests}
use Rattle.std.specs.Prelude.{decimal}
use Rattle.vx_model.specs.declared.segment.SegmentId.{SegmentId}
use Rattle.vx_model.specs.Shown.{comma}
use Rattle.vx_layout_tree.specs.LayoutView.{number}
use Rattle.vx_layout_tree.specs.Shown.{numbers_text}

pub drop_numbers : (first : Bool) (ss : List SegmentId) (i : ℕ) (d : SegmentId) → i < length ss
    → numbers_text first (map number (drop i ss)) ≡ comma first ++ (decimal (get_or ss i d).0 ++ numbers_text false (map number (drop (i + 1) ss)))
drop_numbers first ss i d lt = rw (drop_more ss i d lt) refl

pub next_not_first : (i : ℕ) → (i + 1 == 0) ≡ false
next_not_first i = grind (arith, nat_tests)

regroup : (done a b c : List ℕ) → (done ++ (a ++ b)) ++ c ≡ done ++ (a ++ (b ++ c))
regroup done a b c = simp append_assoc

-- one more number behind what was written
pub number_written : (first : Bool) (ss : List SegmentId) (i : ℕ) (d : SegmentId) (done all : List ℕ) → i < length ss
    → done ++ numbers_text first (map number (drop i ss)) ≡ all
    → (done ++ (comma first ++ decimal (get_or ss i d).0)) ++ numbers_text (i + 1 == 0) (map number (drop (i + 1) ss)) ≡ all
number_written first ss i d done all lt so_far =
    rw (next_not_first i, regroup done (comma first) (decimal (get_or ss i d).0) (numbers_text false (map number (drop (i + 1) ss))), ← drop_numbers first ss i d lt) so_far

pub ruleset number_rules = (append_assoc, append-nil, next_not_first)
