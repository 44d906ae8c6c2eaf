-- Steps of the lines of a tree.
use Rattle.std.proofs.Common.{◌≡◌, ℕ, zero, suc, ◌+◌, ◌<◌, ◌==◌, Bool, List, [], ◌∷◌, ◌++◌, length, drop, Option, Some, None, Result, Ok, Err, IsErr, refl, add-one, arith, append_assoc}
use Rattle.std.proofs.lemmas.List.{append-nil, length-drop}
use Rattle.std.proofs.lemmas.Bool.Decides.{nat_tests}
use Rattle.std.specs.Prelude.{codes}
use Rattle.vx_layout_spec.specs.Refusal.{Refusal}
use Rattle.vx_layout_spec.specs.LayoutTree.{LayoutData, layout, lays_of, children_of, layout_kind, segments_of}
use Rattle.vx_layout_tree.specs.Children.{child_in}
use Rattle.vx_display.specs.declared.style.Stop.{Stop}
use Rattle.vx_display.specs.declared.style.Stop.TheVariants as stops
use Rattle.vx_layout_codec_spec.specs.Permitted.{Checked, built, all_built}
use Rattle.vx_display.specs.Views.{StopsBy, GivesChild}
use Rattle.vx_segment_map.specs.FirstFault.{first_of}
use Rattle.vx_display.specs.Lengths.{Look, kind_fault, first_fault, first_below}
use Rattle.vx_display.specs.Text.{Style, tree_text, children_lines, node_text, branch_to, trunk_by, label, is_last}
use Rattle.vx_layout_codec_spec.proofs.ParsedBack.{lays_back}
use Rattle.vx_layout_walk_laws.proofs.Walks.{answered_same, drop_built, drop_refused}
use Rattle.vx_display.proofs.BuildSteps.{build_rules}

pub tree_is : (style : Style) (first rest : List ℕ) (l : LayoutData ℕ)
    → tree_text style first rest l ≡ first ++ (node_text style l ++ (codes "\n" ++ children_lines style rest l 0 (lays_of (children_of l))))
tree_is style first rest (layout k t n names ls) = rw (lays_back ls) refl

last_of : (rest : List (LayoutData ℕ)) (i n : ℕ) → length rest + (i + 1) ≡ n → is_last (lays_of rest) ≡ (i + 1 == n)
last_of [] i n e = grind (arith, nat_tests)
last_of (l ∷ ls) i n e = grind (arith, nat_tests)

last_is : (ls : List (LayoutData ℕ)) (i : ℕ) → i < length ls → is_last (lays_of (drop (i + 1) ls)) ≡ (i + 1 == length ls)
last_is ls i lt = last_of (drop (i + 1) ls) i (length ls) (omega (arith, length-drop (i + 1) ls))

drop_child : (ls : List (LayoutData ℕ)) (i : ℕ) (l : LayoutData ℕ) → i < length ls → child_in ls i ≡ Ok l → drop i ls ≡ l ∷ drop (i + 1) ls
drop_child [] i l lt is = absurd (omega (arith, lt))
drop_child (x ∷ ls) zero l lt is = rw (answered_same x l is) refl
drop_child (x ∷ ls) (suc i) l lt is = let e : suc i + 1 ≡ suc (i + 1) = omega arith in rw e (drop_child ls i l (omega (arith, lt)) is)

pub drop_lines : (style : Style) (rest : List ℕ) (parent : LayoutData ℕ) (ls : List (LayoutData ℕ)) (i : ℕ) (l : LayoutData ℕ) → i < length ls → child_in ls i ≡ Ok l
    → children_lines style rest parent i (lays_of (drop i ls))
    ≡ tree_text style (rest ++ (branch_to (i + 1 == length ls) ++ (label parent i ++ codes ": "))) (rest ++ trunk_by (i + 1 == length ls)) l ++ children_lines style rest parent (i + 1) (lays_of (drop (i + 1) ls))
drop_lines style rest parent ls i l lt is = rw (drop_child ls i l lt is, last_is ls i lt, add-one i) refl

-- ---- faults

pub fault_is : (map : Option Look) (l : LayoutData ℕ) → first_fault map l ≡ first_of (kind_fault map (layout_kind l) (segments_of l)) (first_below map (lays_of (children_of l)))
fault_is map (layout k t n names ls) = rw (lays_back ls) refl

pub drop_faults : (map : Option Look) (ls : List (LayoutData ℕ)) (i : ℕ) (l : LayoutData ℕ) → i < length ls → child_in ls i ≡ Ok l
    → first_below map (lays_of (drop i ls)) ≡ first_of (first_fault map l) (first_below map (lays_of (drop (i + 1) ls)))
drop_faults map ls i l lt is = rw (drop_child ls i l lt is) refl

-- ---- a step at child i

err_along : {A : Type 0} (x : Result A Refusal) (b : Checked) → ((r : Refusal) → x ≡ Err r → b ≡ Err r) → IsErr x → IsErr b
err_along (Ok l) b k h = cc
err_along (Err r) b k h = rw (k r refl) h

pub child_stops : (map : Option Look) (l : LayoutData ℕ) (i : ℕ) (e : Stop) → i < length (children_of l) → built l ≡ all_built (lays_of (drop i (children_of l)))
    → GivesChild (Err e) (child_in (children_of l) i) → StopsBy e (first_fault map l) (built l)
child_stops map l i (stops.NoSegment n) lt so h = absurd h
child_stops map l i (stops.BadSegment n) lt so h = absurd h
child_stops map l i stops.Refused lt so h = err_along (child_in (children_of l) i) (built l) (λ r is. rw so (drop_refused (children_of l) i r lt is)) h
child_stops map l i stops.OutOfMemory lt so h = tt

pub below_stops : (map : Option Look) (l : LayoutData ℕ) (i : ℕ) (e : Stop) (m : LayoutData ℕ) → i < length (children_of l)
    → first_fault map l ≡ first_below map (lays_of (drop i (children_of l))) → built l ≡ all_built (lays_of (drop i (children_of l)))
    → child_in (children_of l) i ≡ Ok m → StopsBy e (first_fault map m) (built m) → StopsBy e (first_fault map l) (built l)
below_stops map l i (stops.NoSegment n) m lt faults so at h = rw (faults, drop_faults map (children_of l) i m lt at, h) refl
below_stops map l i (stops.BadSegment n) m lt faults so at h = rw (faults, drop_faults map (children_of l) i m lt at, h) refl
below_stops map l i stops.Refused m lt faults so at h = err_along (built m) (built l) (λ r is. rw (so, drop_built (children_of l) i m lt at, is) refl) h
below_stops map l i stops.OutOfMemory m lt faults so at h = tt

pub next_faults : (map : Option Look) (l : LayoutData ℕ) (i : ℕ) (m : LayoutData ℕ) → i < length (children_of l)
    → first_fault map l ≡ first_below map (lays_of (drop i (children_of l))) → child_in (children_of l) i ≡ Ok m → first_fault map m ≡ None
    → first_fault map l ≡ first_below map (lays_of (drop (i + 1) (children_of l)))
next_faults map l i m lt faults at is = rw (faults, drop_faults map (children_of l) i m lt at, is) refl

pub next_lines : (style : Style) (rest first below out written all : List ℕ) (l : LayoutData ℕ) (i : ℕ) (m : LayoutData ℕ) (last : Bool) → i < length (children_of l)
    → child_in (children_of l) i ≡ Ok m → last ≡ (i + 1 == length (children_of l)) → first ≡ rest ++ (branch_to last ++ (label l i ++ codes ": ")) → below ≡ rest ++ trunk_by last
    → written ≡ out ++ tree_text style first below m → out ++ children_lines style rest l i (lays_of (drop i (children_of l))) ≡ all
    → written ++ children_lines style rest l (i + 1) (lays_of (drop (i + 1) (children_of l))) ≡ all
next_lines style rest first below out written all l i m last lt at is before trunk wrote so =
    rw (wrote, append_assoc, before, trunk, is, ← drop_lines style rest l (children_of l) i m lt at) so

pub ruleset tree_rules = (append_assoc, append-nil, tree_is, drop_lines, fault_is, drop_faults, build_rules)

pub ruleset child_rules = (append-nil)
