-- Children that are asked for by slot, and all of them.
use Rattle.std.proofs.Common.{◌≡◌, ℕ, zero, suc, ◌+◌, ◌<◌, ◌≤◌, ◌++◌, List, [], ◌∷◌, length, drop, Option, Some, None, Result, Ok, Err, refl, sym, ◌∙◌, ap, arith}
use Rattle.std.proofs.lemmas.List.{append-nil, append_assoc}
use Rattle.vx_layout_spec.specs.Refusal.{Refusal}
use Rattle.vx_layout_spec.specs.LayoutTree.{LayoutData, children_of}
use Rattle.vx_session.specs.Made.{◌>>=◌}
use Rattle.vx_layout_tree.specs.Children.{child_in}
use Rattle.vx_layout_slots.specs.Slots.{slot_place}
use Rattle.vx_layout_build.specs.Present.{child_at, child_in_slot, some_child, all_answered}
use Rattle.vx_layout_tree.specs.Views.{Fails}
use Rattle.vx_layout_tree.specs.declared.error.LayoutError.{LayoutError}
use Rattle.vx_layout_tree.proofs.KidSteps.{fails_by}

-- ---- a child in a slot

at_place : (ls : List (LayoutData ℕ)) (i : ℕ) → i < length ls → child_at ls i ≡ (child_in ls i >>= some_child)
at_place [] i lt = absurd (omega (arith, lt))
at_place (l ∷ ls) zero lt = refl
at_place (l ∷ ls) (suc i) lt = at_place ls i (omega (arith, lt))

past : (ls : List (LayoutData ℕ)) (i : ℕ) → length ls ≤ i → child_at ls i ≡ Ok None
past [] i le = refl
past (l ∷ ls) zero le = absurd (omega (arith, le))
past (l ∷ ls) (suc i) le = past ls i (omega (arith, le))

pub no_slot : (l : LayoutData ℕ) (slot : ℕ) (o : Option ℕ) → o ≡ slot_place l slot → o ≡ None → child_in_slot l slot ≡ Ok None
no_slot l slot o at is = rw (← at, is) refl

pub past_children : (l : LayoutData ℕ) (slot place : ℕ) (o : Option ℕ) → o ≡ slot_place l slot → o ≡ Some place → length (children_of l) ≤ place → child_in_slot l slot ≡ Ok None
past_children l slot place o at is le = rw (← at, is) (past (children_of l) place le)

pub slot_child : (l : LayoutData ℕ) (slot place : ℕ) (o : Option ℕ) (c : LayoutData ℕ) → o ≡ slot_place l slot → o ≡ Some place → place < length (children_of l) → child_in (children_of l) place ≡ Ok c
    → child_in_slot l slot ≡ Ok (Some c)
slot_child l slot place o c at is lt made = rw (← at, is, at_place (children_of l) place lt, made) refl

pub slot_fails : (l : LayoutData ℕ) (slot place : ℕ) (o : Option ℕ) (e : LayoutError) → o ≡ slot_place l slot → o ≡ Some place → place < length (children_of l) → Fails e (child_in (children_of l) place)
    → Fails e (child_in_slot l slot)
slot_fails l slot place o e at is lt h =
    fails_by e (child_in (children_of l) place) (child_in_slot l slot) (λ x made. rw (← at, is, at_place (children_of l) place lt, made) refl) h

pub ruleset slot_rules = (no_slot, past_children, slot_child, slot_fails)

-- ---- all of them

-- these in front of all others
abbrev pub onto : List (LayoutData ℕ) → Result (List (LayoutData ℕ)) Refusal → Result (List (LayoutData ℕ)) Refusal
onto cs others = others >>= λ ls. Ok (cs ++ ls)

pub onto_none : (r : Result (List (LayoutData ℕ)) Refusal) → onto [] r ≡ r
onto_none (Ok ls) = refl
onto_none (Err x) = refl

drop_answered : (ls : List (LayoutData ℕ)) (i : ℕ) → i < length ls → all_answered (drop i ls) ≡ (child_in ls i >>= λ c. all_answered (drop (i + 1) ls) >>= λ others. Ok (c ∷ others))
drop_answered [] i lt = absurd (omega (arith, lt))
drop_answered (l ∷ ls) zero lt = refl
drop_answered (l ∷ ls) (suc i) lt = let e : suc i + 1 ≡ suc (i + 1) = omega arith in rw e (drop_answered ls i (omega (arith, lt)))

drop_past : (ls : List (LayoutData ℕ)) (i : ℕ) → length ls ≤ i → all_answered (drop i ls) ≡ Ok []
drop_past [] zero le = refl
drop_past [] (suc i) le = refl
drop_past (l ∷ ls) zero le = absurd (omega (arith, le))
drop_past (l ∷ ls) (suc i) le = drop_past ls i (omega (arith, le))

one_more : (cs : List (LayoutData ℕ)) (c : LayoutData ℕ) (r : Result (List (LayoutData ℕ)) Refusal) → onto (cs ++ c ∷ []) r ≡ onto cs (r >>= λ others. Ok (c ∷ others))
one_more cs c (Ok ls) = ap Ok (append_assoc cs (c ∷ []) ls)
one_more cs c (Err x) = refl

pub next_child : (ls cs ds : List (LayoutData ℕ)) (i : ℕ) (c : LayoutData ℕ) (all : Result (List (LayoutData ℕ)) Refusal) → i < length ls → child_in ls i ≡ Ok c → ds ≡ cs ++ c ∷ [] → onto cs (all_answered (drop i ls)) ≡ all
    → onto ds (all_answered (drop (i + 1) ls)) ≡ all
next_child ls cs ds i c all lt at more so_far =
    let e : onto cs (all_answered (drop i ls)) ≡ onto cs (all_answered (drop (i + 1) ls) >>= λ others. Ok (c ∷ others)) = rw (drop_answered ls i lt, at) refl in
    rw more (one_more cs c (all_answered (drop (i + 1) ls)) ∙ sym e ∙ so_far)

pub child_refused : (ls cs : List (LayoutData ℕ)) (i : ℕ) (e : LayoutError) (all : Result (List (LayoutData ℕ)) Refusal) → i < length ls → onto cs (all_answered (drop i ls)) ≡ all → Fails e (child_in ls i)
    → Fails e all
child_refused ls cs i e all lt so_far h = fails_by e (child_in ls i) all (λ x at. sym so_far ∙ rw (drop_answered ls i lt, at) refl) h

pub whole : (ls cs : List (LayoutData ℕ)) (i : ℕ) (all : Result (List (LayoutData ℕ)) Refusal) → length ls ≤ i → onto cs (all_answered (drop i ls)) ≡ all → all ≡ Ok cs
whole ls cs i all le so_far = sym so_far ∙ ap (onto cs) (drop_past ls i le) ∙ ap Ok (append-nil cs)

pub ruleset children_rules = (onto_none, next_child, child_refused, whole)
