-- Children that are kept, and others behind them.
use Rattle.std.proofs.Common.{◌≡◌, ℕ, zero, suc, ◌+◌, ◌-◌, ◌<◌, ◌≤◌, ◌++◌, List, [], ◌∷◌, length, get_or, map, Ok, refl, ap, ◌∙◌, arith, length-append}
use Rattle.std.proofs.lemmas.List.{length-map}
use Rattle.vx_layout_spec.specs.LayoutTree.{LayoutData}
use Rattle.vx_layout_tree.specs.declared.layout.Layout.{Layout}
use Rattle.vx_layout_tree.specs.LayoutView.{layout_data}
use Rattle.vx_layout_tree.specs.Children.{answered, child_in}
use Rattle.vx_layout_tree.proofs.KidSteps.{length-chunks}

pub kept_child : (ls : List Layout) (i : ℕ) (l : Layout) → i < length ls → l ≡ get_or ls i l → answered (layout_data l) ≡ Ok (layout_data l) → child_in (map layout_data ls) i ≡ Ok (layout_data l)
kept_child [] i l lt is b = absurd (omega (arith, lt))
kept_child (x ∷ ls) zero l lt is b = rw (← is) b
kept_child (x ∷ ls) (suc i) l lt is b = kept_child ls i l (omega (arith, lt)) is b

pub ruleset child_rules = (kept_child, length-map)

pub child_in_front : (xs ys : List (LayoutData ℕ)) (i : ℕ) → i < length xs → child_in (xs ++ ys) i ≡ child_in xs i
child_in_front [] ys i lt = absurd (omega (arith, lt))
child_in_front (x ∷ xs) ys zero lt = refl
child_in_front (x ∷ xs) ys (suc i) lt = child_in_front xs ys i (omega (arith, lt))

pub child_behind : (xs ys : List (LayoutData ℕ)) (i : ℕ) → length xs ≤ i → child_in (xs ++ ys) i ≡ child_in ys (i - length xs)
child_behind [] ys i le = let e : i ≡ i - 0 = omega arith in ap (λ n. child_in ys n) e
child_behind (x ∷ xs) ys zero le = absurd (omega (arith, le))
child_behind (x ∷ xs) ys (suc i) le = let e : i - length xs ≡ suc i - suc (length xs) = omega arith in child_behind xs ys i (omega (arith, le)) ∙ ap (λ n. child_in ys n) e

pub ruleset zoned_rules = (length-map, length-append, length-chunks, child_in_front, child_behind)
