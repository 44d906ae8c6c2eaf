-- Children behind others.
use Rattle.std.proofs.Common.{◌≡◌, ℕ, zero, suc, ◌+◌, ◌-◌, ◌<◌, ◌≤◌, ◌++◌, List, [], ◌∷◌, length, refl, ap, ◌∙◌, arith, length-append}
use Rattle.std.proofs.lemmas.List.{length-map}
use Rattle.vx_layout_spec.specs.LayoutTree.{LayoutData}
use Rattle.vx_layout_spec.proofs.LayoutLaws.{lays_in-lays_of}
use Rattle.vx_layout_tree.specs.Children.{rows_at}
use Rattle.vx_layout_tree.proofs.KidSteps.{length-chunks, chunk_rows_at}

pub rows_in_front : (xs ys : List (LayoutData ℕ)) (i : ℕ) → i < length xs → rows_at (xs ++ ys) i ≡ rows_at xs i
rows_in_front [] ys i lt = absurd (omega (arith, lt))
rows_in_front (x ∷ xs) ys zero lt = refl
rows_in_front (x ∷ xs) ys (suc i) lt = rows_in_front xs ys i (omega (arith, lt))

pub rows_behind : (xs ys : List (LayoutData ℕ)) (i : ℕ) → length xs ≤ i → rows_at (xs ++ ys) i ≡ rows_at ys (i - length xs)
rows_behind [] ys i le = let e : i ≡ i - 0 = omega arith in ap (λ n. rows_at ys n) e
rows_behind (x ∷ xs) ys zero le = absurd (omega (arith, le))
rows_behind (x ∷ xs) ys (suc i) le = let e : i - length xs ≡ suc i - suc (length xs) = omega arith in rows_behind xs ys i (omega (arith, le)) ∙ ap (λ n. rows_at ys n) e

pub ruleset zoned_rules = (lays_in-lays_of, length-map, length-append, length-chunks, chunk_rows_at, rows_in_front, rows_behind)
