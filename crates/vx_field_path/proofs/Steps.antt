-- Two paths, name by name.
use Rattle.std.proofs.Common.{◌≡◌, ℕ, ◌+◌, ◌<◌, ◌≤◌, ◌&&◌, min, Bool, true, false, List, [], ◌∷◌, length, get_or, drop, take, refl, arith}
use Rattle.std.proofs.lemmas.List.{drop_more, drop_all}
use Rattle.std.specs.Prelude.{bytes_eq}
use Rattle.vx_field_path.specs.Paths.{Names, overlaps}

-- from name i on, at one more step
pub drop_overlaps : (p q : Names) (i : ℕ) (a b : List ℕ) → i < length p → i < length q → a ≡ get_or p i a → b ≡ get_or q i b
    → overlaps (drop i p) (drop i q) ≡ (bytes_eq a b && overlaps (drop (i + 1) p) (drop (i + 1) q))
drop_overlaps p q i a b lp lq ia ib = rw (drop_more p i a lp, ← ia, drop_more q i b lq, ← ib) refl

overlaps_nothing : (p : Names) → overlaps p [] ≡ true
overlaps_nothing [] = refl
overlaps_nothing (a ∷ p) = refl

-- where one ends, they agree
first_ends : (p q : Names) (i : ℕ) → length p ≤ i → overlaps (drop i p) (drop i q) ≡ true
first_ends p q i le = rw (drop_all i p le) refl

second_ends : (p q : Names) (i : ℕ) → length q ≤ i → overlaps (drop i p) (drop i q) ≡ true
second_ends p q i le = rw (drop_all i q le) (overlaps_nothing (drop i p))

pub overlaps_at_end : (p q : Names) (i : ℕ) → min (length p) (length q) ≤ i → overlaps (drop i p) (drop i q) ≡ true
overlaps_at_end p q i le = grind (arith, first_ends p q i, second_ends p q i)

pub ruleset overlap_rules = (drop_overlaps, overlaps_at_end)
