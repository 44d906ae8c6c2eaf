-- Paths that are not empty, in their two parts.
use Rattle.std.proofs.Common.{◌≡◌, ◌≢◌, ℕ, ◌<◌, ◌⊎◌, Bool, true, false, not, cond, nat_lt, List, [], ◌∷◌, ◌++◌, nat_eq, ◌&&◌, ◌||◌, refl, sym, ap, ap₂, ◌∙◌, inl, inr, ⊎_elim, arith}
use Rattle.std.proofs.lemmas.Bool.{true≢false}
use Rattle.std.proofs.lemmas.Bool.Decides.{nat_tests}
use Rattle.vx_path.specs.Path.{path_le, path_lt, begins, under, Eof, eof_path}
use Rattle.vx_sequence.specs.Universe.{stem_of, last_of, place_of}
use Rattle.vx_path.proofs.Path.{under_apart}

pub not_true : (b : Bool) → (b ≡ true → ⊥) → b ≡ false
not_true true f = absurd (f refl)
not_true false f = refl

-- a path goes by its two parts alone
pub same_parts : (s t : List ℕ) (i j : ℕ) → under s i ≡ under t j → (s ≡ t) × (i ≡ j)
same_parts [] [] i j e = (refl, cc)
same_parts [] (l ∷ []) i j e = cc
same_parts [] (l ∷ m ∷ t) i j e = cc
same_parts (k ∷ []) [] i j e = cc
same_parts (k ∷ l ∷ s) [] i j e = cc
same_parts (k ∷ s) (l ∷ t) i j e =
    let tails : under s i ≡ under t j = cc in
    let heads : k ≡ l = cc in
    let r : (s ≡ t) × (i ≡ j) = same_parts s t i j tails in
    (ap₂ (λ x y. x ∷ y) heads r.0, r.1)

pub same_place : (e f : Eof) → eof_path e ≡ eof_path f → e ≡ f
same_place e f h =
    let r : (e.stem ≡ f.stem) × (e.last ≡ f.last) = same_parts e.stem f.stem e.last f.last h in
    λ i. record { stem = r.0 i; last = r.1 i }

stem_of-under : (s : List ℕ) (k : ℕ) → stem_of (under s k) ≡ s
stem_of-under [] k = refl
stem_of-under (i ∷ []) k = refl
stem_of-under (i ∷ j ∷ s) k = ap (λ r. i ∷ r) (stem_of-under (j ∷ s) k)

last_of-under : (s : List ℕ) (k : ℕ) → last_of (under s k) ≡ k
last_of-under [] k = refl
last_of-under (i ∷ []) k = refl
last_of-under (i ∷ j ∷ s) k = last_of-under (j ∷ s) k

pub stem_is : (p s : List ℕ) (k : ℕ) → p ≡ s ++ (k ∷ []) → stem_of p ≡ s
stem_is p s k e = ap stem_of e ∙ stem_of-under s k

pub last_is : (p s : List ℕ) (k : ℕ) → p ≡ s ++ (k ∷ []) → last_of p ≡ k
last_is p s k e = ap last_of e ∙ last_of-under s k

pub ruleset place_rules = (stem_is, last_is)

pub place_of-under : (s : List ℕ) (k : ℕ) → place_of (under s k) ≡ record { stem = s; last = k }
place_of-under s k = λ i. record { stem = stem_of-under s k i; last = last_of-under s k i }

pub place_of-eof_path : (e : Eof) → place_of (eof_path e) ≡ e
place_of-eof_path e = place_of-under e.stem e.last

pub eof_path-place_of : (p : List ℕ) → p ≢ [] → eof_path (place_of p) ≡ p
eof_path-place_of [] n = absurd (n refl)
eof_path-place_of (i ∷ []) n = refl
eof_path-place_of (i ∷ j ∷ p) n = ap (λ r. i ∷ r) (eof_path-place_of (j ∷ p) (λ e. cc))

-- what a pointer's fields and its value tell of each other
pub place_is : (p : List ℕ) (e : Eof) → p ≡ eof_path e → place_of p ≡ e
place_is p e h = ap place_of h ∙ place_of-eof_path e

pub path_is : (p : List ℕ) (e : Eof) → place_of p ≡ e → p ≢ [] → p ≡ eof_path e
path_is p e h n = sym (eof_path-place_of p n) ∙ ap eof_path h

begins_head : (i j : ℕ) (b : Bool) → (nat_eq i j && b) ≡ true → (i ≡ j) × (b ≡ true)
begins_head i j b h = grind (arith, nat_tests)

begins_again : (i : ℕ) (b : Bool) → b ≡ true → (nat_eq i i && b) ≡ true
begins_again i b h = grind (arith, nat_tests)

-- a prefix of a path is the path, or one of what it stands under
pub begins_under : (x s : List ℕ) (i : ℕ) → begins x (under s i) ≡ true → (x ≡ under s i) ⊎ (begins x s ≡ true)
begins_under [] s i h = inr refl
begins_under (k ∷ []) [] i h =
    let r : (k ≡ i) × (true ≡ true) = begins_head k i true h in inl (ap (λ n. n ∷ []) r.0)
begins_under (k ∷ l ∷ x) [] i h =
    let r : (k ≡ i) × (false ≡ true) = begins_head k i false h in absurd (true≢false (sym r.1))
begins_under (k ∷ x) (l ∷ s) i h =
    let r : (k ≡ l) × (begins x (under s i) ≡ true) = begins_head k l (begins x (under s i)) h in
    ⊎_elim (λ e. inl (ap₂ (λ a b. a ∷ b) r.0 e)) (λ b. inr (rw r.0 (begins_again l (begins x s) b)))
    (begins_under x s i r.1)

neither : (a b : Bool) → (a || b) ≡ false → (a ≡ false) × (b ≡ false)
neither a b h = grind (arith, nat_tests)

-- no path goes on from an earlier or a later sibling
pub siblings_apart : (s : List ℕ) (i j : ℕ) → i < j
    → (begins (under s i) (under s j) ≡ false) × (begins (under s j) (under s i) ≡ false)
siblings_apart s i j h = neither (begins (under s i) (under s j)) (begins (under s j) (under s i)) (under_apart s i j h)

same_head : (i : ℕ) (b : Bool) → not b ≡ true → not (cond (nat_eq i i) b (nat_lt i i)) ≡ true
same_head i b h = grind (arith, nat_tests)

-- a path is below its children
pub child_above : (p : List ℕ) (j : ℕ) → path_lt p (under p j) ≡ true
child_above [] j = refl
child_above (i ∷ p) j = same_head i (path_le (under p j) p) (child_above p j)
