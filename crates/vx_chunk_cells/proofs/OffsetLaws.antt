-- Offsets, one by one.
use Rattle.std.proofs.Common.{◌≡◌, ℕ, zero, suc, ◌+◌, ◌-◌, ◌<◌, ◌≤◌, ◌&&◌, true, List, [], ◌∷◌, length, get_or, take, drop, refl, arith}
use Rattle.std.specs.Prelude.{nat_le}
use Rattle.std.proofs.lemmas.List.{drop_more, drop_all}
use Rattle.std.proofs.lemmas.Bool.{and_from, and_parts}
use Rattle.vx_model.specs.Words.{head_or}
use Rattle.vx_model.specs.ChunkData.{are_offsets}
use Rattle.vx_chunk_cells.specs.Window.{window, last_of, Within}
use Rattle.vx_chunk_cells.proofs.ListSteps.{first_is, last_at}
use Rattle.vx_chunk_cells.proofs.Tests.{tests_le, le_test}

pub drop_offsets : (count : ℕ) (os : List ℕ) (i : ℕ) → i + 1 < length os → are_offsets count (drop i os) ≡ (nat_le (get_or os i 0) (get_or os (i + 1) 0) && are_offsets count (drop (i + 1) os))
drop_offsets count os i lt =
    let first : i < length os = omega arith in
    rw (drop_more os i 0 first, drop_more os (i + 1) 0 lt) refl

pub last_offset : (count : ℕ) (os : List ℕ) (i : ℕ) → i + 1 ≡ length os → are_offsets count (drop i os) ≡ nat_le (get_or os i 0) count
last_offset count os i e =
    let first : i < length os = omega arith in
    rw (drop_more os i 0 first, drop_all (i + 1) os (omega arith)) refl

pub some_offset : (count : ℕ) (os : List ℕ) → are_offsets count os ≡ true → 1 ≤ length os
some_offset count [] h = cc
some_offset count (a ∷ os) h = omega arith

pub lower : (low least high : ℕ) (os : List ℕ) → least ≤ low → Within low high os → Within least high os
lower low least high [] le h = tt
lower low least high (o ∷ os) le h = (omega (arith, h.0), h.1, h.2)

pub offsets_within : (count : ℕ) (os : List ℕ) → are_offsets count os ≡ true → Within (head_or 0 os) (last_of os) os × (last_of os ≤ count) × (head_or 0 os ≤ last_of os)
offsets_within count [] h = cc
offsets_within count (a ∷ []) h = let le : a ≤ count = tests_le a count h in ((omega arith, omega arith, tt), le, omega arith)
offsets_within count (a ∷ b ∷ os) h =
    let le : a ≤ b = tests_le a b (and_parts (nat_le a b) _ h).0 in
    let rest = offsets_within count (b ∷ os) (and_parts (nat_le a b) _ h).1 in
    ((omega arith, omega (arith, rest.2), lower b a (last_of (b ∷ os)) (b ∷ os) le rest.0), rest.1, omega (arith, rest.2))

pub offsets_from : (count k : ℕ) (os : List ℕ) → are_offsets count os ≡ true → k < length os → are_offsets count (drop k os) ≡ true
offsets_from count zero os h lt = h
offsets_from count (suc k) [] h lt = absurd (omega arith)
offsets_from count (suc k) (a ∷ []) h lt = absurd (omega arith)
offsets_from count (suc k) (a ∷ b ∷ os) h lt = offsets_from count k (b ∷ os) (and_parts (nat_le a b) _ h).1 (omega arith)

pub offsets_to : (count k : ℕ) (os : List ℕ) → are_offsets count os ≡ true → are_offsets count (take (suc k) os) ≡ true
offsets_to count k [] h = cc
offsets_to count zero (a ∷ []) h = h
offsets_to count (suc k) (a ∷ []) h = h
offsets_to count zero (a ∷ b ∷ os) h = below_count a (tests_le a b (and_parts (nat_le a b) _ h).0) (offsets_within count (b ∷ os) (and_parts (nat_le a b) _ h).1)
  where
    below_count : (a : ℕ) → a ≤ b → Within b (last_of (b ∷ os)) (b ∷ os) × (last_of (b ∷ os) ≤ count) × (b ≤ last_of (b ∷ os)) → nat_le a count ≡ true
    below_count a le r = le_test a count (omega (arith, r.1, r.2))
offsets_to count (suc k) (a ∷ b ∷ os) h = and_from (nat_le a b) _ (and_parts (nat_le a b) _ h).0 (offsets_to count k (b ∷ os) (and_parts (nat_le a b) _ h).1)

-- the offsets of some of the rows
pub offsets_window : (count from to : ℕ) (os : List ℕ) → are_offsets count os ≡ true → from ≤ to → to < length os → are_offsets count (window from (to + 1) os) ≡ true
offsets_window count from to os h le lt =
    let e : to + 1 - from ≡ suc (to - from) = omega arith in
    rw e (offsets_to count (to - from) (drop from os) (offsets_from count from os h (omega arith)))

pub ruleset offset_rules = (drop_offsets, last_offset)

pub ruleset cover_rules = (first_is, last_at)
