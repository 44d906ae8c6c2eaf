-- An aggregate is read from its spec.
use Rattle.std.proofs.Common.{◌≡◌, ℕ, ◌<◌, ◌^◌, ◌&&◌, Bool, true, false, List, [], ◌∷◌, ◌++◌, length, Some, None, refl, sym, ap, ◌∙◌, arith, bytes_eq}
use Rattle.std.specs.Prelude.{if◌then◌else◌, nat_lt, ◌==◌}
use Rattle.std.specs.Int.{w32, to_le_bytes, from_le_bytes}
use Rattle.std.specs.Cmp.Lexicographic.{bytes_decides}
use Rattle.std.proofs.lemmas.Nat.{from_le_bytes-to_le_bytes_4}
use Rattle.std.proofs.lemmas.Bool.Decides.{nat_tests}
use Rattle.std.proofs.lemmas.Bool.{and_parts}
use Rattle.vx_aggregate_spec.specs.Aggregate.{Aggregate, maximum, minimum, bounded_maximum, bounded_minimum, null_count, sum, bloom, with_number}
use Rattle.vx_aggregate_spec.specs.Statements.{SpecsAreRead}

below : (n : ℕ) → nat_lt n (2 ^ 32) ≡ true → n < 2 ^ 32
below n h = grind (arith, nat_tests)

-- a number behind which the given bytes stand
number_read : (f : ℕ → Aggregate) (rest : List ℕ) (n : ℕ) → nat_lt 0 n ≡ true → nat_lt n (2 ^ 32) ≡ true → with_number f rest (to_le_bytes w32 n ++ rest) ≡ Some (f n)
number_read f rest n some few =
    let read : from_le_bytes w32 (to_le_bytes w32 n) ≡ n = from_le_bytes-to_le_bytes_4 n (below n few) in
    let same : bytes_eq rest rest ≡ true = (bytes_decides rest rest).1 refl in
    let size : (length (to_le_bytes w32 n ++ rest) == length (0 ∷ 0 ∷ 0 ∷ 0 ∷ rest)) ≡ true = sized (length (0 ∷ 0 ∷ 0 ∷ 0 ∷ rest)) in
    go (length (to_le_bytes w32 n ++ rest) == length (0 ∷ 0 ∷ 0 ∷ 0 ∷ rest)) (bytes_eq rest rest) (from_le_bytes w32 (to_le_bytes w32 n)) size same read
  where
    sized : (k : ℕ) → (k == k) ≡ true
    sized k = grind (arith, nat_tests)

    go : (a b : Bool) (m : ℕ) → a ≡ true → b ≡ true → m ≡ n → (if a && (b && nat_lt 0 m) then Some (f m) else None) ≡ Some (f n)
    go a b m e g h = rw (e, g, h, some) refl

pub specs_are_read : SpecsAreRead
specs_are_read maximum h = refl
specs_are_read minimum h = refl
specs_are_read null_count h = refl
specs_are_read sum h = refl
specs_are_read (bounded_maximum n) h = ap (λ bytes. with_number bounded_maximum [] bytes) (sym (nothing_behind (to_le_bytes w32 n))) ∙ number_read bounded_maximum [] n (and_parts (nat_lt 0 n) (nat_lt n (2 ^ 32)) h).0 (and_parts (nat_lt 0 n) (nat_lt n (2 ^ 32)) h).1
  where
    nothing_behind : (xs : List ℕ) → xs ++ [] ≡ xs
    nothing_behind xs = Rattle.std.proofs.lemmas.List.append-nil xs
specs_are_read (bounded_minimum n) h = ap (λ bytes. with_number bounded_minimum [] bytes) (sym (nothing_behind (to_le_bytes w32 n))) ∙ number_read bounded_minimum [] n (and_parts (nat_lt 0 n) (nat_lt n (2 ^ 32)) h).0 (and_parts (nat_lt 0 n) (nat_lt n (2 ^ 32)) h).1
  where
    nothing_behind : (xs : List ℕ) → xs ++ [] ≡ xs
    nothing_behind xs = Rattle.std.proofs.lemmas.List.append-nil xs
specs_are_read (bloom n) h = number_read bloom (0 ∷ 0 ∷ 0 ∷ 0 ∷ []) n (and_parts (nat_lt 0 n) (nat_lt n (2 ^ 32)) h).0 (and_parts (nat_lt 0 n) (nat_lt n (2 ^ 32)) h).1
