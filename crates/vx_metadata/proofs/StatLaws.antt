-- Statistics and their bits: lists in order are told by five flags.
use Rattle.std.proofs.Common.{◌≡◌, ℕ, zero, suc, ◌+◌, ◌-◌, ◌*◌, ◌/◌, ◌%◌, ◌^◌, ◌<◌, ◌≤◌, ◌==◌, ◌&&◌, Bool, true, false, cond, ltb, List, [], ◌∷◌, ◌++◌, length, get_or, drop, Some, refl, sym, ap, subst, ◌∙◌, IsTrue, append_assoc, arith}
use Rattle.std.specs.Prelude.{nat_lt}
use Rattle.std.specs.Int.{w32, to_le_bytes, from_le_bytes}
use Rattle.std.proofs.lemmas.Bool.{ltb-true}
use Rattle.std.proofs.lemmas.Grind.{common_steps}
use Rattle.std.proofs.lemmas.Bool.Decides.{nat_tests}
use Rattle.std.proofs.lemmas.List.{append-nil, drop_more, drop_all, length-drop}
use Rattle.std.proofs.lemmas.Nat.{le_bytes_4, from_le_bytes-to_le_bytes_4}
use Rattle.vx_model.specs.Words.{total_by}
use Rattle.vx_model.specs.CellData.{bit}
use Rattle.vx_aggregate.specs.declared.stat.Stat.{Stat}
use Rattle.vx_aggregate.specs.declared.stat.Stat.TheVariants.{Max, Min, Sum, NullCount, UncompressedSizeInBytes}
use Rattle.vx_aggregate.specs.Stats.{stat_number}
use Rattle.vx_byte_reader.proofs.FieldLaws.{IsBytes, guard_some, halves}
use Rattle.vx_metadata.specs.Values.{are_in_order}
use Rattle.vx_metadata.specs.Spelled.{stat_bit, legacy_bytes}
use Rattle.vx_metadata.specs.Reading.{stats_in, legacy_in}

-- ---- five flags

abbrev chosen : Bool → Stat → List Stat → List Stat
chosen b s ss = cond b (s ∷ ss) ss

abbrev listed : Bool → Bool → Bool → Bool → Bool → List Stat
listed a b c d e = chosen a Max (chosen b Min (chosen c Sum (chosen d NullCount (chosen e UncompressedSizeInBytes []))))

pub record Known (ss : List Stat) : Type 0 where
  pub ordered : IsTrue (are_in_order ss)
  pub few : IsTrue (nat_lt (total_by stat_bit ss) 32)
  pub again : stats_in (total_by stat_bit ss) ≡ ss

known : (a b c d e : Bool) → Known (listed a b c d e)
known true true true true true = record { ordered = refl; few = refl; again = refl }
known true true true true false = record { ordered = refl; few = refl; again = refl }
known true true true false true = record { ordered = refl; few = refl; again = refl }
known true true true false false = record { ordered = refl; few = refl; again = refl }
known true true false true true = record { ordered = refl; few = refl; again = refl }
known true true false true false = record { ordered = refl; few = refl; again = refl }
known true true false false true = record { ordered = refl; few = refl; again = refl }
known true true false false false = record { ordered = refl; few = refl; again = refl }
known true false true true true = record { ordered = refl; few = refl; again = refl }
known true false true true false = record { ordered = refl; few = refl; again = refl }
known true false true false true = record { ordered = refl; few = refl; again = refl }
known true false true false false = record { ordered = refl; few = refl; again = refl }
known true false false true true = record { ordered = refl; few = refl; again = refl }
known true false false true false = record { ordered = refl; few = refl; again = refl }
known true false false false true = record { ordered = refl; few = refl; again = refl }
known true false false false false = record { ordered = refl; few = refl; again = refl }
known false true true true true = record { ordered = refl; few = refl; again = refl }
known false true true true false = record { ordered = refl; few = refl; again = refl }
known false true true false true = record { ordered = refl; few = refl; again = refl }
known false true true false false = record { ordered = refl; few = refl; again = refl }
known false true false true true = record { ordered = refl; few = refl; again = refl }
known false true false true false = record { ordered = refl; few = refl; again = refl }
known false true false false true = record { ordered = refl; few = refl; again = refl }
known false true false false false = record { ordered = refl; few = refl; again = refl }
known false false true true true = record { ordered = refl; few = refl; again = refl }
known false false true true false = record { ordered = refl; few = refl; again = refl }
known false false true false true = record { ordered = refl; few = refl; again = refl }
known false false true false false = record { ordered = refl; few = refl; again = refl }
known false false false true true = record { ordered = refl; few = refl; again = refl }
known false false false true false = record { ordered = refl; few = refl; again = refl }
known false false false false true = record { ordered = refl; few = refl; again = refl }
known false false false false false = record { ordered = refl; few = refl; again = refl }

-- ---- a list in order is one of these

-- the first comes behind the statistic
abbrev follows : Stat → List Stat → Bool
follows s [] = true
follows s (t ∷ ss) = nat_lt (stat_number s) (stat_number t)

next : (s : Stat) (ss : List Stat) → IsTrue (are_in_order (s ∷ ss)) → IsTrue (are_in_order ss) × IsTrue (follows s ss)
next s [] h = (refl, refl)
next s (t ∷ ss) h = let p = halves (nat_lt (stat_number s) (stat_number t)) (are_in_order (t ∷ ss)) h in (p.1, p.0)

after_size : (ss : List Stat) → IsTrue (follows UncompressedSizeInBytes ss) → ss ≡ []
after_size [] h = refl
after_size (Max ∷ ss) h = absurd cc
after_size (Min ∷ ss) h = absurd cc
after_size (Sum ∷ ss) h = absurd cc
after_size (NullCount ∷ ss) h = absurd cc
after_size (UncompressedSizeInBytes ∷ ss) h = absurd cc

from_size : (ss : List Stat) → IsTrue (are_in_order ss) → IsTrue (follows NullCount ss) → (e : Bool) × (ss ≡ chosen e UncompressedSizeInBytes [])
from_size [] o h = (false, refl)
from_size (Max ∷ ss) o h = absurd cc
from_size (Min ∷ ss) o h = absurd cc
from_size (Sum ∷ ss) o h = absurd cc
from_size (NullCount ∷ ss) o h = absurd cc
from_size (UncompressedSizeInBytes ∷ ss) o h = let n = next UncompressedSizeInBytes ss o in (true, ap (λ r. UncompressedSizeInBytes ∷ r) (after_size ss n.1))

from_null_count : (ss : List Stat) → IsTrue (are_in_order ss) → IsTrue (follows Sum ss) → (d : Bool) × (e : Bool) × (ss ≡ chosen d NullCount (chosen e UncompressedSizeInBytes []))
from_null_count [] o h = (false, false, refl)
from_null_count (Max ∷ ss) o h = absurd cc
from_null_count (Min ∷ ss) o h = absurd cc
from_null_count (Sum ∷ ss) o h = absurd cc
from_null_count (NullCount ∷ ss) o h = let n = next NullCount ss o in let x = from_size ss n.0 n.1 in (true, x.0, ap (λ r. NullCount ∷ r) x.1)
from_null_count (UncompressedSizeInBytes ∷ ss) o h = let x = from_size (UncompressedSizeInBytes ∷ ss) o refl in (false, x.0, x.1)

from_sum : (ss : List Stat) → IsTrue (are_in_order ss) → IsTrue (follows Min ss) → (c : Bool) × (d : Bool) × (e : Bool) × (ss ≡ chosen c Sum (chosen d NullCount (chosen e UncompressedSizeInBytes [])))
from_sum [] o h = (false, false, false, refl)
from_sum (Max ∷ ss) o h = absurd cc
from_sum (Min ∷ ss) o h = absurd cc
from_sum (Sum ∷ ss) o h = let n = next Sum ss o in let x = from_null_count ss n.0 n.1 in (true, x.0, x.1, ap (λ r. Sum ∷ r) x.2)
from_sum (NullCount ∷ ss) o h = let x = from_null_count (NullCount ∷ ss) o refl in (false, x.0, x.1, x.2)
from_sum (UncompressedSizeInBytes ∷ ss) o h = let x = from_null_count (UncompressedSizeInBytes ∷ ss) o refl in (false, x.0, x.1, x.2)

from_min : (ss : List Stat) → IsTrue (are_in_order ss) → IsTrue (follows Max ss) → (b : Bool) × (c : Bool) × (d : Bool) × (e : Bool) × (ss ≡ chosen b Min (chosen c Sum (chosen d NullCount (chosen e UncompressedSizeInBytes []))))
from_min [] o h = (false, false, false, false, refl)
from_min (Max ∷ ss) o h = absurd cc
from_min (Min ∷ ss) o h = let n = next Min ss o in let x = from_sum ss n.0 n.1 in (true, x.0, x.1, x.2, ap (λ r. Min ∷ r) x.3)
from_min (Sum ∷ ss) o h = let x = from_sum (Sum ∷ ss) o refl in (false, x.0, x.1, x.2, x.3)
from_min (NullCount ∷ ss) o h = let x = from_sum (NullCount ∷ ss) o refl in (false, x.0, x.1, x.2, x.3)
from_min (UncompressedSizeInBytes ∷ ss) o h = let x = from_sum (UncompressedSizeInBytes ∷ ss) o refl in (false, x.0, x.1, x.2, x.3)

from_max : (ss : List Stat) → IsTrue (are_in_order ss) → (a : Bool) × (b : Bool) × (c : Bool) × (d : Bool) × (e : Bool) × (ss ≡ chosen a Max (chosen b Min (chosen c Sum (chosen d NullCount (chosen e UncompressedSizeInBytes [])))))
from_max [] o = (false, false, false, false, false, refl)
from_max (Max ∷ ss) o = let n = next Max ss o in let x = from_min ss n.0 n.1 in (true, x.0, x.1, x.2, x.3, ap (λ r. Max ∷ r) x.4)
from_max (Min ∷ ss) o = let x = from_min (Min ∷ ss) o refl in (false, x.0, x.1, x.2, x.3, x.4)
from_max (Sum ∷ ss) o = let x = from_min (Sum ∷ ss) o refl in (false, x.0, x.1, x.2, x.3, x.4)
from_max (NullCount ∷ ss) o = let x = from_min (NullCount ∷ ss) o refl in (false, x.0, x.1, x.2, x.3, x.4)
from_max (UncompressedSizeInBytes ∷ ss) o = let x = from_min (UncompressedSizeInBytes ∷ ss) o refl in (false, x.0, x.1, x.2, x.3, x.4)

pub known_of : (ss : List Stat) → IsTrue (are_in_order ss) → Known ss
known_of ss o = let x = from_max ss o in subst Known (sym x.5) (known x.0 x.1 x.2 x.3 x.4)

-- ---- the list of a byte

joined_is : (b : Bool) (s : Stat) (ss : List Stat) → cond b (s ∷ []) [] ++ ss ≡ chosen b s ss
joined_is true s ss = refl
joined_is false s ss = refl

chosen_bits : (b : Bool) (s : Stat) (ss : List Stat) → total_by stat_bit (cond b (s ∷ []) [] ++ ss) ≡ bit b * stat_bit s + total_by stat_bit ss
chosen_bits true s ss = omega arith
chosen_bits false s ss = omega arith

-- whether a bit is set
abbrev is_set : ℕ → ℕ → Bool
is_set bits n = bits / n % 2 == 1

one_bit : (n : ℕ) → bit (n % 2 == 1) ≡ n % 2
one_bit n = grind (common_steps, arith, nat_tests)

listed_of : (bits : ℕ) → stats_in bits ≡ listed (is_set bits 1) (is_set bits 2) (is_set bits 4) (is_set bits 8) (is_set bits 16)
listed_of bits =
    rw (joined_is (is_set bits 1) Max, joined_is (is_set bits 2) Min, joined_is (is_set bits 4) Sum, joined_is (is_set bits 8) NullCount, joined_is (is_set bits 16) UncompressedSizeInBytes) refl

pub in_order : (bits : ℕ) → IsTrue (are_in_order (stats_in bits))
in_order bits = rw (listed_of bits) ((known (is_set bits 1) (is_set bits 2) (is_set bits 4) (is_set bits 8) (is_set bits 16)).ordered)

pub bits_again : (bits : ℕ) → bits < 32 → total_by stat_bit (stats_in bits) ≡ bits
bits_again bits lt =
    rw (chosen_bits (is_set bits 1) Max, chosen_bits (is_set bits 2) Min, chosen_bits (is_set bits 4) Sum, chosen_bits (is_set bits 8) NullCount, chosen_bits (is_set bits 16) UncompressedSizeInBytes, one_bit (bits / 1), one_bit (bits / 2), one_bit (bits / 4), one_bit (bits / 8), one_bit (bits / 16)) (omega arith)

-- ---- all five bytes

four_bytes : (a b c d : ℕ) → a < 256 → b < 256 → c < 256 → d < 256 → (i : ℕ) → get_or (a ∷ b ∷ c ∷ d ∷ []) i 0 < 256
four_bytes a b c d la lb lc ld zero = la
four_bytes a b c d la lb lc ld (suc zero) = lb
four_bytes a b c d la lb lc ld (suc (suc zero)) = lc
four_bytes a b c d la lb lc ld (suc (suc (suc zero))) = ld
four_bytes a b c d la lb lc ld (suc (suc (suc (suc i)))) = omega arith

pub legacy_takes : (bytes : List ℕ) (m : ℕ × List Stat) → IsBytes bytes → legacy_in bytes ≡ Some m → legacy_bytes m ≡ bytes
legacy_takes [] m fits e = absurd cc
legacy_takes (a ∷ []) m fits e = absurd cc
legacy_takes (a ∷ b ∷ []) m fits e = absurd cc
legacy_takes (a ∷ b ∷ c ∷ []) m fits e = absurd cc
legacy_takes (a ∷ b ∷ c ∷ d ∷ []) m fits e = absurd cc
legacy_takes (a ∷ b ∷ c ∷ d ∷ bits ∷ []) m fits e =
    let four : List ℕ = a ∷ b ∷ c ∷ d ∷ [] in
    let g = guard_some (ltb bits 32) (from_le_bytes w32 four, stats_in bits) m e in
    let bytes_of_four : (i : ℕ) → get_or four i 0 < 256 = λ i. four_bytes a b c d (fits 0) (fits 1) (fits 2) (fits 3) i in
    let front : to_le_bytes w32 (from_le_bytes w32 four) ≡ four = le_bytes_4 four _ refl bytes_of_four refl in
    let last : total_by stat_bit (stats_in bits) ≡ bits = bits_again bits (ltb-true bits 32 g.0) in
    subst (λ (v : ℕ × List Stat). legacy_bytes v ≡ a ∷ b ∷ c ∷ d ∷ bits ∷ []) g.1 (ap (λ (f : List ℕ). f ++ (total_by stat_bit (stats_in bits) ∷ [])) front ∙ ap (λ (n : ℕ). four ++ (n ∷ [])) last)
legacy_takes (a ∷ b ∷ c ∷ d ∷ bits ∷ more ∷ bytes) m fits e = absurd cc

pub legacy_again : (zone_len : ℕ) (ss : List Stat) → zone_len < 2 ^ 32 → IsTrue (are_in_order ss) → legacy_in (legacy_bytes (zone_len, ss)) ≡ Some (zone_len, ss)
legacy_again zone_len ss small o =
    let k = known_of ss o in
    rw (k.few, k.again, from_le_bytes-to_le_bytes_4 zone_len small) refl

-- ---- loops

pub drop_order : (ss : List Stat) (i : ℕ) → i + 1 < length ss → are_in_order (drop i ss) ≡ (nat_lt (stat_number (get_or ss i Max)) (stat_number (get_or ss (i + 1) Max)) && are_in_order (drop (i + 1) ss))
drop_order ss i lt =
    let first : i < length ss = omega arith in
    rw (drop_more ss i Max first, drop_more ss (i + 1) Max lt) refl

short_order : (ss : List Stat) → length ss ≤ 1 → are_in_order ss ≡ true
short_order [] le = refl
short_order (s ∷ []) le = refl
short_order (s ∷ t ∷ ss) le = absurd (omega (arith, le))

pub last_order : (ss : List Stat) (i : ℕ) → length ss ≤ i + 1 → are_in_order (drop i ss) ≡ true
last_order ss i le = short_order (drop i ss) (omega (arith, length-drop i ss, le))

pub drop_bits : (ss : List Stat) (i : ℕ) (s : Stat) → i < length ss → s ≡ get_or ss i s → total_by stat_bit (drop i ss) ≡ stat_bit s + total_by stat_bit (drop (i + 1) ss)
drop_bits ss i s lt is = rw (drop_more ss i s lt, ← is) refl

pub few_bits : (ss : List Stat) → IsTrue (are_in_order ss) → total_by stat_bit ss < 32
few_bits ss o = ltb-true (total_by stat_bit ss) 32 ((known_of ss o).few)

pub ruleset order_rules = (drop_order, last_order)

pub ruleset bit_rules = (drop_bits, drop_all, few_bits)

pub ruleset held_rules = (append_assoc, append-nil)
