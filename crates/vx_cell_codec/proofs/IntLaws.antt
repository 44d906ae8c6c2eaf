-- Integers that are read are spelled so and fit, and what fits and is spelled so is read.
use Rattle.std.proofs.Common.{◌≡◌, ℕ, suc, ◌-◌, ◌^◌, ◌<◌, List, ◌++◌, length, Some, refl, sym, ap, subst, ◌∙◌, arith, IsTrue, inl, inr}
use Rattle.std.specs.Prelude.{ℤ, pos, negsuc}
use Rattle.std.specs.Int.{Width, w8, w16, w32, w64, byte_len, from_le_bytes, to_le_bytes, cast_signed, cast_unsigned}
use Rattle.std.proofs.lemmas.Bool.{cases_lt, le-ltb}
use Rattle.std.proofs.lemmas.Bool.Decides.{nat_tests}
use Rattle.std.proofs.lemmas.Int.{of_z-to_z, to_z-of_z, to_z_pos}
use mir.Val.{SFits}
use Rattle.vx_model.specs.declared.ptype.PType.{PType}
use Rattle.vx_model.specs.declared.ptype.PType.TheVariants.{U8, U16, U32, U64, I8, I16, I32, I64}
use Rattle.vx_model.specs.Numbers.{ptype_bytes, is_between, int_fits}
use Rattle.vx_model.specs.CellData.{int_bytes}
use Rattle.vx_byte_reader.specs.Fields.{front_at}
use Rattle.vx_byte_reader.proofs.FieldLaws.{IsBytes, bind_some, some_is, Takes, Reads, front_takes, front_again, IsWide, wide8, wide16, wide32, wide64}
use Rattle.vx_cell_codec.specs.Reading.{int_from, int_at}

-- ---- each integer type

abbrev Fits : PType → ℤ → Type 0
Fits p i = IsTrue (int_fits p i)

record IsSpelled (p : PType) : Type 0 where
  back : (s : List ℕ) → length s ≡ ptype_bytes p → IsBytes s → (int_bytes p (int_from p s) ≡ s) × Fits p (int_from p s)
  again : (i : ℤ) → Fits p i → int_from p (int_bytes p i) ≡ i
  long : (i : ℤ) → length (int_bytes p i) ≡ ptype_bytes p

unsigned_fits : (limit n : ℕ) → n < limit → IsTrue (is_between (pos 0) (pos limit) (pos n))
unsigned_fits limit n lt = grind (arith, nat_tests, lt)

unsigned_below : (limit n : ℕ) → IsTrue (is_between (pos 0) (pos limit) (pos n)) → n < limit
unsigned_below limit n h = grind (arith, nat_tests, h)

unsigned : (w : Width) (limit : ℕ) → IsWide w limit → (s : List ℕ) → length s ≡ byte_len w → IsBytes s → (to_le_bytes w (from_le_bytes w s) ≡ s) × IsTrue (is_between (pos 0) (pos limit) (pos (from_le_bytes w s)))
unsigned w limit wide s len fits = (wide.back s len fits, unsigned_fits limit (from_le_bytes w s) (wide.below s fits))

unsigned_again : (w : Width) (limit : ℕ) → IsWide w limit → (i : ℤ) → IsTrue (is_between (pos 0) (pos limit) i) → pos (from_le_bytes w (to_le_bytes w (cast_unsigned w i))) ≡ i
unsigned_again w limit wide (pos n) h = ap pos (wide.again n (unsigned_below limit n h))
unsigned_again w limit wide (negsuc n) h = absurd cc

-- what is known of a signed type: its half is as far as it goes on either side
record IsSigned (w : Width) (half limit : ℕ) : Type 0 where
  wide : IsWide w limit
  in_range : (n : ℕ) → n < limit → IsTrue (is_between (negsuc (half - 1)) (pos half) (cast_signed w n))
  fits : (i : ℤ) → IsTrue (is_between (negsuc (half - 1)) (pos half) i) → SFits w i
  below : (i : ℤ) → IsTrue (is_between (negsuc (half - 1)) (pos half) i) → cast_unsigned w i < limit
  bits : (n : ℕ) → n < limit → cast_unsigned w (cast_signed w n) ≡ n

signed : (w : Width) (half limit : ℕ) → IsSigned w half limit → (s : List ℕ) → length s ≡ byte_len w → IsBytes s
    → (to_le_bytes w (cast_unsigned w (cast_signed w (from_le_bytes w s))) ≡ s) × IsTrue (is_between (negsuc (half - 1)) (pos half) (cast_signed w (from_le_bytes w s)))
signed w half limit known s len fits =
    let lt = known.wide.below s fits in
    (ap (to_le_bytes w) (known.bits (from_le_bytes w s) lt) ∙ known.wide.back s len fits, known.in_range (from_le_bytes w s) lt)

signed_again : (w : Width) (half limit : ℕ) → IsSigned w half limit → (i : ℤ) → IsTrue (is_between (negsuc (half - 1)) (pos half) i) → cast_signed w (from_le_bytes w (to_le_bytes w (cast_unsigned w i))) ≡ i
signed_again w half limit known i h = ap (cast_signed w) (known.wide.again (cast_unsigned w i) (known.below i h)) ∙ to_z-of_z w i (known.fits i h)

low_fits : (half n : ℕ) → n < half → IsTrue (is_between (negsuc (half - 1)) (pos half) (pos n))
low_fits half n lt = grind (arith, nat_tests, lt)

high_fits : (half n : ℕ) → n < half → IsTrue (is_between (negsuc (half - 1)) (pos half) (negsuc n))
high_fits half n lt = grind (arith, nat_tests, lt)

low_below : (half n : ℕ) → IsTrue (is_between (negsuc (half - 1)) (pos half) (pos n)) → n < half
low_below half n h = grind (arith, nat_tests, h)

high_below : (half n : ℕ) → 0 < half → IsTrue (is_between (negsuc (half - 1)) (pos half) (negsuc n)) → n < half
high_below half n some h = grind (arith, nat_tests, h)

signed8 : IsSigned w8 (2 ^ 7) (2 ^ 8)
signed8 = record { wide = wide8; in_range = in_range; fits = fits; below = below; bits = λ n lt. of_z-to_z w8 n lt }
  where
    in_range : (n : ℕ) → n < 2 ^ 8 → IsTrue (is_between (negsuc 127) (pos 128) (cast_signed w8 n))
    in_range n lt =
        elim (cases_lt n (2 ^ 7)) [
          | inl low ↦ rw (to_z_pos w8 n low) (low_fits 128 n low)
          | inr high ↦ rw (le-ltb n (2 ^ 7) high) (high_fits 128 (256 - suc n) (omega (arith, high, lt)))
        ]

    fits : (i : ℤ) → IsTrue (is_between (negsuc 127) (pos 128) i) → SFits w8 i
    fits (pos n) h = record { sfits = low_below 128 n h }
    fits (negsuc n) h = record { sfits = high_below 128 n (omega arith) h }

    below : (i : ℤ) → IsTrue (is_between (negsuc 127) (pos 128) i) → cast_unsigned w8 i < 2 ^ 8
    below (pos n) h = omega (arith, low_below 128 n h)
    below (negsuc n) h = omega arith

signed16 : IsSigned w16 (2 ^ 15) (2 ^ 16)
signed16 = record { wide = wide16; in_range = in_range; fits = fits; below = below; bits = λ n lt. of_z-to_z w16 n lt }
  where
    in_range : (n : ℕ) → n < 2 ^ 16 → IsTrue (is_between (negsuc 32767) (pos 32768) (cast_signed w16 n))
    in_range n lt =
        elim (cases_lt n (2 ^ 15)) [
          | inl low ↦ rw (to_z_pos w16 n low) (low_fits 32768 n low)
          | inr high ↦ rw (le-ltb n (2 ^ 15) high) (high_fits 32768 (65536 - suc n) (omega (arith, high, lt)))
        ]

    fits : (i : ℤ) → IsTrue (is_between (negsuc 32767) (pos 32768) i) → SFits w16 i
    fits (pos n) h = record { sfits = low_below 32768 n h }
    fits (negsuc n) h = record { sfits = high_below 32768 n (omega arith) h }

    below : (i : ℤ) → IsTrue (is_between (negsuc 32767) (pos 32768) i) → cast_unsigned w16 i < 2 ^ 16
    below (pos n) h = omega (arith, low_below 32768 n h)
    below (negsuc n) h = omega arith

signed32 : IsSigned w32 (2 ^ 31) (2 ^ 32)
signed32 = record { wide = wide32; in_range = in_range; fits = fits; below = below; bits = λ n lt. of_z-to_z w32 n lt }
  where
    in_range : (n : ℕ) → n < 2 ^ 32 → IsTrue (is_between (negsuc (2 ^ 31 - 1)) (pos (2 ^ 31)) (cast_signed w32 n))
    in_range n lt =
        elim (cases_lt n (2 ^ 31)) [
          | inl low ↦ rw (to_z_pos w32 n low) (low_fits (2 ^ 31) n low)
          | inr high ↦ rw (le-ltb n (2 ^ 31) high) (high_fits (2 ^ 31) (2 ^ 32 - suc n) (omega (arith, high, lt)))
        ]

    fits : (i : ℤ) → IsTrue (is_between (negsuc (2 ^ 31 - 1)) (pos (2 ^ 31)) i) → SFits w32 i
    fits (pos n) h = record { sfits = low_below (2 ^ 31) n h }
    fits (negsuc n) h = record { sfits = high_below (2 ^ 31) n (omega arith) h }

    below : (i : ℤ) → IsTrue (is_between (negsuc (2 ^ 31 - 1)) (pos (2 ^ 31)) i) → cast_unsigned w32 i < 2 ^ 32
    below (pos n) h = omega (arith, low_below (2 ^ 31) n h)
    below (negsuc n) h = omega arith

signed64 : IsSigned w64 (2 ^ 63) (2 ^ 64)
signed64 = record { wide = wide64; in_range = in_range; fits = fits; below = below; bits = λ n lt. of_z-to_z w64 n lt }
  where
    in_range : (n : ℕ) → n < 2 ^ 64 → IsTrue (is_between (negsuc (2 ^ 63 - 1)) (pos (2 ^ 63)) (cast_signed w64 n))
    in_range n lt =
        elim (cases_lt n (2 ^ 63)) [
          | inl low ↦ rw (to_z_pos w64 n low) (low_fits (2 ^ 63) n low)
          | inr high ↦ rw (le-ltb n (2 ^ 63) high) (high_fits (2 ^ 63) (2 ^ 64 - suc n) (omega (arith, high, lt)))
        ]

    fits : (i : ℤ) → IsTrue (is_between (negsuc (2 ^ 63 - 1)) (pos (2 ^ 63)) i) → SFits w64 i
    fits (pos n) h = record { sfits = low_below (2 ^ 63) n h }
    fits (negsuc n) h = record { sfits = high_below (2 ^ 63) n (omega arith) h }

    below : (i : ℤ) → IsTrue (is_between (negsuc (2 ^ 63 - 1)) (pos (2 ^ 63)) i) → cast_unsigned w64 i < 2 ^ 64
    below (pos n) h = omega (arith, low_below (2 ^ 63) n h)
    below (negsuc n) h = omega arith

is_spelled : (p : PType) → IsSpelled p
is_spelled U8 = record { back = λ s len fits. unsigned w8 (2 ^ 8) wide8 s len fits; again = λ i h. unsigned_again w8 (2 ^ 8) wide8 i h; long = λ i. refl }
is_spelled U16 = record { back = λ s len fits. unsigned w16 (2 ^ 16) wide16 s len fits; again = λ i h. unsigned_again w16 (2 ^ 16) wide16 i h; long = λ i. refl }
is_spelled U32 = record { back = λ s len fits. unsigned w32 (2 ^ 32) wide32 s len fits; again = λ i h. unsigned_again w32 (2 ^ 32) wide32 i h; long = λ i. refl }
is_spelled U64 = record { back = λ s len fits. unsigned w64 (2 ^ 64) wide64 s len fits; again = λ i h. unsigned_again w64 (2 ^ 64) wide64 i h; long = λ i. refl }
is_spelled I8 = record { back = λ s len fits. signed w8 (2 ^ 7) (2 ^ 8) signed8 s len fits; again = λ i h. signed_again w8 (2 ^ 7) (2 ^ 8) signed8 i h; long = λ i. refl }
is_spelled I16 = record { back = λ s len fits. signed w16 (2 ^ 15) (2 ^ 16) signed16 s len fits; again = λ i h. signed_again w16 (2 ^ 15) (2 ^ 16) signed16 i h; long = λ i. refl }
is_spelled I32 = record { back = λ s len fits. signed w32 (2 ^ 31) (2 ^ 32) signed32 s len fits; again = λ i h. signed_again w32 (2 ^ 31) (2 ^ 32) signed32 i h; long = λ i. refl }
is_spelled I64 = record { back = λ s len fits. signed w64 (2 ^ 63) (2 ^ 64) signed64 s len fits; again = λ i h. signed_again w64 (2 ^ 63) (2 ^ 64) signed64 i h; long = λ i. refl }

pub reads_int : (p : PType) → Reads (int_at p) (int_bytes p) (Fits p)
unfolding int_at
reads_int p = record { takes = takes; again = again }
  where
    takes : (bytes : List ℕ) (i : ℤ) (rest : List ℕ) → IsBytes bytes → int_at p bytes ≡ Some (i, rest) → Takes bytes (int_bytes p i) rest × Fits p i
    takes bytes i rest fits e =
        let a = bind_some (front_at (ptype_bytes p) bytes) (λ front. Some (int_from p front.0, front.1)) (i, rest) e in
        let t = front_takes (ptype_bytes p) bytes a.0.0 a.0.1 fits a.1 in
        let known = (is_spelled p).back a.0.0 t.1 t.2 in
        subst (λ (x : ℤ × List ℕ). Takes bytes (int_bytes p x.0) x.1 × Fits p x.0) (some_is (int_from p a.0.0, a.0.1) (i, rest) a.2) (subst (λ (s : List ℕ). Takes bytes s a.0.1) (sym known.0) t.0, known.1)

    again : (i : ℤ) (rest : List ℕ) → Fits p i → int_at p (int_bytes p i ++ rest) ≡ Some (i, rest)
    again i rest fit = rw (front_again (ptype_bytes p) (int_bytes p i) rest ((is_spelled p).long i)) (ap (λ (k : ℤ). Some (k, rest)) ((is_spelled p).again i fit))
