-- Sums that no integer type has.
use Rattle.std.proofs.Common.{◌≡◌, ℕ, ◌+◌, ◌<◌, ◌≤◌, ◌^◌, ◌&&◌, ◌||◌, Bool, true, false, refl, sym, ap, ◌∙◌, arith}
use Rattle.std.specs.Prelude.{ℤ, pos, negsuc, ◌-ℤ◌, if◌then◌else◌, nat_lt, not, Some}
use Rattle.std.proofs.lemmas.Int.{ints}
use Rattle.std.proofs.lemmas.Bool.Decides.{nat_tests}
use Rattle.vx_model.specs.declared.ptype.PType.{PType}
use Rattle.vx_model.specs.declared.ptype.PType.TheVariants.{U8, U16, U32, U64, I8, I16, I32, I64}
use Rattle.vx_model.specs.Numbers.{int_fits}
use Rattle.vx_model.specs.ValueData.{null_value, int_value}
use Rattle.vx_zone_spec.specs.Record.{sum_value}

over_of : (b : Bool) (k m : ℕ) → m ≤ k → (b && nat_lt k m) ≡ false
over_of b k m h = go b (nat_lt k m) (past k m h)
  where
    past : (k m : ℕ) → m ≤ k → nat_lt k m ≡ false
    past k m h = grind (arith, nat_tests)

    go : (b c : Bool) → c ≡ false → (b && c) ≡ false
    go true c e = e
    go false c e = refl

under_of : (k m : ℕ) → m < k → (not (nat_lt m k) && true) ≡ false
under_of k m h = ap (λ (b : Bool). not b && true) (past k m h)
  where
    past : (k m : ℕ) → m < k → nat_lt m k ≡ true
    past k m h = grind (arith, nat_tests)

over : (p : PType) (k : ℕ) → 2 ^ 64 ≤ k → int_fits p (pos k) ≡ false
over U8 k h = over_of (not (nat_lt k 0)) k (2 ^ 8) (omega arith)
over U16 k h = over_of (not (nat_lt k 0)) k (2 ^ 16) (omega arith)
over U32 k h = over_of (not (nat_lt k 0)) k (2 ^ 32) (omega arith)
over U64 k h = over_of (not (nat_lt k 0)) k (2 ^ 64) (omega arith)
over I8 k h = over_of true k 128 (omega arith)
over I16 k h = over_of true k 32768 (omega arith)
over I32 k h = over_of true k (2 ^ 31) (omega arith)
over I64 k h = over_of true k (2 ^ 63) (omega arith)

under : (p : PType) (k : ℕ) → 2 ^ 64 ≤ k + 1 → int_fits p (negsuc k) ≡ false
under U8 k h = refl
under U16 k h = refl
under U32 k h = refl
under U64 k h = refl
under I8 k h = under_of k 127 (omega arith)
under I16 k h = under_of k 32767 (omega arith)
under I32 k h = under_of k 2147483647 (omega arith)
under I64 k h = under_of k 9223372036854775807 (omega arith)

-- a difference of 2^64 and more in either direction
far : (p : PType) (n : ℤ) (a b : ℕ) → n ≡ pos a -ℤ pos b → (2 ^ 64 + b ≤ a) → int_fits p n ≡ false
far p (pos k) a b e h = over p k (omega (arith, ints))
far p (negsuc k) a b e h = absurd (omega (arith, ints))

near : (p : PType) (n : ℤ) (a b : ℕ) → n ≡ pos a -ℤ pos b → (2 ^ 64 + a ≤ b) → int_fits p n ≡ false
near p (pos k) a b e h = absurd (omega (arith, ints))
near p (negsuc k) a b e h = under p k (omega (arith, ints))

pub far_above : (a b : ℕ) → 2 ^ 64 + b ≤ a → (p : PType) → int_fits p (pos a -ℤ pos b) ≡ false
far_above a b h p = far p (pos a -ℤ pos b) a b refl h

pub far_below : (a b : ℕ) → 2 ^ 64 + a ≤ b → (p : PType) → int_fits p (pos a -ℤ pos b) ≡ false
far_below a b h p = near p (pos a -ℤ pos b) a b refl h

-- ---- the value

pub sum_fits : (p : PType) (n m : ℤ) → n ≡ m → (false || int_fits p n) ≡ true → sum_value (Some p) m ≡ int_value n
sum_fits p n m e h = ap (λ (z : ℤ). if int_fits p z then int_value z else null_value) (sym e) ∙ ap (λ (b : Bool). if b then int_value n else null_value) h

pub sum_too_large : (p : PType) (m : ℤ) → int_fits p m ≡ false → sum_value (Some p) m ≡ null_value
sum_too_large p m h = ap (λ (b : Bool). if b then int_value m else null_value) h

pub sum_unfit : (p : PType) (n m : ℤ) → n ≡ m → (false || int_fits p n) ≡ false → sum_value (Some p) m ≡ null_value
sum_unfit p n m e h = ap (λ (z : ℤ). if int_fits p z then int_value z else null_value) (sym e) ∙ ap (λ (b : Bool). if b then int_value n else null_value) h

pub ruleset sum_rules = (far_above, far_below, sum_fits, sum_too_large, sum_unfit)
