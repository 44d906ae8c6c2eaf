-- How many steps a search takes that halves what is left.
use Rattle.std.proofs.Common.{◌≡◌, ℕ, ◌+◌, ◌-◌, ◌*◌, ◌^◌, ◌<◌, ◌≤◌, suc, sym, ap, subst, ◌∙◌, arith}
use Rattle.std.proofs.Math.Nat.{pow-suc, add-mul, mul-add, mul-le-mul_left, le-mul_of_pos_right, le_trans}

-- so many steps from the step at which the search began, and as many elements left, among n at first
pub record Halved (first now left n : ℕ) : Type 0 where
  pub counted : first ≤ now
  pub halved : 2 ^ (now - first) * left ≤ n
  pub cost : 2 ^ (now - first) ≤ 2 * n + 1

twice : (k : ℕ) → k * 2 ≡ k + k
twice k = omega arith

twice_within : (k n : ℕ) → k ≤ n → k + k ≤ 2 * n + 1
twice_within k n h = omega (arith, h)

half_within : (k rest left n : ℕ) → rest + rest ≤ left → k * left ≤ n → (k + k) * rest ≤ n
half_within k rest left n half h =
    let both : k * (rest + rest) ≤ k * left = mul-le-mul_left k half in
    let same : k * (rest + rest) ≡ (k + k) * rest = mul-add k rest rest ∙ sym (add-mul k k rest) in
    le_trans (subst (λ x. x ≤ k * left) same both) h

module _ (first now left n : ℕ) (h : Halved first now left n) (later : ℕ) (step : later ≡ now + 1) where
  doubled : 2 ^ (later - first) ≡ 2 ^ (now - first) + 2 ^ (now - first)
  doubled =
      let more : later - first ≡ suc (now - first) = omega (arith, h.counted, step) in
      ap (λ k. 2 ^ k) more ∙ pow-suc 2 (now - first) ∙ twice (2 ^ (now - first))

  -- a step, where something is left, is within the bound
  pub one_step : 0 < left → 2 ^ (later - first) ≤ 2 * n + 1
  one_step some = subst (λ x. x ≤ 2 * n + 1) (sym doubled)
      (twice_within (2 ^ (now - first)) n (le_trans (le-mul_of_pos_right (2 ^ (now - first)) some) h.halved))

  pub half_left : (rest : ℕ) → 0 < left → rest + rest ≤ left → Halved first later rest n
  half_left rest some half = record {
    counted = omega (arith, h.counted, step);
    halved = subst (λ x. x * rest ≤ n) (sym doubled) (half_within (2 ^ (now - first)) rest left n half h.halved);
    cost = one_step some;
  }
