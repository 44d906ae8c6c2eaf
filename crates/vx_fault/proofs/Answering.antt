-- Calls one after the other, none of which failed but perhaps the last.
use Rattle.std.proofs.Common.{◌≡◌, ℕ, ◌+◌, ◌<◌, Bool, true, false, IsTrue, below_more, refl, sym, subst, ◌∙◌, arith}
use Rattle.std.proofs.lemmas.Bool.{true≢false}
use Rattle.vx_fault.specs.Counts.{Counts}
use Rattle.vx_fault.specs.Faults.{Called, FaultsTold}

-- what is told of so many calls, none of which failed
pub record Answered {S : Type 0} (faults : S → ℕ) (may must : S → ℕ → Type 0) (a b : S) (n : ℕ) : Type 0 where
  pub counted : faults b ≡ faults a
  pub fewer : (k : ℕ) → may b k → may a (n + k)
  pub more : (k : ℕ) → must a (n + k) → must b k
  pub passed : (k : ℕ) → k < n → ¬ must a k

not_yet : IsTrue false → ⊥
not_yet h = true≢false (sym h)

module _ {S : Type 0} (faults : S → ℕ) (may must : S → ℕ → Type 0) where
  pub none_called : (a : S) → Answered faults may must a a 0
  none_called a = record {
    counted = refl;
    fewer = λ k h. let e : k ≡ 0 + k = omega arith in subst (may a) e h;
    more = λ k h. let e : 0 + k ≡ k = omega arith in subst (must a) e h;
    passed = λ k l. absurd (omega (arith, l));
  }

  module _ (a b c : S) (n : ℕ) (t : Answered faults may must a b n) where
    -- the last call wasn't one that must fail
    pub unforced : Called (faults b) (faults c) (may b) (may c) (must b) (must c) false → ¬ must a n
    unforced x h = let e : n ≡ n + 0 = omega arith in not_yet (x.forced (t.more 0 (subst (must a) e h)))

    pub then_called : Called (faults b) (faults c) (may b) (may c) (must b) (must c) false → Answered faults may must a c (n + 1)
    then_called x = record {
      counted = x.counted ∙ t.counted;
      fewer = λ k h. let e : n + (k + 1) ≡ (n + 1) + k = omega arith in subst (may a) e (t.fewer (k + 1) (x.fewer k h));
      more = λ k h. let e : (n + 1) + k ≡ n + (k + 1) = omega arith in x.more k (t.more (k + 1) (subst (must a) e h));
      passed = below_more (λ (k : ℕ). ¬ must a k) n t.passed (unforced x);
    }

    -- the last one isn't counted
    pub then_left : Called (faults b) (faults c) (may b) (may c) (must b) (must c) false → FaultsTold (faults a) (faults c) (may a) (must a) n false
    then_left x = record {
      counted = x.counted ∙ t.counted;
      allowed = λ f. absurd (not_yet f);
      passed = t.passed;
    }

    pub then_failed : Called (faults b) (faults c) (may b) (may c) (must b) (must c) true → FaultsTold (faults a) (faults c) (may a) (must a) n true
    then_failed x = record {
      counted = subst (λ z. Counts z (faults c) true) t.counted x.counted;
      allowed = λ f. let e : n + 0 ≡ n = omega arith in subst (may a) e (t.fewer 0 (x.allowed refl));
      passed = t.passed;
    }

  -- where nothing is asked any more
  pub ended : (a b c : S) (n p : ℕ) → p ≡ n → c ≡ b → Answered faults may must a b n → FaultsTold (faults a) (faults c) (may a) (must a) p false
  ended a b c n p is same t =
      subst (λ z. FaultsTold (faults a) (faults c) (may a) (must a) z false) (sym is)
      (record { counted = subst (λ z. faults z ≡ faults a) (sym same) t.counted; allowed = λ f. absurd (not_yet f); passed = t.passed })

-- one answer more
pub answer_more : (b c : ℕ) (may must : ℕ → Type 0) (n : ℕ) → FaultsTold b c may must n false → ¬ must n → FaultsTold b c may must (n + 1) false
answer_more b c may must n t h = record { counted = t.counted; allowed = λ f. absurd (not_yet f); passed = below_more (λ (k : ℕ). ¬ must k) n t.passed h }
