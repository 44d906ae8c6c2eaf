-- Where nothing failed, and nothing was wrong with the input, only memory was wanting.
use Rattle.std.proofs.Common.{◌≡◌, ◌∷◌, ℕ, zero, suc, true, List, Option, Some, None, slice_get, sym, ap, subst, inl, inr, arith, []}
use Rattle.vx_fault.specs.Counts.{Rose, Counts, IsCalm}
use Rattle.vx_write_answer.specs.declared.error.WriteError.{WriteError}
use Rattle.vx_write_answer.specs.declared.error.WriteError.TheVariants.{OutOfMemory}
use Rattle.vx_write_answer.specs.Causes.{is_source_fault}
use Rattle.vx_write.specs.Answered.{IsOutside}
use Rattle.vx_write_columns.specs.Stopped.{CompressorFailed, AllCalm, Failed}

rose_is_no_calm : (before now : ℕ) → Rose before now → IsCalm before now → ⊥
rose_is_no_calm before now r c = omega (arith, r.1, c.0, c.1)

no_more : {A : Type 0} (x : A) → None ≡ Some x → ⊥
no_more x e = cc

same_one : {A : Type 0} (x y : A) → Some x ≡ Some y → x ≡ y
same_one x y e = cc

module _ {C : Type 0} (faults : C → ℕ) where
  calm_at : (lent back : List C) (k : ℕ) (was is : C) → AllCalm faults lent back → slice_get lent k ≡ Some was → slice_get back k ≡ Some is → IsCalm (faults was) (faults is)
  calm_at [] back k was is h e f = absurd (no_more was e)
  calm_at (b ∷ bs) [] k was is h e f = absurd (no_more is f)
  calm_at (b ∷ bs) (n ∷ ns) zero was is h e f = subst (λ z. IsCalm (faults z) (faults is)) (same_one b was e) (subst (λ z. IsCalm (faults b) (faults z)) (same_one n is f) h.0)
  calm_at (b ∷ bs) (n ∷ ns) (suc k) was is h e f = calm_at bs ns k was is h.1 e f

  calm_fails : (may : C → ℕ → Type 0) (lent back : List C) → CompressorFailed faults may lent back → AllCalm faults lent back → ⊥
  calm_fails may lent back f h = rose_is_no_calm (faults f.was) (faults f.is) f.rose (calm_at lent back f.place f.was f.is h f.lent f.back)

  pub only_memory : (may : C → ℕ → Type 0) (lent back : List C) (e : WriteError) (source source_now sink sink_now : ℕ) (sink_may : ℕ → Type 0) → IsOutside e → Counts source source_now (is_source_fault e)
      → Failed sink sink_now sink_may faults may lent back e → IsCalm source source_now → IsCalm sink sink_now → AllCalm faults lent back → e ≡ OutOfMemory
  only_memory may lent back e source source_now sink sink_now sink_may (inl is) read failed calm still quiet = is
  only_memory may lent back e source source_now sink sink_now sink_may (inr (inl is)) read failed calm still quiet =
      absurd (rose_is_no_calm source source_now (subst (λ b. Counts source source_now b) (ap is_source_fault is) read) calm)
  only_memory may lent back e source source_now sink sink_now sink_may (inr (inr (inl is))) read failed calm still quiet = absurd (rose_is_no_calm sink sink_now (failed.sink is).0 still)
  only_memory may lent back e source source_now sink sink_now sink_may (inr (inr (inr is))) read failed calm still quiet = absurd (calm_fails may lent back (failed.compressor is) quiet)
