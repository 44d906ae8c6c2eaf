-- What may fail by a list of calls, and what failed.
use Rattle.std.proofs.Common.{◌≡◌, ℕ, zero, suc, ◌-◌, ◌^◌, ◌⊎◌, ◌||◌, ◌==◌, nat_lt, Bool, true, false, IsTrue, List, [], ◌∷◌, All, slice_get, Some, None, refl, sym, subst, inl, inr, eq-eqb, arith}
use Rattle.std.proofs.lemmas.Bool.{both_ways, eqb-true, and_parts, and_from, or_cases, or_left, or_right}
use Rattle.std.specs.List.{list_any}
use Rattle.vx_fault.specs.Counts.{IsCalm}
use Rattle.vx_fault.specs.Fails.{fails_at}
use Rattle.vx_seats.specs.Turns.{NeverFails}
use Rattle.vx_run.proofs.MemoryWrites.{never_listed}
use Rattle.vx_write_columns.specs.Stopped.{CompressorFailed, KeptOrFailed, AllKeptOrFailed, AllCalm}
use Rattle.vx_run_columns.specs.Compressors.{FailsBy}

-- ---- calls of a list

-- a call that fails
abbrev Listed : List ℕ → Type 0
Listed calls = (k : ℕ) × IsTrue (fails_at calls k)

-- none does
abbrev NoneListed : List ℕ → Type 0
NoneListed calls = (k : ℕ) → ¬ (IsTrue (fails_at calls k))

module _ (x : ℕ) (xs : List ℕ) where
  first_listed : nat_lt x (2 ^ 64 - 1) ≡ true → IsTrue (fails_at (x ∷ xs) x)
  first_listed is = and_from (nat_lt x (2 ^ 64 - 1)) _ is (or_left (x == x) _ (eq-eqb x x refl))

  later_listed : (k : ℕ) → IsTrue (fails_at xs k) → IsTrue (fails_at (x ∷ xs) k)
  later_listed k h =
      let p = and_parts (nat_lt k (2 ^ 64 - 1)) (list_any (λ n. n == k) xs) h in
      and_from (nat_lt k (2 ^ 64 - 1)) _ p.0 (or_right (x == k) (list_any (λ n. n == k) xs) p.1)

  neither_listed : nat_lt x (2 ^ 64 - 1) ≡ false → NoneListed xs → NoneListed (x ∷ xs)
  neither_listed not none k h =
      let p = and_parts (nat_lt k (2 ^ 64 - 1)) ((x == k) || list_any (λ n. n == k) xs) h in
      by_place p.0 (or_cases (x == k) (list_any (λ n. n == k) xs) p.1)
    where
      by_place : nat_lt k (2 ^ 64 - 1) ≡ true → ((x == k) ≡ true) ⊎ (list_any (λ n. n == k) xs ≡ true) → ⊥
      by_place small (inl same) = both_ways (nat_lt x (2 ^ 64 - 1)) not (subst (λ n. nat_lt n (2 ^ 64 - 1) ≡ true) (sym (eqb-true x k same)) small)
      by_place small (inr more) = none k (and_from (nat_lt k (2 ^ 64 - 1)) _ small more)

listed_or_none : (calls : List ℕ) → Listed calls ⊎ NoneListed calls
listed_or_none [] = inr (λ k. never_listed [] k refl)
listed_or_none (x ∷ xs) = by_first (nat_lt x (2 ^ 64 - 1)) refl (listed_or_none xs)
  where
    by_first : (b : Bool) → nat_lt x (2 ^ 64 - 1) ≡ b → Listed xs ⊎ NoneListed xs → Listed (x ∷ xs) ⊎ NoneListed (x ∷ xs)
    by_first true is rest = inl (x, first_listed x xs is)
    by_first false is (inl found) = inl (found.0, later_listed x xs found.0 found.1)
    by_first false is (inr none) = inr (neither_listed x xs is none)

-- what may fail by a list fails at some call of it, where it isn't so that it never fails
pub some_listed : (calls : List ℕ) {may : ℕ → Type 0} → ((k : ℕ) → may k → IsTrue (fails_at calls k)) → ¬ (NeverFails may) → (k : ℕ) × IsTrue (fails_at calls k)
some_listed calls {may} by_list some = by_cases (listed_or_none calls)
  where
    by_cases : Listed calls ⊎ NoneListed calls → Listed calls
    by_cases (inl found) = found
    by_cases (inr none) = absurd (some (λ k h. none k (by_list k h)))

-- by a list of no calls it never fails
pub never_by : (calls : List ℕ) {may : ℕ → Type 0} → ((k : ℕ) → may k → IsTrue (fails_at calls k)) → calls ≡ [] → NeverFails may
never_by calls by_list none k h = never_listed calls k none (by_list k h)

-- ---- counts

-- what never fails, and didn't before, is calm
pub calm_kept : {before now : ℕ} {may : ℕ → Type 0} → before ≡ 0 → NeverFails may → KeptOrFailed before now may → IsCalm before now
calm_kept none never (inl same) = (same, omega (arith, none))
calm_kept none never (inr failed) = absurd (failed.1 never)

module _ {C : Type 0} (faults : C → ℕ) (may : C → ℕ → Type 0) (calls : List ℕ) where
  abbrev AllBy : List C → Type 0
  AllBy cs = All (λ c. FailsBy calls (faults c) (may c)) cs

  all_behind : (c : C) (cs : List C) → AllBy (c ∷ cs) → AllBy cs
  all_behind c cs all k d less = all (suc k) d (omega (arith, less))

  pub all_calm : (before now : List C) → calls ≡ [] → AllBy before → AllKeptOrFailed faults may before now → AllCalm faults before now
  all_calm [] [] none all told = tt
  all_calm [] (n ∷ ns) none all told = absurd told
  all_calm (b ∷ bs) [] none all told = absurd told
  all_calm (b ∷ bs) (n ∷ ns) none all told =
      let first : FailsBy calls (faults b) (may b) = all 0 b (omega arith) in
      (calm_kept first.none (never_by calls first.listed none) told.0, all_calm bs ns none (all_behind b bs all) told.1)

  at_place : (cs : List C) (i : ℕ) (c : C) → AllBy cs → slice_get cs i ≡ Some c → FailsBy calls (faults c) (may c)
  at_place [] i c all is = absurd (let f : None ≡ Some c = is in cc)
  at_place (b ∷ bs) zero c all is =
      let same : b ≡ c = (let e : Some b ≡ Some c = is in cc) in
      subst (λ x. FailsBy calls (faults x) (may x)) same (all 0 b (omega arith))
  at_place (b ∷ bs) (suc i) c all is = at_place bs i c (all_behind b bs all) is

  -- a compressor failed at a call of the list
  pub failed_listed : (before now : List C) → AllBy before → CompressorFailed faults may before now → (k : ℕ) × IsTrue (fails_at calls k)
  failed_listed before now all failed = some_listed calls (at_place before failed.place failed.was all failed.lent).listed failed.may_fail
