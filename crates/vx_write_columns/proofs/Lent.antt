-- A shared write that never began, and one in the words of the sink that was handed in.
use Rattle.std.proofs.Common.{◌≡◌, ◌+◌, ◌^◌, ◌≤◌, ◌∷◌, ℕ, max, true, List, map, length, Option, refl, sym, ap, subst, inl, inr, ⊎_elim, arith, []}
use Rattle.vx_model.specs.Ty.{Ty}
use Rattle.vx_layout_spec.specs.LayoutTree.{LayoutData}
use Rattle.vx_fault.specs.Counts.{Rose}
use Rattle.vx_seats.specs.History.{Pair}
use Rattle.vx_seats.specs.Turns.{NeverFails}
use Rattle.vx_write_answer.specs.declared.error.WriteError.{WriteError}
use Rattle.vx_write_answer.specs.declared.error.WriteError.TheVariants.{SinkFault, CompressFault, OutOfMemory}
use Rattle.vx_column_worker.specs.Course.{Course}
use Rattle.vx_column_worker.specs.Worked.{SharedPast}
use Rattle.vx_write_columns.proofs.Told.{then_same}
use Rattle.vx_write_columns.proofs.Firsts.{first_weaker}
use Rattle.vx_write_columns.specs.Ends.{End}
use Rattle.vx_write_columns.specs.Shared.{StandsBy, SharedDone, SharedStopped}
use Rattle.vx_write_columns.specs.Stopped.{KeptOrFailed, AllKeptOrFailed, Failed}

-- ---- nothing was written

pub none_stands : (pairs : List Pair) (first : ℕ) (before : Option (List (List ℕ))) → StandsBy pairs first first before before []
none_stands pairs first before = record {
  ascend = refl;
  listed = refl;
  numbers = refl;
  next_is = omega arith;
  stands = then_same before;
  last = omega arith;
}

pub none_shared : (pairs : List Pair) (first : ℕ) (before : Option (List (List ℕ))) (tells : List End → Type 0) (xs : List Course) → SharedStopped pairs first first before before tells xs OutOfMemory
none_shared pairs first before tells xs = record { history = []; stands = none_stands pairs first before; whose = inl refl }

-- ---- nothing failed

pub all_kept_so : {C : Type 0} (faults : C → ℕ) (may : C → ℕ → Type 0) (cs : List C) → AllKeptOrFailed faults may cs cs
all_kept_so faults may [] = tt
all_kept_so faults may (c ∷ cs) = (inl refl, all_kept_so faults may cs)

-- where an error is told that is neither's
pub none_failed : {C : Type 0} (now : ℕ) (may_fail : ℕ → Type 0) (faults : C → ℕ) (may : C → ℕ → Type 0) (cs : List C) (e : WriteError) → (e ≡ SinkFault → ⊥) → (e ≡ CompressFault → ⊥)
    → Failed now now may_fail faults may cs cs e
none_failed now may_fail faults may cs e sink press = record {
  sink = λ is. absurd (sink is);
  sink_told = inl refl;
  compressor = λ is. absurd (press is);
  compressors_told = all_kept_so faults may cs;
}

not_sink : OutOfMemory ≡ SinkFault → ⊥
not_sink e = cc

not_press : OutOfMemory ≡ CompressFault → ⊥
not_press e = cc

-- where memory ran out
pub memory_failed : {C : Type 0} (now : ℕ) (may_fail : ℕ → Type 0) (faults : C → ℕ) (may : C → ℕ → Type 0) (cs : List C) → Failed now now may_fail faults may cs cs OutOfMemory
memory_failed now may_fail faults may cs = none_failed now may_fail faults may cs OutOfMemory not_sink not_press

-- ---- by another name

-- it may fail where the other may
pub fails_too : {C : Type 0} (before now : ℕ) (a b : ℕ → Type 0) (faults : C → ℕ) (may : C → ℕ → Type 0) (lent back : List C) (e : WriteError) → (NeverFails b → NeverFails a)
    → Failed before now a faults may lent back e → Failed before now b faults may lent back e
fails_too before now a b faults may lent back e never h = record {
  sink = λ is. ((h.sink is).0, λ n. (h.sink is).1 (never n));
  sink_told = ⊎_elim (λ k. inl k) (λ f. inr (f.0, λ n. f.1 (never n))) h.sink_told;
  compressor = h.compressor;
  compressors_told = h.compressors_told;
}

module _ (pairs : List Pair) (first given : ℕ) (next : ℕ) (before handed now : Option (List (List ℕ))) (xs ys : List Course) (same : given ≡ first) (told : handed ≡ before) (courses : xs ≡ ys) where
  pub done_by : (t : Ty) (rows : ℕ) (l : LayoutData ℕ) → SharedDone pairs first next before now xs t rows l → SharedDone pairs given next handed now ys t rows l
  done_by t rows l h =
      subst (λ z. SharedDone pairs z next handed now ys t rows l) (sym same)
      (subst (λ z. SharedDone pairs first next z now ys t rows l) (sym told) (subst (λ z. SharedDone pairs first next before now z t rows l) courses h))

  -- whatever else is told of the columns' ends
  pub stopped_by : (f g : List End → Type 0) (e : WriteError) → ((ends : List End) → f ends → g ends) → SharedStopped pairs first next before now f xs e → SharedStopped pairs given next handed now g ys e
  stopped_by f g e more h =
      subst (λ z. SharedStopped pairs z next handed now g ys e) (sym same)
      (subst (λ z. SharedStopped pairs first next z now g ys e) (sym told)
      (subst (λ z. SharedStopped pairs first next before now g z e) courses
      (record { history = h.history; stands = h.stands; whose = ⊎_elim (λ m. inl m) (λ i. inr (first_weaker (SharedPast first (length pairs)) f g xs e more i)) h.whose })))
