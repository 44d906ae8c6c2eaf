-- What failed of workers' sink and compressors.
use Rattle.std.proofs.Common.{◌≡◌, ◌⊎◌, ◌+◌, ◌<◌, ◌≤◌, ◌∷◌, ◌∙◌, ℕ, zero, suc, true, List, map, length, Option, Some, None, Result, Ok, Err, slice_get, option_map, refl, sym, ap, ap₂, subst, inl, inr, arith, []}
use Rattle.std.specs.Prelude.{IfErr, sum_by}
use Rattle.std.specs.Global.{Vec}
use Rattle.std.proofs.lemmas.List.Sums.{sum_by-cons}
use Rattle.std.proofs.lemmas.Option.{slice_get-map}
use Rattle.vx_path.specs.declared.owned.Path.{Path}
use Rattle.vx_layout_tree.specs.declared.layout.Layout.{Layout}
use Rattle.vx_fault.specs.Counts.{Rose}
use Rattle.vx_seats.specs.Turns.{NeverFails}
use Rattle.vx_write_answer.specs.declared.error.WriteError.{WriteError}
use Rattle.vx_write_answer.specs.declared.error.WriteError.TheVariants.{SinkFault, CompressFault, OutOfMemory}
use Rattle.vx_write_answer.specs.Causes.{is_sink_fault}
use Rattle.vx_column_worker.specs.Staffed.{Counts}
use Rattle.vx_column_worker.specs.Worked.{SeatStopped, PressedOnly}
use Rattle.vx_write_columns.specs.Numbers.{ColumnOutcome, AllOk, IsFirstOwn}
use Rattle.vx_write_columns.specs.Stopped.{SinkFailed, CompressorFailed, KeptOrFailed, AllKeptOrFailed, AllKept, Failed}
use Rattle.vx_write_columns.proofs.Rows.{Row, none_counted, courses_in, lent_in, back_in, after_in, outcomes_in, Worked, AllWorked, rest_ok, faults_in, row_of}

-- ---- sums

-- what is read off an element counts the same as the element
pub sum_same : {A B D : Type 0} (f : B → ℕ) (g : A → B) (h : D → ℕ) (c : A → D) → ((x : A) → f (g x) ≡ h (c x)) → (xs : List A) → sum_by f (map g xs) ≡ sum_by h (map c xs)
sum_same f g h c e [] = refl
sum_same f g h c e (x ∷ xs) = sum_by-cons f (g x) (map g xs) ∙ ap₂ (λ (a b : ℕ). a + b) (e x) (sum_same f g h c e xs) ∙ sym (sum_by-cons h (c x) (map c xs))

-- ---- the sink

-- it failed only where some seat says so
pub kept_or_failed : (sum before now : ℕ) (may : ℕ → Type 0) → (0 < sum → Rose before now) → (0 < sum → ¬ (NeverFails may)) → (sum ≡ 0 → now ≡ before) → KeptOrFailed before now may
kept_or_failed zero before now may rose could quiet = inl (quiet refl)
kept_or_failed (suc n) before now may rose could quiet = inr (rose (omega arith), could (omega arith))

no_memory : SinkFault ≡ OutOfMemory → ⊥
no_memory e = cc

no_room : CompressFault ≡ OutOfMemory → ⊥
no_room e = cc

module _ {C : Type 0} (kind faults : C → ℕ) (may : C → ℕ → Type 0) (first pairs : ℕ) where
  abbrev AllDid : List (Row C) → Type 0
  AllDid rs = AllWorked kind faults may first pairs rs

  -- ---- compressors

  pub kinds_are : (rs : List (Row C)) → AllDid rs → map kind (back_in rs) ≡ map kind (lent_in rs)
  kinds_are [] w = refl
  kinds_are (r ∷ rs) w = ap₂ (λ (x : ℕ) (y : List ℕ). x ∷ y) w.0.kind_is (kinds_are rs w.1)

  pressed_ok : (o : ColumnOutcome) (os : List ColumnOutcome) (before now : ℕ) (m : ℕ → Type 0) → PressedOnly before now m o → AllOk (o ∷ os) → now ≡ before
  pressed_ok (Ok r) os before now m h ok = h
  pressed_ok (Err e) os before now m h ok = absurd ok

  pub all_kept : (rs : List (Row C)) → AllDid rs → AllOk (outcomes_in rs) → AllKept faults (lent_in rs) (back_in rs)
  all_kept [] w ok = refl
  all_kept (r ∷ rs) w ok =
      ap₂ (λ (x : ℕ) (y : List ℕ). x ∷ y) (pressed_ok r.done.outcome (outcomes_in rs) (faults r.lent) (faults r.done.compressor) (may r.lent) w.0.pressed ok)
      (all_kept rs w.1 (rest_ok r.done.outcome (outcomes_in rs) ok))

  pressed_told : (o : ColumnOutcome) (before now : ℕ) (m : ℕ → Type 0) → PressedOnly before now m o → KeptOrFailed before now m
  pressed_told (Ok r) before now m h = inl h
  pressed_told (Err CompressFault) before now m h = inr h
  pressed_told (Err e) before now m h = inl h

  pub all_told : (rs : List (Row C)) → AllDid rs → AllKeptOrFailed faults may (lent_in rs) (back_in rs)
  all_told [] w = tt
  all_told (r ∷ rs) w = (pressed_told r.done.outcome (faults r.lent) (faults r.done.compressor) (may r.lent) w.0.pressed, all_told rs w.1)

  one_failed : (rs : List (Row C)) (k : ℕ) → AllDid rs → slice_get (outcomes_in rs) k ≡ Some (Err CompressFault) → CompressorFailed faults may (lent_in rs) (back_in rs)
  one_failed rs k w e = on (row_of kind faults may first pairs rs k (Err CompressFault) w e)
    where
      on : (r : Row C) × (slice_get rs k ≡ Some r) × (r.done.outcome ≡ Err CompressFault) × Worked kind faults may first pairs r → CompressorFailed faults may (lent_in rs) (back_in rs)
      on (r, at, is, d) =
          let p : PressedOnly {A = Layout × Vec Path} (faults r.lent) (faults r.done.compressor) (may r.lent) (Err CompressFault) = subst (λ o. PressedOnly (faults r.lent) (faults r.done.compressor) (may r.lent) o) is d.pressed in
          record {
            place = k;
            was = r.lent;
            is = r.done.compressor;
            lent = slice_get-map (λ (z : Row C). z.lent) rs k ∙ ap (option_map (λ (z : Row C). z.lent)) at;
            back = slice_get-map (λ (z : Row C). z.done.compressor) rs k ∙ ap (option_map (λ (z : Row C). z.done.compressor)) at;
            rose = p.0;
            may_fail = p.1;
          }

  -- ---- the sink

  counts_within : (rs : List (Row C)) (k : ℕ) (r : Row C) → slice_get rs k ≡ Some r → r.after.faults ≤ faults_in (after_in rs)
  counts_within [] k r e = absurd (none_row e)
    where
      none_row : None ≡ Some r → ⊥
      none_row f = cc
  counts_within (q ∷ rs) zero r e =
      let s = sum_by-cons (λ (a : Counts). a.faults) q.after (after_in rs) in
      let same : q ≡ r = cc in
      let f : q.after.faults ≡ r.after.faults = ap (λ (z : Row C). z.after.faults) same in
      omega (arith, s, f)
  counts_within (q ∷ rs) (suc k) r e =
      let s = sum_by-cons (λ (a : Counts). a.faults) q.after (after_in rs) in
      let more = counts_within rs k r e in
      omega (arith, s, more)

  pub some_fault : (rs : List (Row C)) (k : ℕ) → AllDid rs → slice_get (outcomes_in rs) k ≡ Some (Err SinkFault) → 0 < faults_in (after_in rs)
  some_fault rs k w e = on (row_of kind faults may first pairs rs k (Err SinkFault) w e)
    where
      on : (r : Row C) × (slice_get rs k ≡ Some r) × (r.done.outcome ≡ Err SinkFault) × Worked kind faults may first pairs r → 0 < faults_in (after_in rs)
      on (r, at, is, d) =
          let s : SeatStopped SinkFault true 0 r.after.faults 0 r.after.made 0 r.after.seen
          = subst (λ (o : ColumnOutcome). IfErr o (λ x. SeatStopped x (is_sink_fault x) 0 r.after.faults 0 r.after.made 0 r.after.seen)) is d.stopped in
          let one : r.after.faults ≡ 1 = s.fault refl refl in
          let most = counts_within rs k r at in
          omega (arith, one, most)

  -- ---- the refusal

  pub has_failed : (rs : List (Row C)) (e : WriteError) (before now : ℕ) (may_fail : ℕ → Type 0) → AllDid rs → (e ≡ OutOfMemory) ⊎ IsFirstOwn (outcomes_in rs) e
      → (0 < faults_in (after_in rs) → Rose before now) → (0 < faults_in (after_in rs) → ¬ (NeverFails may_fail)) → (faults_in (after_in rs) ≡ 0 → now ≡ before)
      → Failed before now may_fail faults may (lent_in rs) (back_in rs) e
  has_failed rs e before now may_fail w (inl m) rose could quiet = record {
    sink = λ is. absurd (no_memory (sym is ∙ m));
    sink_told = kept_or_failed (faults_in (after_in rs)) before now may_fail rose could quiet;
    compressor = λ is. absurd (no_room (sym is ∙ m));
    compressors_told = all_told rs w;
  }
  has_failed rs e before now may_fail w (inr f) rose could quiet = record {
    sink = λ is. let l : 0 < faults_in (after_in rs) = some_fault rs f.place w (subst (λ (z : WriteError). slice_get (outcomes_in rs) f.place ≡ Some (Err z)) is f.at) in (rose l, could l);
    sink_told = kept_or_failed (faults_in (after_in rs)) before now may_fail rose could quiet;
    compressor = λ is. one_failed rs f.place w (subst (λ (z : WriteError). slice_get (outcomes_in rs) f.place ≡ Some (Err z)) is f.at);
    compressors_told = all_told rs w;
  }
