-- Of valid input nothing is refused but what comes from outside.
use Rattle.std.proofs.Common.{◌≡◌, ◌+◌, ◌^◌, ◌<◌, ◌≤◌, ◌⊎◌, ◌∷◌, ◌++◌, ◌∙◌, ℕ, Bool, true, false, List, length, Option, Some, None, refl, sym, ap, subst, inl, inr, arith, append-nil, []}
use Rattle.vx_model.specs.Ty.{Ty, Tys, struct}
use Rattle.vx_model.specs.ChunkData.{ChunkData, piece_type}
use Rattle.vx_fault.specs.Told.{before_told, NoneTold, TookLast}
use Rattle.vx_named_tasks.specs.Names.{Outset}
use Rattle.vx_strategy_spec.specs.StrategyData.{StrategyData, StrategyList, structured}
use Rattle.vx_strategy_spec.specs.Walk.{duplicate}
use Rattle.vx_strategy_spec.specs.Dispatch.{dispatch}
use Rattle.vx_plan.specs.PlanData.{Setting, Plan, duplicate_field}
use Rattle.vx_plan.specs.SourcePlan.{source_plan, taken_plan}
use Rattle.vx_plan.specs.Valid.{OfSchema, Fit, IsPast, Valid}
use Rattle.vx_machine_promises.specs.Promises.{MovesAreCountedAt}
use Rattle.vx_machine_runs.proofs.Sounding.{fits, none_has}
use Rattle.vx_write_answer.specs.declared.error.WriteError.{WriteError}
use Rattle.vx_write_answer.specs.declared.error.WriteError.TheVariants.{SourceFault, SinkFault, CompressFault, BatchType, NotStruct, DuplicateField, ManyChunks, EmptyList, ZoneCut, ForbiddenAggregate, ForbiddenEncoding, TooLarge, OutOfMemory, Stopped}
use Rattle.vx_write.specs.Answered.{IsOutside}
use Rattle.vx_write_columns.specs.Beside.{PassesBeside}
use Rattle.vx_write_columns.specs.Stopped.{IsNumberPast, HasColumnsCause, StopsReading, ColumnsHalted}
use Rattle.vx_write_columns.proofs.Causing.{repeats}
use Rattle.vx_write_columns.proofs.Dispatched.{stands_for, taken_is}
use Rattle.vx_write_columns.proofs.Passing.{beside_within, beside_past}

-- ---- batches

front_of_schema : (t : Ty) (xs ys : List ChunkData) → OfSchema t (xs ++ ys) → OfSchema t xs
front_of_schema t [] ys h = tt
front_of_schema t (x ∷ xs) ys h = (h.0, front_of_schema t xs ys h.1)

last_of_schema : (t : Ty) (front : List ChunkData) (b : ChunkData) → OfSchema t (front ++ (b ∷ [])) → piece_type b ≡ t
last_of_schema t [] b h = h.0
last_of_schema t (x ∷ front) b h = last_of_schema t front b h.1

-- none of these is of another type
misfit : (t : Ty) (taken : List ChunkData) (c : ChunkData) → OfSchema t taken → (¬ (piece_type c ≡ t)) × TookLast taken c → ⊥
misfit t taken c typed (other, (front, is)) = other (last_of_schema t front c (subst (λ z. OfSchema t z) is typed))

-- what is left of a list that was told
rest_told : (taken xs : List ChunkData) (now : Option (List ChunkData)) → Some xs ≡ before_told taken now → (rest : List ChunkData) × (now ≡ Some rest) × (xs ≡ taken ++ rest)
rest_told taken xs None e = absurd (let f : Some xs ≡ None = e in cc)
rest_told taken xs (Some ys) e = (ys, refl, same e)
  where
    same : Some xs ≡ Some (taken ++ ys) → xs ≡ taken ++ ys
    same f = cc

-- ---- by the plan of all batches

module _ (t : Ty) (passes : ℕ → Type 0) (p : Plan) (taken : List ChunkData) (first : ℕ) (within : (n : ℕ) → passes n → n ≤ p.reserved) (past : (n : ℕ) → passes n → 2 ^ 64 ≤ n)
    (clean : p.faults ≡ []) (typed : OfSchema t taken) (numbered : first + length p.pairs ≤ 2 ^ 32) (fit : Fit p.numbers) (tracked : 0 + p.reserved < 2 ^ 64) where
  number_fits : (n : ℕ) → IsNumberPast first p n ⊎ IsPast n p.numbers ⊎ passes n → ⊥
  number_fits n (inl (big, less)) = omega arith
  number_fits n (inr (inl (big, inl i))) = let l : n < 2 ^ 64 = fits n p.numbers fit i in omega arith
  number_fits n (inr (inl (big, inr (is, (k, i, far))))) = let l : k < 2 ^ 64 = fits k p.numbers fit i in omega arith
  number_fits n (inr (inr h)) = let l : n ≤ p.reserved = within n h in let b : 2 ^ 64 ≤ n = past n h in omega arith

  only_outside : (e : WriteError) → HasColumnsCause t passes p taken first e → IsOutside e
  only_outside OutOfMemory h = inl refl
  only_outside SourceFault h = inr (inl refl)
  only_outside SinkFault h = inr (inr (inl refl))
  only_outside CompressFault h = inr (inr (inr refl))
  only_outside (BatchType c) h = absurd (misfit t taken c typed h)
  only_outside NotStruct h = absurd (none_has _ p.faults clean h)
  only_outside (DuplicateField name) h = absurd (none_has _ p.faults clean h)
  only_outside ManyChunks h = absurd (none_has _ p.faults clean h)
  only_outside EmptyList h = absurd (none_has _ p.faults clean h)
  only_outside (ZoneCut n) h = absurd (none_has _ p.faults clean h)
  only_outside (ForbiddenAggregate id) h = absurd (none_has _ p.faults clean h)
  only_outside (ForbiddenEncoding id) h = absurd (none_has _ p.faults clean h)
  only_outside (TooLarge n) h = absurd (number_fits n h)
  only_outside (Stopped by name) h = absurd h

-- where `passes` tells of no more than the plan reserves
pub valid_outside : (s : Setting) (w : StrategyData) (t : Ty) (m : Bool) (first : ℕ) (passes : ℕ → Type 0) (taken : List ChunkData) (e : WriteError) → Valid s w t m first 0 taken
    → ((n : ℕ) → passes n → n ≤ (source_plan s w t m taken true).reserved) → ((n : ℕ) → passes n → 2 ^ 64 ≤ n)
    → HasColumnsCause t passes (source_plan s w t m taken true) taken first e → IsOutside e
valid_outside s w t m first passes taken e valid within past h =
    only_outside t passes (source_plan s w t m taken true) taken first within past valid.faultless valid.of_schema valid.numbered valid.fit valid.tracked e h

-- the reading of batches of the schema
reading_outside : (t : Ty) (passes : ℕ → Type 0) (p : Plan) (taken : List ChunkData) (first : ℕ) (e : WriteError) → OfSchema t taken → StopsReading e → HasColumnsCause t passes p taken first e → IsOutside e
reading_outside t passes p taken first SourceFault typed stops h = inr (inl refl)
reading_outside t passes p taken first (BatchType c) typed stops h = absurd (misfit t taken c typed h)
reading_outside t passes p taken first OutOfMemory typed stops h = inl refl
reading_outside t passes p taken first SinkFault typed stops h = absurd stops
reading_outside t passes p taken first CompressFault typed stops h = absurd stops
reading_outside t passes p taken first NotStruct typed stops h = absurd stops
reading_outside t passes p taken first (DuplicateField name) typed stops h = absurd stops
reading_outside t passes p taken first ManyChunks typed stops h = absurd stops
reading_outside t passes p taken first EmptyList typed stops h = absurd stops
reading_outside t passes p taken first (ZoneCut n) typed stops h = absurd stops
reading_outside t passes p taken first (ForbiddenAggregate id) typed stops h = absurd stops
reading_outside t passes p taken first (ForbiddenEncoding id) typed stops h = absurd stops
reading_outside t passes p taken first (TooLarge n) typed stops h = absurd stops
reading_outside t passes p taken first (Stopped by name) typed stops h = absurd stops

-- ---- a struct's columns

-- where its plan has no fault, no name is repeated
pub none_repeated : (s : Setting) (v d : StrategyData) (ws : StrategyList) (m : Bool) (fs : Tys) (n : Bool) (bs : List ChunkData) → (source_plan s (structured v d ws) (struct fs n) m bs true).faults ≡ [] → duplicate fs ≡ None
none_repeated s v d ws m fs n bs clean = by (duplicate fs) refl
  where
    by : (o : Option (List ℕ)) → duplicate fs ≡ o → duplicate fs ≡ None
    by None h = h
    by (Some name) h = absurd (none_has (duplicate_field name) (source_plan s (structured v d ws) (struct fs n) m bs true).faults clean (repeats s v d ws m fs n bs name h))

module _ (counted : (o : Outset) → MovesAreCountedAt o) (s : Setting) (v d : StrategyData) (ws : StrategyList) (m : Bool) (fs : Tys) (n : Bool)
    (w : StrategyData) (at_type : dispatch w (struct fs n) ≡ structured v d ws) (first : ℕ) where
  -- all was taken
  taken_outside : (taken : List ChunkData) (e : WriteError) → Valid s w (struct fs n) m first 0 taken
      → HasColumnsCause (struct fs n) (PassesBeside s w (struct fs n) m taken) (taken_plan s w (struct fs n) m taken true) taken first e → IsOutside e
  taken_outside taken e valid h =
      let same : source_plan s w (struct fs n) m taken true ≡ source_plan s (structured v d ws) (struct fs n) m taken true = stands_for s w (structured v d ws) (struct fs n) m taken true at_type in
      let distinct : duplicate fs ≡ None = none_repeated s v d ws m fs n taken (subst (λ (z : Plan). z.faults ≡ []) same valid.faultless) in
      valid_outside s w (struct fs n) m first (PassesBeside s w (struct fs n) m taken) taken e valid
      (λ i q. subst (λ (z : Plan). i ≤ z.reserved) (sym same) (beside_within counted s v d ws m fs n taken distinct w at_type i q))
      (beside_past s w (struct fs n) m taken)
      (subst (λ (z : Plan). HasColumnsCause (struct fs n) (PassesBeside s w (struct fs n) m taken) z taken first e) (taken_is s w (struct fs n) m taken true valid.of_schema) h)

  module _ (columns : List ChunkData → WriteError → Type 0) (next faults faults_now : ℕ) (may must : ℕ → Type 0) (to_come to_come_now : Option (List ChunkData)) (before now : Option (List (List ℕ))) (e : WriteError) (xs : List ChunkData)
      (h : ColumnsHalted s w (struct fs n) m (PassesBeside s w (struct fs n) m) columns first next faults faults_now may must to_come to_come_now before now e)
      (valid : Valid s w (struct fs n) m first 0 xs) where
    -- of what was taken, and what was still to come
    by_rest : (rest : List ChunkData) → to_come_now ≡ Some rest → xs ≡ h.taken ++ rest → (b : Bool) → h.heard ≡ b → IsOutside e
    by_rest rest left is true i =
        let none : rest ≡ [] = subst (λ z. NoneTold z) left (h.told.ended i) in
        let whole : xs ≡ h.taken = is ∙ ap (λ z. h.taken ++ z) none ∙ append-nil h.taken in
        taken_outside h.taken e (subst (λ z. Valid s w (struct fs n) m first 0 z) whole valid)
        (subst (λ b. HasColumnsCause (struct fs n) (PassesBeside s w (struct fs n) m h.taken) (taken_plan s w (struct fs n) m h.taken b) h.taken first e) i h.cause)
    by_rest rest left is false i =
        reading_outside (struct fs n) (PassesBeside s w (struct fs n) m h.taken) (taken_plan s w (struct fs n) m h.taken h.heard) h.taken first e
        (front_of_schema (struct fs n) h.taken rest (subst (λ z. OfSchema (struct fs n) z) is valid.of_schema)) (h.early i).0 h.cause

    struct_outside : to_come ≡ Some xs → IsOutside e
    struct_outside told = by (rest_told h.taken xs to_come_now (sym told ∙ h.told.came))
      where
        by : (rest : List ChunkData) × (to_come_now ≡ Some rest) × (xs ≡ h.taken ++ rest) → IsOutside e
        by (rest, left, is) = by_rest rest left is h.heard refl

-- a write by columns that was refused, where the source tells a valid input
pub halted_outside : ((o : Outset) → MovesAreCountedAt o) → (s : Setting) (w : StrategyData) (t : Ty) (m : Bool) (columns : List ChunkData → WriteError → Type 0) (first next faults faults_now : ℕ) (may must : ℕ → Type 0)
    (to_come to_come_now : Option (List ChunkData)) (before now : Option (List (List ℕ))) (e : WriteError) (xs : List ChunkData) (v d : StrategyData) (ws : StrategyList) (fs : Tys) (n : Bool) → t ≡ struct fs n → dispatch w t ≡ structured v d ws
    → ColumnsHalted s w t m (PassesBeside s w t m) columns first next faults faults_now may must to_come to_come_now before now e → to_come ≡ Some xs → Valid s w t m first 0 xs → IsOutside e
halted_outside counted s w t m columns first next faults faults_now may must to_come to_come_now before now e xs v d ws fs n is at_type h told valid =
    struct_outside counted s v d ws m fs n w (subst (λ (u : Ty). dispatch w u ≡ structured v d ws) is at_type) first columns next faults faults_now may must to_come to_come_now before now e xs
    (subst (λ (u : Ty). ColumnsHalted s w u m (PassesBeside s w u m) columns first next faults faults_now may must to_come to_come_now before now e) is h)
    (subst (λ (u : Ty). Valid s w u m first 0 xs) is valid) told
