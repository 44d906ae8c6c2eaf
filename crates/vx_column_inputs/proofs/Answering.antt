-- Batches are read one after the other.
use Rattle.std.proofs.Common.{◌≡◌, ℕ, ◌+◌, true, false, List, [], ◌∷◌, ◌++◌, length, Option, Some, None, append_assoc, refl, sym, ap, subst, ◌∙◌, arith}
use Rattle.std.specs.Prelude.{Ok, Err}
use Rattle.std.proofs.lemmas.Bool.{true≢false}
use Rattle.std.proofs.lemmas.List.{length_push}
use Rattle.vx_model.specs.Ty.{Ty}
use Rattle.vx_model.specs.ChunkData.{ChunkData, piece_type}
use Rattle.vx_layout_spec.specs.Real.{Of}
use Rattle.vx_chunk.specs.declared.node.Chunk.{Chunk}
use Rattle.vx_fault.specs.Faults.{Called, FaultsTold}
use Rattle.vx_fault.specs.Told.{before_told, NoneTold}
use Rattle.vx_fault.proofs.Answering.{Answered, none_called, then_called, then_left, then_failed, ended}
use Rattle.vx_plan.specs.Valid.{OfSchema, AllOf}
use Rattle.vx_sink.specs.Source.{source_failed, GivesNext}
use Rattle.vx_sink.specs.declared.source.SourceError.{SourceError}
use Rattle.vx_sink.specs.declared.source.SourceError.TheVariants as source
use Rattle.vx_write_answer.specs.Causes.{of_source}
use Rattle.vx_write_answer.specs.declared.error.WriteError.{WriteError}
use Rattle.vx_write_answer.specs.declared.error.WriteError.TheVariants.{SourceFault, SinkFault, CompressFault, BatchType, NotStruct, DuplicateField, ManyChunks, EmptyList, ZoneCut, ForbiddenAggregate, ForbiddenEncoding, TooLarge, OutOfMemory, Stopped}
use Rattle.vx_column_inputs.specs.Prepared.{NamesStop, SplitStops}
use Rattle.vx_column_inputs.specs.Reading.{SourceTold, NextTold, ReadStops}

-- Since it stood at a, the source gave these batches, each a whole one of the type, and never failed.
pub record HasGiven {S : Type 0} (faults : S → ℕ) (may must : S → ℕ → Type 0) (to_come : S → Option (List ChunkData)) (t : Ty) (a b : S) (taken : List ChunkData) : Type 0 where
  pub answered : Answered faults may must a b (length taken)
  pub came : to_come a ≡ before_told taken (to_come b)
  pub typed : OfSchema t taken
  pub whole : AllOf t taken

told_none : (told : Option (List ChunkData)) → told ≡ before_told [] told
told_none None = refl
told_none (Some xs) = refl

told_more : (xs : List ChunkData) (x : ChunkData) (told : Option (List ChunkData)) → before_told xs (before_told (x ∷ []) told) ≡ before_told (xs ++ (x ∷ [])) told
told_more xs x None = refl
told_more xs x (Some ys) = ap Some (sym (append_assoc xs (x ∷ []) ys))

schema_more : (t : Ty) (bs : List ChunkData) (b : ChunkData) → OfSchema t bs → Of t b → OfSchema t (bs ++ (b ∷ []))
schema_more t [] b h o = (o.typed, tt)
schema_more t (c ∷ bs) b h o = (h.0, schema_more t bs b h.1 o)

whole_more : (t : Ty) (bs : List ChunkData) (b : ChunkData) → AllOf t bs → Of t b → AllOf t (bs ++ (b ∷ []))
whole_more t [] b h o = (o, tt)
whole_more t (c ∷ bs) b h o = (h.0, whole_more t bs b h.1 o)

-- what a refused call tells
pub call_refused : (t : Ty) (before now : ℕ) (may may_then must must_then : ℕ → Type 0) (told told_now : Option (List ChunkData)) (s : SourceError) (e : WriteError) → e ≡ of_source s
    → Called before now may may_then must must_then (source_failed (Err s)) → GivesNext told told_now (Err s) → NextTold t before now may may_then must must_then told told_now (Err e)
call_refused t before now may may_then must must_then told told_now source.Failed e is called same =
    subst (λ z. NextTold t before now may may_then must must_then told told_now (Err z)) (sym is) (called, same)
call_refused t before now may may_then must must_then told told_now source.OutOfMemory e is called same =
    subst (λ z. NextTold t before now may may_then must must_then told told_now (Err z)) (sym is) (called, same)

module _ {S : Type 0} (faults : S → ℕ) (may must : S → ℕ → Type 0) (to_come : S → Option (List ChunkData)) (t : Ty) where
  pub none_given : (a : S) → HasGiven faults may must to_come t a a []
  none_given a = record { answered = none_called faults may must a; came = told_none (to_come a); typed = tt; whole = tt }

  module _ (a b c : S) (taken : List ChunkData) (h : HasGiven faults may must to_come t a b taken) where
    answered_more : (x : ChunkData) → Called (faults b) (faults c) (may b) (may c) (must b) (must c) false → Answered faults may must a c (length (taken ++ (x ∷ [])))
    answered_more x called = subst (λ z. Answered faults may must a c z) (sym (length_push taken x)) (then_called faults may must a b c (length taken) h.answered called)

    came_more : (x : ChunkData) → to_come b ≡ before_told (x ∷ []) (to_come c) → to_come a ≡ before_told (taken ++ (x ∷ [])) (to_come c)
    came_more x e = h.came ∙ ap (before_told taken) e ∙ told_more taken x (to_come c)

    given_more : (x : ChunkData) → Called (faults b) (faults c) (may b) (may c) (must b) (must c) false × (to_come b ≡ before_told (x ∷ []) (to_come c)) × Of t x
        → HasGiven faults may must to_come t a c (taken ++ (x ∷ []))
    given_more x k = record { answered = answered_more x k.0; came = came_more x k.1; typed = schema_more t taken x h.typed k.2; whole = whole_more t taken x h.whole k.2 }

    -- the end is told
    pub all_given : Called (faults b) (faults c) (may b) (may c) (must b) (must c) false × (to_come c ≡ to_come b) × NoneTold (to_come c)
        → SourceTold (faults a) (faults c) (may a) (must a) (to_come a) (to_come c) taken true false
    all_given k = record {
      came = h.came ∙ ap (before_told taken) (sym k.1);
      ended = λ e. k.2;
      asked = ended faults may must a c c (length taken + 1) (length taken + 1) refl refl (then_called faults may must a b c (length taken) h.answered k.0);
    }

    -- behind these batches, none of which failed
    told_so : (told : FaultsTold (faults a) (faults c) (may a) (must a) (length taken) false) → to_come c ≡ to_come b
        → SourceTold (faults a) (faults c) (may a) (must a) (to_come a) (to_come c) taken false false
    told_so told e = record {
      came = h.came ∙ ap (before_told taken) (sym e);
      ended = λ n. absurd (true≢false (sym n));
      asked = let s : length taken ≡ length taken + 0 = omega arith in subst (λ z. FaultsTold (faults a) (faults c) (may a) (must a) z false) s told;
    }

    failing : Called (faults b) (faults c) (may b) (may c) (must b) (must c) true × (to_come c ≡ to_come b) → ReadStops t (faults a) (faults c) (may a) (must a) (to_come a) (to_come c) SourceFault
    failing k = record {
      taken = taken;
      told = record {
        came = h.came ∙ ap (before_told taken) (sym k.1);
        ended = λ n. absurd (true≢false (sym n));
        asked = let s : length taken ≡ length taken + 0 = omega arith in
            subst (λ z. FaultsTold (faults a) (faults c) (may a) (must a) z true) s (then_failed faults may must a b c (length taken) h.answered k.0);
      };
      cause = tt;
    }

    misfit : (x : ChunkData) → Called (faults b) (faults c) (may b) (may c) (must b) (must c) false × (to_come b ≡ before_told (x ∷ []) (to_come c)) × (¬ (piece_type x ≡ t))
        → ReadStops t (faults a) (faults c) (may a) (must a) (to_come a) (to_come c) (BatchType x)
    misfit x k = record {
      taken = taken ++ (x ∷ []);
      told = record {
        came = came_more x k.1;
        ended = λ n. absurd (true≢false (sym n));
        asked = let s : length (taken ++ (x ∷ [])) + 0 ≡ length (taken ++ (x ∷ [])) = omega arith in
            ended faults may must a c c (length (taken ++ (x ∷ []))) (length (taken ++ (x ∷ [])) + 0) s refl (answered_more x k.0);
      };
      cause = (k.2, (taken, refl));
    }

    -- a call is refused
    next_stops : (e : WriteError) → NextTold t (faults b) (faults c) (may b) (may c) (must b) (must c) (to_come b) (to_come c) (Err e)
        → ReadStops t (faults a) (faults c) (may a) (must a) (to_come a) (to_come c) e
    next_stops SourceFault k = failing k
    next_stops (BatchType x) k = misfit x k
    next_stops OutOfMemory k = record { taken = taken; told = told_so (then_left faults may must a b c (length taken) h.answered k.0) k.1; cause = tt }
    next_stops SinkFault k = absurd k
    next_stops CompressFault k = absurd k
    next_stops NotStruct k = absurd k
    next_stops (DuplicateField name) k = absurd k
    next_stops ManyChunks k = absurd k
    next_stops EmptyList k = absurd k
    next_stops (ZoneCut n) k = absurd k
    next_stops (ForbiddenAggregate id) k = absurd k
    next_stops (ForbiddenEncoding id) k = absurd k
    next_stops (TooLarge n) k = absurd k
    next_stops (Stopped by name) k = absurd k

    -- the same of an answer by the type that the source has now
    pub batch_given : (now : Ty) → now ≡ t → (o : Option Chunk) (x : Chunk) → o ≡ Some x → NextTold now (faults b) (faults c) (may b) (may c) (must b) (must c) (to_come b) (to_come c) (Ok o)
        → HasGiven faults may must to_come t a c (taken ++ (x ∷ []))
    batch_given now same o x is told =
        given_more x (subst (λ z. Called (faults b) (faults c) (may b) (may c) (must b) (must c) false × (to_come b ≡ before_told (x ∷ []) (to_come c)) × Of z x) same
        (subst (λ r. NextTold now (faults b) (faults c) (may b) (may c) (must b) (must c) (to_come b) (to_come c) (Ok r)) is told))

    pub call_stops : (now : Ty) → now ≡ t → (e : WriteError) → NextTold now (faults b) (faults c) (may b) (may c) (must b) (must c) (to_come b) (to_come c) (Err e)
        → ReadStops t (faults a) (faults c) (may a) (must a) (to_come a) (to_come c) e
    call_stops now same e told = next_stops e (subst (λ z. NextTold z (faults b) (faults c) (may b) (may c) (must b) (must c) (to_come b) (to_come c) (Err e)) same told)

  -- there is no room for the last batch
  pub no_room : (a b : S) (taken : List ChunkData) → HasGiven faults may must to_come t a b taken → ReadStops t (faults a) (faults b) (may a) (must a) (to_come a) (to_come b) OutOfMemory
  no_room a b taken h = record {
    taken = taken;
    told = record {
      came = h.came;
      ended = λ n. absurd (true≢false (sym n));
      asked = let s : length taken + 0 ≡ length taken = omega arith in ended faults may must a b b (length taken) (length taken + 0) s refl h.answered;
    };
    cause = tt;
  }

-- what refuses the type refuses all that was read
pub names_stop : (t : Ty) (taken : List ChunkData) (e : WriteError) → NamesStop t e → SplitStops t taken e
names_stop t taken (DuplicateField name) k = k
names_stop t taken OutOfMemory k = tt
names_stop t taken SourceFault k = absurd k
names_stop t taken SinkFault k = absurd k
names_stop t taken CompressFault k = absurd k
names_stop t taken (BatchType x) k = absurd k
names_stop t taken NotStruct k = absurd k
names_stop t taken ManyChunks k = absurd k
names_stop t taken EmptyList k = absurd k
names_stop t taken (ZoneCut n) k = absurd k
names_stop t taken (ForbiddenAggregate id) k = absurd k
names_stop t taken (ForbiddenEncoding id) k = absurd k
names_stop t taken (TooLarge n) k = absurd k
names_stop t taken (Stopped by name) k = absurd k
