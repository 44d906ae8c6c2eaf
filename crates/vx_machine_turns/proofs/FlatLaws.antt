-- A flat node's task is its plan.
use Rattle.std.proofs.Common.{◌≡◌, ℕ, ◌+◌, inl, inr, Bool, true, false, List, [], ◌∷◌, ◌++◌, length, Option, Some, None, refl, sym, ap, ap₂, ◌∙◌, subst}
use Rattle.std.proofs.lemmas.List.{append-nil}
use Rattle.vx_model.specs.Ty.{Ty}
use Rattle.vx_model.specs.ChunkData.{cells}
use Rattle.vx_model.specs.declared.encoding.EncodingId.{EncodingId}
use Rattle.vx_path.specs.Lists.{In}
use Rattle.vx_path.specs.Path.{Eof}
use Rattle.vx_strategy_spec.specs.StrategyData.{FlatOptions}
use Rattle.vx_plan.specs.PlanData.{Setting, Item, What, Fault, fault, at_chunk, many_chunks, forbidden_encoding}
use Rattle.vx_plan.specs.FlatNode.{flat_node, segment, pair_at, length_of, refused_at, refusals}
use Rattle.vx_plan.specs.Valid.{Has}
use Rattle.vx_plan.proofs.PlanLists.{nil_left}
use Rattle.vx_machine_turns.specs.Forms.{flat_form}
use Rattle.vx_machine_turns.specs.Locals.{flat_empty, flat_full, flat_many}
use Rattle.vx_machine_turns.specs.Acts.{Act, births, wrote, told, first_refusal, shape_in, numbers_in, indices_in, raised_in, lowered_in}
use Rattle.vx_machine_turns.specs.Flat.{forbidden}
use Rattle.vx_machine_turns.specs.Scripts.{script, last_block}
use Rattle.vx_machine_turns.specs.Fuels.{Fuel}
use Rattle.vx_machine_turns.specs.Readings.{Reading, shaped, pair_reading, fault_reading, layout_reading, number_reading, index_reading, start_reading, raise_reading, lower_reading}
use Rattle.vx_machine_turns.specs.Duties.{duty_of, below}
use Rattle.vx_machine_turns.specs.Planned.{Fair}
use Rattle.vx_machine_turns.proofs.DutyLaws.{below_none, zero_more, has_here, none_some}

-- actions that start nothing, move no pointer and have nothing to do with the tracker
record Plain (acts : List Act) : Type 0 where
  born : births acts ≡ []
  indices : indices_in acts ≡ []
  raises : raised_in acts ≡ 0
  lowers : lowered_in acts ≡ 0

-- and write, refuse and count nothing
record Quiet (acts : List Act) : Type 0 where
  plain : Plain acts
  silent : wrote acts ≡ []
  calm : first_refusal acts ≡ []
  numbers : numbers_in acts ≡ []

module _ (s : Setting) where
  many_quiet : (items : List Item) (ended : Bool) → Quiet (script s flat_many items ended)
  many_quiet [] true = record { plain = record { born = refl; indices = refl; raises = refl; lowers = refl }; silent = refl; calm = refl; numbers = refl }
  many_quiet [] false = record { plain = record { born = refl; indices = refl; raises = refl; lowers = refl }; silent = refl; calm = refl; numbers = refl }
  many_quiet (i ∷ is) ended =
      let h : Quiet (script s flat_many is ended) = many_quiet is ended in
      record { plain = record { born = h.plain.born; indices = h.plain.indices; raises = zero_more h.plain.raises; lowers = zero_more h.plain.lowers }; silent = h.silent; calm = h.calm; numbers = h.numbers }

module _ (s : Setting) (o : FlatOptions) (t : Ty) where
  abbrev pub S : List Item → Bool → List Act
  S items ended = script s (flat_empty o t) items ended

  end_plain : (i : Item) (b : Option (List ℕ)) → Plain (last_block s (flat_full o t i b))
  end_plain i None = record { born = refl; indices = refl; raises = refl; lowers = refl }
  end_plain i (Some bytes) = record { born = refl; indices = refl; raises = refl; lowers = refl }

  all_plain : (items : List Item) (ended : Bool) → Plain (S items ended)
  all_plain [] true = record { born = refl; indices = refl; raises = refl; lowers = refl }
  all_plain [] false = record { born = refl; indices = refl; raises = refl; lowers = refl }
  all_plain (i ∷ []) true = let h : Plain (last_block s (flat_full o t i (segment s o i))) = end_plain i (segment s o i) in record { born = h.born; indices = h.indices; raises = zero_more h.raises; lowers = zero_more h.lowers }
  all_plain (i ∷ []) false = record { born = refl; indices = refl; raises = refl; lowers = refl }
  all_plain (i ∷ j ∷ is) ended =
      let h : Plain (script s flat_many is ended) = (many_quiet s is ended).plain in
      record { born = h.born; indices = h.indices; raises = zero_more (zero_more h.raises); lowers = zero_more (zero_more h.lowers) }

  writes : (m : Bool) (items : List Item) (ended : Bool) (e : Eof) → wrote (S items ended) ≡ (flat_node s o t m items ended e).pairs
  writes m [] true e = refl
  writes m [] false e = refl
  writes m (i ∷ []) true e = go (segment s o i)
    where
      go : (b : Option (List ℕ)) → wrote (last_block s (flat_full o t i b)) ≡ pair_at i.0 b
      go None = refl
      go (Some bytes) = refl
  writes m (i ∷ []) false e = refl
  writes m (i ∷ j ∷ is) ended e = (many_quiet s is ended).silent

  -- behind one chunk nothing is refused
  refuses_one : (i : Item) (ended : Bool) → first_refusal (script s (flat_full o t i (segment s o i)) [] ended) ≡ []
  refuses_one i true = go (segment s o i)
    where
      go : (b : Option (List ℕ)) → first_refusal (last_block s (flat_full o t i b)) ≡ []
      go None = refl
      go (Some bytes) = refl
  refuses_one i false = refl

  caused : (m : Bool) (items : List Item) (ended : Bool) (e : Eof) (w : What) → In w (first_refusal (S items ended)) → Has w (flat_node s o t m items ended e).faults
  caused m [] true e w i = absurd i
  caused m [] false e w i = absurd i
  caused m (i ∷ []) ended e w h = go (s.codec.refused s.encodings i.1) (subst (λ z. In w (told (forbidden (s.codec.refused s.encodings i.1)) z)) (refuses_one i ended) h)
    where
      go : (x : Option EncodingId) → In w (told (forbidden x) []) → Has w (refused_at i.0 x)
      go None h = absurd h
      go (Some id) (inl q) = has_here w (fault (forbidden_encoding id) (at_chunk i.0)) [] q
      go (Some id) (inr h) = absurd h
  caused m (i ∷ j ∷ is) ended e w h = go (s.codec.refused s.encodings i.1) h
    where
      go : (x : Option EncodingId) → In w (told (forbidden x) (many_chunks ∷ [])) → Has w (refused_at i.0 x ++ (fault many_chunks (at_chunk j.0) ∷ []))
      go None (inl q) = has_here w (fault many_chunks (at_chunk j.0)) [] q
      go None (inr h) = absurd h
      go (Some id) (inl q) = has_here w (fault (forbidden_encoding id) (at_chunk i.0)) (fault many_chunks (at_chunk j.0) ∷ []) q
      go (Some id) (inr h) = absurd h

  cleaned : (m : Bool) (items : List Item) (ended : Bool) (e : Eof) → first_refusal (S items ended) ≡ [] → (flat_node s o t m items ended e).faults ≡ []
  cleaned m [] ended e h = refl
  cleaned m (i ∷ []) ended e h = go (s.codec.refused s.encodings i.1) (first_refusal (script s (flat_full o t i (segment s o i)) [] ended)) h
    where
      go : (x : Option EncodingId) (ws : List What) → told (forbidden x) ws ≡ [] → refused_at i.0 x ≡ []
      go None ws h = refl
      go (Some id) ws h = cc
  cleaned m (i ∷ j ∷ is) ended e h = absurd (go (s.codec.refused s.encodings i.1) h)
    where
      go : (x : Option EncodingId) → told (forbidden x) (many_chunks ∷ []) ≡ [] → ⊥
      go None h = cc
      go (Some id) h = cc

  laid : (m : Bool) (items : List Item) (e : Eof) → (flat_node s o t m items true e).faults ≡ [] → shaped (shape_in (S items true)) [] ≡ (flat_node s o t m items true e).layout ∷ []
  laid m [] e h = refl
  laid m (i ∷ []) e h = refl
  laid m (i ∷ j ∷ is) e h = absurd (go (refusals s i) h)
    where
      go : (fs : List Fault) → fs ++ (fault many_chunks (at_chunk j.0) ∷ []) ≡ [] → ⊥
      go [] h = cc
      go (f ∷ fs) h = cc

  counts : (m : Bool) (items : List Item) (ended : Bool) (e : Eof) (n : ℕ) → In n (numbers_in (S items ended)) → In n (flat_node s o t m items ended e).numbers
  counts m [] true e n i = absurd i
  counts m [] false e n i = absurd i
  counts m (i ∷ []) ended e n h = go ended (segment s o i) h
    where
      go : (b : Bool) (x : Option (List ℕ)) → In n (length (cells i.1) ∷ (length_of x ++ numbers_in (script s (flat_full o t i x) [] b))) → In n (length (cells i.1) ∷ length_of x)
      go true None h = h
      go true (Some x) h = h
      go false None h = h
      go false (Some x) h = h
  counts m (i ∷ j ∷ is) ended e n h = go (segment s o i) (numbers_in (script s flat_many is ended)) (many_quiet s is ended).numbers h
    where
      go : (x : Option (List ℕ)) (ns : List ℕ) → ns ≡ [] → In n (length (cells i.1) ∷ (length_of x ++ ns)) → In n (length (cells i.1) ∷ length_of x)
      go x ns q h = subst (λ z. In n (length (cells i.1) ∷ z)) (ap (λ z. length_of x ++ z) q ∙ append-nil (length_of x)) h

  reserves : (m : Bool) (items : List Item) (ended : Bool) (e : Eof) → (flat_node s o t m items ended e).reserved ≡ 0
  reserves m [] ended e = refl
  reserves m (i ∷ []) ended e = refl
  reserves m (i ∷ j ∷ is) ended e = refl

  -- a flat node has no children
  pub flat_births : (items : List Item) (ended : Bool) → births (S items ended) ≡ []
  flat_births items ended = (all_plain items ended).born

  pub flat_fair : Fair s (flat_node s o t) (flat_form o t)
  flat_fair = record {
    fair = λ m name items ended e d enough. record {
      pairs = alone m name items ended e d pair_reading (wrote (S items ended)) refl ∙ writes m items ended e;
      cause = λ w i. caused m items ended e w (subst (λ z. In w z) (alone m name items ended e d fault_reading (first_refusal (S items ended)) refl) i);
      clean = λ h q. cleaned m items ended e (nil_left (first_refusal (S items ended)) (below s fault_reading d (duty_of s (flat_form o t) m name items ended e)) h);
      begins = λ w q. absurd (none_some w q);
      layout = λ h q. ap (λ z. shaped (shape_in (S items ended)) z) (none layout_reading m name items ended e d) ∙ ended_laid m items ended e h q;
      numbers = λ n i. counts m items ended e n (subst (λ z. In n z) (alone m name items ended e d number_reading (numbers_in (S items ended)) refl) i);
      indices = λ n i. absurd (subst (λ z. In n z) (alone m name items ended e d index_reading (indices_in (S items ended)) refl ∙ (all_plain items ended).indices) i);
      starts = λ n i. absurd (subst (λ z. In n z) (none start_reading m name items ended e d) i);
      raises = ap₂ (λ y z. y + z) (all_plain items ended).raises (none raise_reading m name items ended e d) ∙ sym (reserves m items ended e);
      lowers = λ h. ap₂ (λ y z. y + z) (all_plain items ended).lowers (none lower_reading m name items ended e d) ∙ sym (reserves m items ended e);
    };
  }
    where
      none : {F : Type 0} (v : Reading F) (m : Bool) (name : List ℕ) (items : List Item) (ended : Bool) (e : Eof) (d : Fuel) → below s v d (duty_of s (flat_form o t) m name items ended e) ≡ v.none
      none v m name items ended e d = below_none s v d (duty_of s (flat_form o t) m name items ended e) (all_plain items ended).born

      alone : {A : Type 0} (m : Bool) (name : List ℕ) (items : List Item) (ended : Bool) (e : Eof) (d : Fuel) (v : Reading (List A)) (xs : List A) → v.none ≡ [] → xs ++ below s v d (duty_of s (flat_form o t) m name items ended e) ≡ xs
      alone m name items ended e d v xs q = ap (λ z. xs ++ z) (none v m name items ended e d ∙ q) ∙ append-nil xs

      ended_laid : (m : Bool) (items : List Item) (ended : Bool) (e : Eof) → ended ≡ true → (flat_node s o t m items ended e).faults ≡ []
          → shaped (shape_in (S items ended)) [] ≡ (flat_node s o t m items ended e).layout ∷ []
      ended_laid m items true e h q = laid m items e q
      ended_laid m items false e h q = cc
