-- Refusals that say more, as those that say less.
use Rattle.std.proofs.Common.{◌≡◌, ◌+◌, ◌^◌, ◌≤◌, ℕ, suc, Bool, true, false, List, [], ◌∷◌, Option, Some, None, Result, IfErr, refl, sym, subst, inl, inr, ⊎_elim, arith}
use Rattle.std.proofs.lemmas.Result.{IfErr-weaker}
use Rattle.std.proofs.lemmas.Bool.{true≢false}
use Rattle.vx_path.specs.Lists.{In}
use Rattle.vx_path.proofs.Lists.{in_left}
use Rattle.vx_plan.specs.PlanData.{Pair, What, not_struct, duplicate_field, many_chunks, empty_list, zone_cut, forbidden_aggregate, forbidden_encoding}
use Rattle.vx_write_answer.specs.declared.error.WriteError.{WriteError}
use Rattle.vx_write_answer.specs.declared.error.WriteError.TheVariants.{SourceFault, SinkFault, CompressFault, BatchType, NotStruct, DuplicateField, ManyChunks, EmptyList, ZoneCut, ForbiddenAggregate, ForbiddenEncoding, TooLarge, OutOfMemory, Stopped}
use Rattle.vx_order.specs.Outlet.{Outlet}
use Rattle.vx_order.specs.Answers.{IsPast, IsShared}
use Rattle.vx_machine_state.specs.Acts.{Did}
use Rattle.vx_machine_nodes.specs.Acting.{ActRefused, ActStopped, TakeRefused, TakeStopped, JoinRefused, SplitRefused, ListRefused}
use Rattle.vx_machine_node.specs.Causes.{MayCome}
use Rattle.vx_machine_node.specs.Outcome.{Past, Refused, none_past}

-- where this is appended, and so many rows are joined
module _ (w : List Pair) (hs : List ℕ) (r q : Option What) (b c : Bool) (ns ms is js : List ℕ) (past late : ℕ → Type 0) (stopped halted : Type 0)
    (word : (x : What) → r ≡ Some x → q ≡ Some x) (misfit : b ≡ true → c ≡ true) (numbers : (n : ℕ) → In n ns → In n ms) (indices : (n : ℕ) → In n is → In n js)
    (later : (n : ℕ) → past n → late n) (halts : stopped → halted) where
  past_wider : (n : ℕ) → Past ns is n → Past ms js n
  past_wider n h = ⊎_elim (λ x. inl (numbers n x.0, x.1)) (λ x. inr (x.0, indices x.0 x.1, x.2, x.3)) h

  pub wider : (e : WriteError) → Refused r b ns is w past stopped hs e → Refused q c ms js w late halted hs e
  wider SourceFault h = h
  wider SinkFault h = h
  wider CompressFault h = h
  wider (BatchType a) h = misfit h
  wider NotStruct h = word not_struct h
  wider (DuplicateField a) h = word (duplicate_field a) h
  wider ManyChunks h = word many_chunks h
  wider EmptyList h = word empty_list h
  wider (ZoneCut n) h = word (zone_cut n) h
  wider (ForbiddenAggregate id) h = word (forbidden_aggregate id) h
  wider (ForbiddenEncoding id) h = word (forbidden_encoding id) h
  wider (TooLarge n) h = ⊎_elim (λ x. inl (past_wider n x)) (λ x. inr (⊎_elim (λ y. inl (y.0, later n y.1)) (λ y. inr y) x)) h
  wider OutOfMemory h = h
  wider (Stopped by name) h = (h.0, halts h.1)

no_word : (q : Option What) (x : What) → None ≡ Some x → q ≡ Some x
no_word q x h = cc

pub not_in : (ms : List ℕ) (n : ℕ) → In n [] → In n ms
not_in ms n h = absurd h

-- whatever numbers of segments don't fit
pub any_past : (r : Option What) (b : Bool) (ns is : List ℕ) (w : List Pair) (past : ℕ → Type 0) (stopped : Type 0) (hs : List ℕ) (e : WriteError) → Refused r b ns is w none_past ⊥ hs e → Refused r b ns is w past stopped hs e
any_past r b ns is w past stopped hs = wider w hs r r b b ns ns is is none_past past ⊥ stopped (λ x h. h) (λ h. h) (λ n h. h) (λ n h. h) (λ n h. absurd h) (λ h. absurd h)

-- by a word, whatever is counted
pub by_word : (r : Option What) (ns is : List ℕ) (e : WriteError) → Refused r false [] [] [] none_past ⊥ [] e → Refused r false ns is [] none_past ⊥ [] e
by_word r ns is = wider [] [] r r false false [] ns [] is none_past none_past ⊥ ⊥ (λ x h. h) (λ h. h) (not_in ns) (not_in is) (λ n h. h) (λ h. h)

-- by a split, whatever else there is
pub by_split : (b : Bool) (rows : ℕ) (is : List ℕ) (e : WriteError) → SplitRefused b rows e → Refused None b (rows ∷ []) is [] none_past ⊥ [] e
by_split b rows is = wider [] [] None None b b (rows ∷ []) (rows ∷ []) [] is none_past none_past ⊥ ⊥ (λ x h. h) (λ h. h) (λ n h. h) (not_in is) (λ n h. h) (λ h. h)

-- by its rows alone
pub by_rows : (q : Option What) (c : Bool) (rows : ℕ) (is : List ℕ) (e : WriteError) → SplitRefused false rows e → Refused q c (rows ∷ []) is [] none_past ⊥ [] e
by_rows q c rows is = wider [] [] None q false c (rows ∷ []) (rows ∷ []) [] is none_past none_past ⊥ ⊥ (no_word q) (λ h. absurd (true≢false (sym h))) (λ n h. h) (not_in is) (λ n h. h) (λ h. h)

-- by one of the numbers of lists
pub by_one : (n : ℕ) (ns : List ℕ) (e : WriteError) → In n ns → SplitRefused false n e → ListRefused false ns e
by_one n ns e i = wider [] [] None None false false (n ∷ []) ns [] [] none_past none_past ⊥ ⊥ (λ x h. h) (λ h. h) (λ m k. ⊎_elim (λ z. subst (λ x. In x ns) (sym z) i) (λ z. absurd z) k) (λ n h. h) (λ n h. h) (λ h. h) e

-- by the rows of lists, or the offsets' rows
pub by_offsets : (b : Bool) (rows elements : ℕ) (e : WriteError) → ListRefused false (rows ∷ suc rows ∷ []) e → ListRefused b (rows ∷ suc rows ∷ elements ∷ []) e
by_offsets b rows elements = wider [] [] None None false b (rows ∷ suc rows ∷ []) (rows ∷ suc rows ∷ elements ∷ []) [] [] none_past none_past ⊥ ⊥ (λ x h. h) (λ h. absurd (true≢false (sym h)))
    (λ m i. in_left m (rows ∷ suc rows ∷ []) (elements ∷ []) i) (λ n h. h) (λ n h. h) (λ h. h)

-- by their elements
pub by_elements : (b : Bool) (rows more elements : ℕ) (e : WriteError) → ListRefused false (elements ∷ []) e → ListRefused b (rows ∷ more ∷ elements ∷ []) e
by_elements b rows more elements = wider [] [] None None false b (elements ∷ []) (rows ∷ more ∷ elements ∷ []) [] [] none_past none_past ⊥ ⊥ (λ x h. h) (λ h. absurd (true≢false (sym h)))
    (λ m i. inr (inr i)) (λ n h. h) (λ n h. h) (λ h. h)

-- by a split of lists, whatever pointers there are
pub by_lists : (b c : Bool) (ns is : List ℕ) (e : WriteError) → (b ≡ true → c ≡ true) → ListRefused b ns e → Refused None c ns is [] none_past ⊥ [] e
by_lists b c ns is e misfit = wider [] [] None None b c ns ns [] is none_past none_past ⊥ ⊥ (λ x h. h) misfit (λ n h. h) (not_in is) (λ n h. h) (λ h. h) e

-- memory may run out
pub memory_only : {A : Type 0} (P : WriteError → Type 0) (r : Result A WriteError) → P OutOfMemory → IfErr r (λ e. e ≡ OutOfMemory) → IfErr r P
memory_only P r p h = IfErr-weaker r (λ e. e ≡ OutOfMemory) P (λ e k. subst P (sym k) p) h

-- no layouts have no rows
pub none_joined : (e : WriteError) → MayCome e → JoinRefused (0 ∷ []) e → e ≡ OutOfMemory
none_joined SourceFault m h = absurd m
none_joined SinkFault m h = absurd m
none_joined CompressFault m h = absurd m
none_joined (BatchType c) m h = absurd (true≢false (sym h))
none_joined NotStruct m h = cc
none_joined (DuplicateField name) m h = cc
none_joined ManyChunks m h = cc
none_joined EmptyList m h = cc
none_joined (ZoneCut n) m h = cc
none_joined (ForbiddenAggregate id) m h = cc
none_joined (ForbiddenEncoding id) m h = cc
none_joined (TooLarge n) m h = ⊎_elim (λ x. ⊎_elim (λ y. absurd y.0) (λ y. absurd y.1) x) (λ x. ⊎_elim (λ y. absurd y.1) (λ y. ⊎_elim (λ z. absurd (omega (arith, z, y.1))) (λ z. absurd z) y.0) x) h
none_joined OutOfMemory m h = refl
none_joined (Stopped by name) m h = absurd m

-- also where the tracker is asked
pub take_stops : (counts : ℕ) (w : Did) (e : WriteError) → TakeRefused w e → TakeStopped counts w e
take_stops counts w e = wider w.wrote w.joined w.refusal w.refusal w.misfit w.misfit w.numbers ((counts + w.raises) ∷ w.numbers) w.indices w.indices none_past none_past ⊥ ⊥ (λ x h. h) (λ h. h) (λ n i. inr i) (λ n h. h) (λ n h. h) (λ h. h) e

pub act_stops : (counts : ℕ) (w : Did) (o : Outlet) (e : WriteError) → ActRefused w o e → ActStopped counts w o e
act_stops counts w o e = wider w.wrote w.joined w.refusal w.refusal w.misfit w.misfit w.numbers ((counts + w.raises) ∷ w.numbers) w.indices w.indices (IsPast o) (IsPast o) (IsShared o) (IsShared o) (λ x h. h) (λ h. h) (λ n i. inr i) (λ n h. h) (λ n h. h) (λ h. h) e
