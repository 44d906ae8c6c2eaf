-- What leaves a node that regroups at the newest chunk, and why its rule can't act on it.
use Rattle.std.proofs.Common.{◌≡◌, ◌↔◌, ℕ, ◌+◌, ◌<◌, ◌^◌, not, Bool, true, false, List, [], ◌∷◌, ◌++◌, map, length, Option, Some, None, Result, Ok, Err, OnOk, refl, sym, ap, subst, ◌∙◌, arith, append-nil}
use Rattle.std.proofs.lemmas.Bool.{true≢false}
use Rattle.vx_model.specs.Ty.{Ty, ty_eq}
use Rattle.vx_model.specs.TyLaws.{ty_eq_decides}
use Rattle.vx_model.specs.ChunkData.{ChunkData, piece_type, held}
use Rattle.vx_model.specs.Words.{total_by}
use Rattle.vx_chunk.specs.declared.error.ChunkError.{ChunkError}
use Rattle.vx_rules.specs.Regroup.{ranked}
use Rattle.vx_rules.specs.Flushes.{flushes, concatenated}
use Rattle.vx_regroup.specs.Held.{RowsHeld, ChunksHeld, AllHeld}
use Rattle.vx_regroup.specs.Refusals.{first_past, Refuses}
use Rattle.vx_regroup.specs.Rules.{tested_at, weights, row_count}
use Rattle.vx_regroup.specs.Regrouping.{Takes, given_by, after, numbers_at}
use Rattle.vx_regroup.specs.declared.regroup.Regroup.{Regroup}
use Rattle.vx_regroup.specs.declared.regroup.Regroup.TheVariants.{Repartition, Buffered, Collect}
use Rattle.vx_machine_state.specs.State.{Next, hand_on}
use Rattle.vx_machine_state.specs.Acts.{hand_all}
use Rattle.vx_machine_node.specs.declared.item.Item.{Item}
use Rattle.vx_machine_node.specs.Outcome.{AllFit}
use Rattle.vx_machine_node.specs.Regrouped.{is_of, misfits, is_collection, sizes_of, chunks_held, sizes_in, rows_counted, numbers_of, Left, rest_hands, RestFits}
use Rattle.vx_machine_node.specs.Sizes.{sum_of}
use Rattle.vx_machine_node.proofs.Fitting.{none_fit, then_fit, one_fits}
use Rattle.vx_machine_nodes.proofs.GroupNumbers.{past_none, fit_none, none_refuses}
use Rattle.vx_machine_node.proofs.GroupSizes.{held_sum, held_push, sizes_apart}
use Rattle.vx_machine_nodes.proofs.SplitSteps.{misfit_told}

-- ---- what the rule may be given

not_false : (b : Bool) → not b ≡ false → b ≡ true
not_false true h = refl
not_false false h = absurd (true≢false h)

pub takes_fitting : (r : Regroup) (c : ChunkData) → misfits r c ≡ false → Takes r c
takes_fitting (Repartition h) c m = (ty_eq_decides (piece_type c) h.typed).0 (not_false (ty_eq (piece_type c) h.typed) m)
takes_fitting (Buffered h) c m = tt
takes_fitting (Collect h) c m = (ty_eq_decides (piece_type c) h.typed).0 (not_false (ty_eq (piece_type c) h.typed) m)

-- a chunk's type is tested against the one that the rule has, of whichever kind it is

pub misfit_rows : (r : Regroup) (h : RowsHeld) (t : Ty) (c : ChunkData) (b : Bool) → r ≡ Repartition h → is_of r t ≡ true → ((b ≡ true) ↔ (piece_type c ≡ t)) → not b ≡ misfits r c
misfit_rows r h t c b e typed w = misfit_told (piece_type c) t h.typed b w (ap (λ z. is_of z t) (sym e) ∙ typed) ∙ ap (λ z. misfits z c) (sym e)

pub misfit_all : (r : Regroup) (h : AllHeld) (t : Ty) (c : ChunkData) (b : Bool) → r ≡ Collect h → is_of r t ≡ true → ((b ≡ true) ↔ (piece_type c ≡ t)) → not b ≡ misfits r c
misfit_all r h t c b e typed w = misfit_told (piece_type c) t h.typed b w (ap (λ z. is_of z t) (sym e) ∙ typed) ∙ ap (λ z. misfits z c) (sym e)

-- ---- acts on the newest chunk

module _ (j : Item) (next : Regroup) (chunks : List ChunkData) (had has : List ℕ) (todo before : List Next) (few : length chunks < 2 ^ 64)
    (weighed : (rest : List ℕ) → had ≡ map held chunks ++ rest → (has ≡ rest) × (todo ≡ hand_all held (ranked j.id 0 chunks) ++ before))
    (unweighed : had ≡ [] → (has ≡ []) × (todo ≡ hand_all (λ c. 0) (ranked j.id 0 chunks) ++ before)) where
  pub acted_on : (r : Regroup) → chunks ≡ given_by r j.chunk false → next ≡ after r j.chunk → first_past (numbers_at r j.chunk false) ≡ None → had ≡ sizes_in r (Some j) → Left r j next has todo before
  acted_on (Repartition h) g n f e =
      let u = unweighed e in
      record {
        next_is = n;
        sizes = u.0 ∙ ap (λ x. sizes_of x (chunks_held x)) (sym n);
        todo_is = u.1 ∙ ap (λ z. hand_all (λ c. 0) (ranked j.id 0 z) ++ before) g;
        numbers = past_none (tested_at h j.chunk) f;
        count = subst (λ z. length z < 2 ^ 64) g few;
      }
  acted_on (Buffered h) g n f e =
      let stays : List ChunkData = (flushes h.size).holds h.chunks j.chunk in
      let w = weighed (map held stays) (e ∙ sizes_apart h.size h.chunks j.chunk ∙ ap (λ z. map held z ++ map held stays) (sym g)) in
      record {
        next_is = n;
        sizes = w.0 ∙ ap (λ x. sizes_of x (chunks_held x)) (sym n);
        todo_is = w.1 ∙ ap (λ z. hand_all held (ranked j.id 0 z) ++ before) g;
        numbers = none_fit;
        count = subst (λ z. length z < 2 ^ 64) g few;
      }
  acted_on (Collect h) g n f e =
      let u = unweighed e in
      record {
        next_is = n;
        sizes = u.0 ∙ ap (λ x. sizes_of x (chunks_held x)) (sym n);
        todo_is = u.1 ∙ ap (λ z. hand_all (λ c. 0) (ranked j.id 0 z) ++ before) g;
        numbers = none_fit;
        count = subst (λ z. length z < 2 ^ 64) g few;
      }

  -- at the end
  pub rest_handed : (r : Regroup) → is_collection r ≡ false → chunks ≡ given_by r j.chunk true → had ≡ sizes_in r (Some j) → (has ≡ []) × (todo ≡ rest_hands r (Some j) ++ before)
  rest_handed (Repartition h) k g e = let u = unweighed e in (u.0, u.1 ∙ ap (λ z. hand_all (λ c. 0) (ranked j.id 0 z) ++ before) g)
  rest_handed (Buffered h) k g e =
      let w = weighed [] (e ∙ ap (map held) (sym g) ∙ sym (append-nil (map held chunks))) in
      (w.0, w.1 ∙ ap (λ z. hand_all held (ranked j.id 0 z) ++ before) g)
  rest_handed (Collect h) k g e = absurd (true≢false k)

-- a buffer's sizes fit where what is reserved does
weights_fit : (h : ChunksHeld) (c : ChunkData) → sum_of (map held (h.chunks ++ (c ∷ []))) < 2 ^ 64 → AllFit (weights h.size h.chunks c)
weights_fit h c few =
    let t : total_by held (h.chunks ++ (c ∷ [])) ≡ sum_of (map held (h.chunks ++ (c ∷ []))) = held_sum (h.chunks ++ (c ∷ [])) in
    let p : total_by held (h.chunks ++ (c ∷ [])) ≡ sum_of (map held h.chunks) + held c = held_push h.chunks c in
    then_fit (held c) (total_by held (h.chunks ++ (c ∷ [])) ∷ []) (omega (arith, t, p, few)) (one_fits (total_by held (h.chunks ++ (c ∷ []))) (omega (arith, t, few)))

-- The rule refuses the newest chunk by its own numbers alone. A property of the error that follows from these is told.

pub acted_cause : (P : List ℕ → Type 0) (r : Regroup) (j : Item) (e : ChunkError) → Refuses (first_past (numbers_at r j.chunk false)) e → sum_of (sizes_in r (Some j)) < 2 ^ 64
    → ((ns : List ℕ) → Refuses (first_past ns) e → P ns) → P (numbers_of r j.chunk)
acted_cause P (Repartition h) j e f few k = k (tested_at h j.chunk) f
acted_cause P (Buffered h) j e f few k = k [] (none_refuses (weights h.size h.chunks j.chunk) e (fit_none (weights h.size h.chunks j.chunk) (weights_fit h j.chunk few)) f)
acted_cause P (Collect h) j e f few k = k [] f

pub rest_cause : (P : List ℕ → Type 0) (r : Regroup) (j : Item) (rows : ℕ) (e : ChunkError) → Refuses (first_past (numbers_at r j.chunk true)) e → rows_counted r (Some j) rows ≡ rows → rows < 2 ^ 64
    → ((ns : List ℕ) → Refuses (first_past ns) e → P ns) → P (numbers_of r j.chunk)
rest_cause P (Repartition h) j rows e f c few k = k (tested_at h j.chunk) f
rest_cause P (Buffered h) j rows e f c few k = k [] f
rest_cause P (Collect h) j rows e f c few k =
    let ns : List ℕ = row_count (h.chunks ++ (j.chunk ∷ [])) ∷ [] in
    k [] (none_refuses ns e (fit_none ns (one_fits (row_count (h.chunks ++ (j.chunk ∷ []))) (subst (λ n. n < 2 ^ 64) (sym c) few))) f)

-- ---- what is left at the end

pub rest_fits : (r : Regroup) (j : Item) (chunks : List ChunkData) → chunks ≡ given_by r j.chunk true → first_past (numbers_at r j.chunk true) ≡ None → length chunks < 2 ^ 64 → RestFits r (Some j)
rest_fits (Repartition h) j chunks g f few = (past_none (tested_at h j.chunk) f, subst (λ z. length z < 2 ^ 64) g few)
rest_fits (Buffered h) j chunks g f few = (none_fit, subst (λ z. length z < 2 ^ 64) g few)
rest_fits (Collect h) j chunks g f few = (none_fit, subst (λ z. length z < 2 ^ 64) g few)

-- a collection gives one chunk, for which nothing is reserved

pub whole_one : (r : Regroup) (c : ChunkData) (chunks : List ChunkData) → is_collection r ≡ true → chunks ≡ given_by r c true → length chunks ≡ 1
whole_one (Repartition h) c chunks k g = absurd (true≢false (sym k))
whole_one (Buffered h) c chunks k g = absurd (true≢false (sym k))
whole_one (Collect h) c chunks k g = ap length g

pub whole_unreserved : (r : Regroup) (j : Option Item) → is_collection r ≡ true → sizes_in r j ≡ []
whole_unreserved (Repartition h) j k = absurd (true≢false (sym k))
whole_unreserved (Buffered h) j k = absurd (true≢false (sym k))
whole_unreserved (Collect h) j k = refl

pub whole_handed : (r : Regroup) (j : Item) (chunks : List ChunkData) (todo before : List Next) → is_collection r ≡ true → chunks ≡ given_by r j.chunk true
    → ((c : ChunkData) → chunks ≡ c ∷ [] → todo ≡ hand_on 0 (j.id, c) ∷ before) → todo ≡ rest_hands r (Some j) ++ before
whole_handed (Repartition h) j chunks todo before k g d = absurd (true≢false (sym k))
whole_handed (Buffered h) j chunks todo before k g d = absurd (true≢false (sym k))
whole_handed (Collect h) j chunks todo before k g d = d (concatenated h.typed (h.chunks ++ (j.chunk ∷ []))) g

-- of an answer with three facts
pub all_ok : {A E P Q R S : Type 0} (r : Result A E) → (P → Q → R → S) → OnOk r P → OnOk r Q → OnOk r R → OnOk r S
all_ok (Ok x) f p q s = f p q s
all_ok (Err e) f p q s = tt
