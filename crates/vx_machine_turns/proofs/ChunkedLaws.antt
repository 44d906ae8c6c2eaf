-- A chunked node's task and its children are its plan.
use Rattle.std.proofs.Common.{◌≡◌, ℕ, suc, ◌+◌, ◌≤◌, ◌<◌, inl, inr, nat_eq, Bool, true, false, List, [], ◌∷◌, length, Option, Some, None, refl, sym, ap, ◌∙◌, subst, arith}
use Rattle.std.proofs.lemmas.Bool.Decides.{nat_tests}
use Rattle.vx_model.specs.Ty.{Ty}
use Rattle.vx_path.specs.Lists.{In}
use Rattle.vx_path.proofs.Lists.{in_left}
use Rattle.vx_path.specs.Path.{Eof, eof_path, under, inside, next}
use Rattle.vx_layout_spec.specs.LayoutTree.{gathered}
use Rattle.vx_plan.specs.PlanData.{Setting, Item, Node, What, rows_in, totals, row_total, row_totals}
use Rattle.vx_plan.specs.ChunkedNode.{all_layouts, chunked_node, chunk_plans, chunked_numbers}
use Rattle.vx_machine_turns.specs.Forms.{Form, chunked_form, form_type}
use Rattle.vx_machine_turns.specs.Locals.{ChunkedNode, chunked_local}
use Rattle.vx_machine_turns.specs.Acts.{Act, gifts, shut, births, wrote, told, first_refusal, shape_in, numbers_in, indices_in, raised_in, lowered_in, gathers, or_else}
use Rattle.vx_machine_turns.specs.Starts.{start_fault, seed_of}
use Rattle.vx_machine_turns.specs.Scripts.{script, with_holds}
use Rattle.vx_machine_turns.specs.Chunked.{chunked_turn}
use Rattle.vx_machine_turns.specs.Fuels.{Fuel, spent, fuel, Enough}
use Rattle.vx_machine_turns.specs.Readings.{shaped}
use Rattle.vx_machine_turns.specs.Duties.{Duty, duty_of, seeds, Given}
use Rattle.vx_machine_turns.specs.Planned.{Meets, Fair}
use Rattle.vx_machine_turns.proofs.DutyLaws.{AllMeet, Parent, spread, first_start, first_any, AllEnded, given_on, zero_more, unraised, told_one, told_nil, none_some, most_right, most_here}

-- the children from number j on, with the eof path of the first
abbrev pub chunk_duties : Setting → ChunkedNode → ℕ → List Item → Eof → List Duty
chunk_duties s n j [] e = []
chunk_duties s n j (i ∷ is) e = duty_of s n.child n.mark (under n.name j) (i ∷ []) true (inside e) ∷ chunk_duties s n (suc j) is (next e)

module _ (s : Setting) (n : ChunkedNode) where
  abbrev pub S : ℕ → Eof → ℕ → List Item → Bool → List Act
  S j e rows items ended = script s (chunked_local n j e rows) items ended

  pub all_seeds : (j : ℕ) (e : Eof) (rows : ℕ) (items : List Item) (ended : Bool) → births (S j e rows items ended) ≡ seeds (chunk_duties s n j items e)
  all_seeds j e rows [] true = refl
  all_seeds j e rows [] false = refl
  all_seeds j e rows (i ∷ is) ended = ap (λ z. seed_of n.child n.mark (under n.name j) (inside e) ∷ z) (all_seeds (suc j) (next e) (rows + rows_in i.1) is ended)

  -- to a child before number j nothing comes
  pub early : (j : ℕ) (e : Eof) (rows : ℕ) (items : List Item) (ended : Bool) (k : ℕ) → k < j → (gifts k (S j e rows items ended) ≡ []) × (shut k (S j e rows items ended) ≡ false)
  early j e rows [] true k l = (refl, refl)
  early j e rows [] false k l = (refl, refl)
  early j e rows (i ∷ is) ended k l =
      let h = early (suc j) (next e) (rows + rows_in i.1) is ended k (omega (arith, l)) in
      let z : nat_eq j k ≡ false = grind (arith, nat_tests) in (rw z h.0, rw z h.1)

  pub all_given : (j : ℕ) (e : Eof) (rows : ℕ) (items : List Item) (ended : Bool) → Given (S j e rows items ended) j (chunk_duties s n j items e)
  all_given j e rows [] ended = tt
  all_given j e rows (i ∷ is) ended =
      let rest : List Act = S (suc j) (next e) (rows + rows_in i.1) is ended in
      let h : (gifts j rest ≡ []) × (shut j rest ≡ false) = early (suc j) (next e) (rows + rows_in i.1) is ended j (omega arith) in
      let z : nat_eq j j ≡ true = grind (arith, nat_tests) in (
        rw z (ap (λ x. i ∷ x) h.0),
        rw z refl,
        given_on (with_holds (eof_path (next e) ∷ []) (chunked_turn s n j e rows i).first) rest (suc j) (chunk_duties s n (suc j) is (next e))
            (λ k l. let x : nat_eq j k ≡ false = grind (arith, nat_tests) in (rw x refl, rw x refl)) (all_given (suc j) (next e) (rows + rows_in i.1) is ended),
      )

  record Facts (acts : List Act) : Type 0 where
    silent : wrote acts ≡ []
    raises : raised_in acts ≡ 0
    lowers : lowered_in acts ≡ 0

  facts : (j : ℕ) (e : Eof) (rows : ℕ) (items : List Item) (ended : Bool) → Facts (S j e rows items ended)
  facts j e rows [] true = record { silent = refl; raises = refl; lowers = refl }
  facts j e rows [] false = record { silent = refl; raises = refl; lowers = refl }
  facts j e rows (i ∷ is) ended = let h = facts (suc j) (next e) (rows + rows_in i.1) is ended in record { silent = h.silent; raises = zero_more h.raises; lowers = zero_more h.lowers }

  flags : (j : ℕ) (e : Eof) (rows : ℕ) (items : List Item) (ended : Bool) → first_refusal (S j e rows items ended) ≡ told (first_start (chunk_duties s n j items e)) []
  flags j e rows [] true = refl
  flags j e rows [] false = refl
  flags j e rows (i ∷ is) ended = go (start_fault s n.child n.mark) (flags (suc j) (next e) (rows + rows_in i.1) is ended)
    where
      go : (o : Option What) → first_refusal (S (suc j) (next e) (rows + rows_in i.1) is ended) ≡ told (first_start (chunk_duties s n (suc j) is (next e))) []
          → told o (first_refusal (S (suc j) (next e) (rows + rows_in i.1) is ended)) ≡ told (or_else o (first_start (chunk_duties s n (suc j) is (next e)))) []
      go None h = h
      go (Some w) h = refl

  shape : (j : ℕ) (e : Eof) (rows : ℕ) (items : List Item) → shape_in (S j e rows items true) ≡ Some (gathers n.type (rows + row_total items))
  shape j e rows [] = ap (λ z. Some (gathers n.type z)) (omega arith)
  shape j e rows (i ∷ is) = shape (suc j) (next e) (rows + rows_in i.1) is ∙ ap (λ z. Some (gathers n.type z)) (omega arith)

  counts : (j : ℕ) (e : Eof) (rows : ℕ) (items : List Item) (ended : Bool) → numbers_in (S j e rows items ended) ≡ totals rows_in rows items
  counts j e rows [] true = refl
  counts j e rows [] false = refl
  counts j e rows (i ∷ is) ended = ap (λ z. (rows + rows_in i.1) ∷ z) (counts (suc j) (next e) (rows + rows_in i.1) is ended)

  moves : (j : ℕ) (e : Eof) (rows : ℕ) (items : List Item) (ended : Bool) (x : ℕ) → In x (indices_in (S j e rows items ended)) → x ≤ e.last + length items
  moves j e rows [] true x h = absurd h
  moves j e rows [] false x h = absurd h
  moves j e rows (i ∷ is) ended x (inl q) = omega (arith, q)
  moves j e rows (i ∷ is) ended x (inr h) = let l : x ≤ (e.last + 1) + length is = moves (suc j) (next e) (rows + rows_in i.1) is ended x h in omega (arith, l)

  all_ended : (j : ℕ) (items : List Item) (e : Eof) → AllEnded (chunk_duties s n j items e)
  all_ended j [] e = tt
  all_ended j (i ∷ is) e = (refl, all_ended (suc j) is (next e))

  all_meet : (k : Node) → Fair s k n.child → (g : Ty → Fuel) → Enough (g (form_type n.child)) n.child → (j : ℕ) (items : List Item) (e : Eof) → AllMeet s g (chunk_duties s n j items e) (chunk_plans k n.mark items e)
  all_meet k h g enough j [] e = tt
  all_meet k h g enough j (i ∷ is) e = (h.fair n.mark (under n.name j) (i ∷ []) true (inside e) (g (form_type n.child)) enough, all_meet k h g enough (suc j) is (next e))

pub chunked_fair : (s : Setting) (t : Ty) (k : Node) (f : Form) → Fair s k f → Fair s (chunked_node t k) (chunked_form t f)
chunked_fair s t k f h = record { fair = go }
  where
    parent : (m : Bool) (name : List ℕ) (items : List Item) (ended : Bool) (e : Eof)
        → Parent s (duty_of s (chunked_form t f) m name items ended e) (chunk_duties s (record { name = name; mark = m; type = t; child = f }) 0 items e) (chunked_node t k m items ended e) (chunk_plans k m items e) [] (chunked_numbers items e)
    parent m name items ended e =
        let n : ChunkedNode = record { name = name; mark = m; type = t; child = f } in
        let cs : List Duty = chunk_duties s n 0 items e in
        record {
          seeds_are = all_seeds s n 0 e 0 items ended;
          given_are = all_given s n 0 e 0 items ended;
          silent = (facts s n 0 e 0 items ended).silent;
          pairs = refl;
          faults = refl;
          numbers = refl;
          reserved = unraised (facts s n 0 e 0 items ended).raises;
          flagged = λ w i. inr (first_any w cs (told_one w (first_start cs) (subst (λ z. In w z) (flags s n 0 e 0 items ended) i)));
          unflagged = λ q x. (refl, told_nil (first_start cs) (sym (flags s n 0 e 0 items ended) ∙ q));
          starts = λ w q. absurd (none_some w q);
          ends = λ q. all_ended s n 0 items e;
          shapes = λ q. shapes m name items ended e q;
          counts = λ x i. in_left x (row_totals items) ((e.last + length items) ∷ []) (subst (λ z. In x z) (counts s n 0 e 0 items ended) i);
          moves = λ x i. most_right x (row_totals items) ((e.last + length items) ∷ []) (most_here x (e.last + length items) [] (moves s n 0 e 0 items ended x i));
          places = λ x i. absurd i;
          lowers = λ q. (facts s n 0 e 0 items ended).lowers ∙ sym (facts s n 0 e 0 items ended).raises;
        }
      where
        shapes : (m : Bool) (name : List ℕ) (items : List Item) (ended : Bool) (e : Eof) → ended ≡ true
            → shaped (shape_in (S s (record { name = name; mark = m; type = t; child = f }) 0 e 0 items ended)) (all_layouts (chunk_plans k m items e)) ≡ (chunked_node t k m items ended e).layout ∷ []
        shapes m name items true e q =
            ap (λ z. shaped z (all_layouts (chunk_plans k m items e))) (shape s (record { name = name; mark = m; type = t; child = f }) 0 e 0 items) ∙ ap (λ z. gathered t z (all_layouts (chunk_plans k m items e)) ∷ []) (omega arith)
        shapes m name items false e q = cc

    go : (m : Bool) (name : List ℕ) (items : List Item) (ended : Bool) (e : Eof) (d : Fuel) → Enough d (chunked_form t f) → Meets s d (duty_of s (chunked_form t f) m name items ended e) (chunked_node t k m items ended e)
    go m name items ended e spent enough = absurd enough
    go m name items ended e (fuel g) enough =
        let n : ChunkedNode = record { name = name; mark = m; type = t; child = f } in
        spread s g (duty_of s (chunked_form t f) m name items ended e) (chunk_duties s n 0 items e) (chunked_node t k m items ended e) (chunk_plans k m items e) [] (chunked_numbers items e)
        (parent m name items ended e) (all_meet s n k h g enough 0 items e)
