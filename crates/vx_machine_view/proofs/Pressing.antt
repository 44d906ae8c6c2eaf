-- What a task can do that compresses, or hands each chunk on as it is, is what the abstract one can.
use Rattle.std.proofs.Common.{◌≡◌, ◌+◌, ◌∷◌, ◌++◌, ◌∙◌, ℕ, suc, Bool, true, false, List, refl, sym, ap, subst, arith, get_or, Some, None, []}
use Rattle.vx_model.specs.Ty.{Ty}
use Rattle.vx_tasks.specs.Task.Prompt.{Call}
use Rattle.vx_tasks.specs.Task.{Free, Take, TakeEnd}
use Rattle.vx_plan.specs.PlanData.{Setting, Item, row_total, rows_in}
use Rattle.vx_machine_turns.specs.Locals.{CompressedNode, Local, compressed_local, outlet_local, fallback_local}
use Rattle.vx_machine_turns.specs.Acts.{Seed, Act, passes, does, put_item, close_queues, ends_as, shape_in}
use Rattle.vx_machine_turns.specs.Grouped.{weighed_puts}
use Rattle.vx_machine_turns.specs.Scripts.{as_kind, with_holds, all_uses, filled}
use Rattle.vx_machine_turns.specs.Fuels.{Fuel, less}
use Rattle.vx_machine_steps.specs.Tree.{Head, Tree, Work, feed}
use Rattle.vx_machine_steps.specs.Moves.{doing, take_first, move_own}
use Rattle.vx_machine_state.specs.State.{Next, press, shut_kids, Mind, by_image, as_is, passing, Desk, Tasks, task_then}
use Rattle.vx_machine_state.specs.Acts.{give, now, done_as, hand_all, pass_on}
use Rattle.vx_machine_state.specs.Moves.{own_step}
use Rattle.vx_machine_state.specs.Images.{Careful}
use Rattle.vx_machine_state.specs.Typed.{Typed, AllTyped}
use Rattle.vx_machine_view.specs.Shows.{Groups, Stage, presses, pressed, lets_out, falls_back, passes_on, Shows, rows_of, types_of, local_rows, shape_rows}
use Rattle.vx_machine_view.specs.Steps.{AllPairs, SameStep}
use Rattle.vx_machine_view.proofs.Words.{shape_last}
use Rattle.vx_machine_view.proofs.Feeding.{opened_none, Leaves, feed_none, feed_types}
use Rattle.vx_machine_view.proofs.Acting.{desk, head, Own, then_open, then_same, still}
use Rattle.vx_machine_view.proofs.Grouping.{hand_own}

module _ (s : Setting) (number : List ℕ → ℕ) (segment_number : ℕ) (all : List (List ℕ)) (d : Fuel) (q0 : Seed) (j0 : ℕ) (q : Seed) (places : ℕ) (ks more : Tasks) (hs r : Tree) (past : List Act)
    (law : Careful s) (pl : places ≡ 1 + get_or q0.spare j0 0) (sm : Shows s number d q0 (suc j0) more r) (kids : Shows s number (less d q.type) q 0 ks hs) where
  abbrev own_desk : Mind → List Next → List Item → Bool → Desk
  own_desk mind left xs closed = desk s number segment_number all d q0 j0 q places ks more hs r past mind left xs closed

  abbrev own_head : List Act → List Act → Local → Bool → List Item → Bool → Head
  own_head done todo l over xs closed = head s number segment_number all d q0 j0 q places ks more hs r past done todo l over xs closed

  -- what it gives leaves its rows as they are
  abbrev Flows : Local → Type 0
  Flows l = (n : ℕ) → local_rows l n ≡ n

  groups : (deep : Tree) (m : Mind) (l : Local) (t : Ty) (outs : List Item) (done : List Act) → q.type ≡ t → types_of deep ≡ t ∷ [] → AllTyped t outs → shape_in done ≡ None
      → Groups m (hand_all (λ p. 0) outs) q done (filled [] (weighed_puts (λ p. 0) outs)) l false deep m l t (λ p. 0) [] outs
  groups deep m l t outs done is_type one to un = record { mind_is = refl; local_is = refl; left_is = refl; rest = refl; on = refl; unshaped = un; type_is = is_type; kids = one; typed = to }

  -- it takes the end
  abbrev Shuts : Mind → Local → Type 0
  Shuts m l =
      let c : Desk = own_desk m [] [] true in
      let h : Head = own_head past [] l false [] true in
      AllPairs (SameStep s number segment_number d q0 j0 (task_then c ks more) (Work h hs r)) (own_step c more (pass_on [] c ks) ∷ [])
      (move_own all d h hs r (Some (doing h (with_holds [] (as_kind TakeEnd (ends_as passes))) (close_queues (0 ∷ []) ∷ []) l true [])))

  end_own : (m : Mind) (l : Local) (t : Ty) → Flows l → types_of hs ≡ t ∷ [] → shape_in past ≡ None → Shuts m l
  end_own m l t flows one un =
      let a : Act = with_holds [] (as_kind TakeEnd (ends_as passes)) in
      let todo : List Act = close_queues (0 ∷ []) ∷ [] in
      let none : Leaves a 0 = record { gives = λ k i. refl; shuts = λ k i. refl; starts = refl } in
      let sh : shape_in (past ++ (a ∷ [])) ≡ Some passes = shape_last past a un in
      let sent : ℕ = 0 + rows_of (feed (less d q.type) a 0 hs) in
      let e1 : shape_rows (shape_in (past ++ (a ∷ []))) sent ≡ sent = ap (λ z. shape_rows z sent) sh in
      let e2 : local_rows l (0 + rows_of hs) ≡ 0 + rows_of hs = flows (0 + rows_of hs) in
      let e3 : rows_of (feed (less d q.type) a 0 hs) ≡ rows_of hs = ap rows_of (feed_none (less d q.type) a 0 hs none) in
      let e4 : shape_rows (shape_in (past ++ (a ∷ []))) sent + 0 ≡ local_rows l (0 + rows_of hs) + 0 = omega (arith, e1, e2, e3) in (
        record {
          name = refl;
          kind = refl;
          refusal = refl;
          misfit = refl;
          numbers = refl;
          indices = sym (opened_none (less d q.type));
          wrote = refl;
          raises = refl;
          lowers = refl;
          after = λ f k. (
            then_open s number segment_number all d q0 j0 q places ks more hs r past passing (shut_kids ∷ []) ks a todo l true [] true pl sm tt
                (passes_on t (λ p. 0) [] (feed_types (less d q.type) a 0 hs refl ∙ one) tt (record { mind_is = refl; left_is = refl; rest = refl; off = refl; shape_is = sh }))
                (still s number segment_number all d q0 j0 q places ks more hs r past law pl sm kids a none),
            then_same s number segment_number all d q0 j0 q places ks more hs r past (own_desk m [] [] true) passing (shut_kids ∷ []) ks (own_head past [] l false [] true) a todo l true [] true e4 refl,
          );
        },
        tt,
      )

  -- ---- a compressing node

  -- it calls the compressor for a chunk
  pub press_own : (n : CompressedNode) (t : Ty) (i : Item) → Typed t i.1 → q.type ≡ t → types_of hs ≡ t ∷ [] → shape_in past ≡ None → (xs : List Item) (closed : Bool) → AllTyped q.type xs
      → Own s number segment_number all d q0 j0 q places ks more hs r past (by_image n.which) (press n.which i ∷ []) (filled [] (does (Free Call) ∷ put_item 0 (i.0, s.image n.which i.1) ∷ [])) (compressed_local n) false xs closed
  press_own n t i ti is_type one un xs closed ty =
      let out : Item = (i.0, s.image n.which i.1) in
      let m : Mind = by_image n.which in
      let l : Local = compressed_local n in
      let a : Act = with_holds (i.0 ∷ []) (does (Free Call)) in
      let todo : List Act = filled [] (put_item 0 out ∷ []) in
      let none : Leaves a 0 = record { gives = λ k i. refl; shuts = λ k i. refl; starts = refl } in
      let e1 : rows_of (feed (less d q.type) a 0 hs) ≡ rows_of hs = ap rows_of (feed_none (less d q.type) a 0 hs none) in (
        record {
          name = refl;
          kind = refl;
          refusal = refl;
          misfit = refl;
          numbers = refl;
          indices = sym (opened_none (less d q.type));
          wrote = refl;
          raises = refl;
          lowers = refl;
          after = λ f k. (
            then_open s number segment_number all d q0 j0 q places ks more hs r past m (hand_all (λ p. 0) (out ∷ [])) ks a todo l false xs closed pl sm ty
                (pressed n t (out ∷ []) (groups (feed (less d q.type) a 0 hs) m l t (out ∷ []) (past ++ (a ∷ [])) is_type (feed_types (less d q.type) a 0 hs refl ∙ one) (law.image_type n.which t i.1 ti, tt) (shape_last past a un)))
                (still s number segment_number all d q0 j0 q places ks more hs r past law pl sm kids a none),
            then_same s number segment_number all d q0 j0 q places ks more hs r past (own_desk m (press n.which i ∷ []) xs closed) m (hand_all (λ p. 0) (out ∷ [])) ks (own_head past (a ∷ todo) l false xs closed) a todo l false xs closed
                (ap (λ z. ((rows_in out.1 + 0) + z) + row_total xs) e1) refl,
          );
        },
        tt,
      )

  press_idle : (n : CompressedNode) (t : Ty) → q.type ≡ t → types_of hs ≡ t ∷ [] → shape_in past ≡ None → (xs : List Item) (closed : Bool) → AllTyped q.type xs
      → Own s number segment_number all d q0 j0 q places ks more hs r past (by_image n.which) [] [] (compressed_local n) false xs closed
  press_idle n t is_type one un [] false ty = tt
  press_idle n t is_type one un [] true ty = end_own (by_image n.which) (compressed_local n) t (λ u. refl) one un
  press_idle n t is_type one un (i ∷ xs) closed ty =
      let out : Item = (i.0, s.image n.which i.1) in
      let m : Mind = by_image n.which in
      let l : Local = compressed_local n in
      let a : Act = take_first s l i in
      let todo : List Act = filled [] (does (Free Call) ∷ put_item 0 out ∷ []) in
      let none : Leaves a 0 = record { gives = λ k i. refl; shuts = λ k i. refl; starts = refl } in
      let e1 : rows_of (feed (less d q.type) a 0 hs) ≡ rows_of hs = ap rows_of (feed_none (less d q.type) a 0 hs none) in
      let e2 : rows_in out.1 ≡ rows_in i.1 = law.image_rows n.which i.1 in
      let e3 : ((rows_in out.1 + 0) + rows_of (feed (less d q.type) a 0 hs)) + row_total xs ≡ (0 + rows_of hs) + (rows_in i.1 + row_total xs) = omega (arith, e1, e2) in (
        record {
          name = refl;
          kind = refl;
          refusal = refl;
          misfit = refl;
          numbers = refl;
          indices = sym (opened_none (less d q.type));
          wrote = refl;
          raises = refl;
          lowers = refl;
          after = λ f k. (
            then_open s number segment_number all d q0 j0 q places ks more hs r past m (press n.which i ∷ []) ks a todo l false xs closed pl sm ty.1
                (presses n t i (subst (λ z. Typed z i.1) is_type ty.0) (record {
                  mind_is = refl;
                  local_is = refl;
                  left_is = refl;
                  rest = refl;
                  on = refl;
                  unshaped = shape_last past a un;
                  type_is = is_type;
                  kids = feed_types (less d q.type) a 0 hs refl ∙ one;
                })) (still s number segment_number all d q0 j0 q places ks more hs r past law pl sm kids a none),
            then_same s number segment_number all d q0 j0 q places ks more hs r past (own_desk m [] (i ∷ xs) closed) m (press n.which i ∷ []) ks (own_head past [] l false (i ∷ xs) closed) a todo l false xs closed e3 refl,
          );
        },
        tt,
      )

  -- it hands on these images, or takes what is next
  pub pressed_own : (n : CompressedNode) (t : Ty) (outs : List Item) → q.type ≡ t → types_of hs ≡ t ∷ [] → AllTyped t outs → shape_in past ≡ None → (xs : List Item) (closed : Bool) → AllTyped q.type xs
      → Own s number segment_number all d q0 j0 q places ks more hs r past (by_image n.which) (hand_all (λ p. 0) outs) (filled [] (weighed_puts (λ p. 0) outs)) (compressed_local n) false xs closed
  pressed_own n t [] is_type one to un xs closed ty = press_idle n t is_type one un xs closed ty
  pressed_own n t (i ∷ outs) is_type one to un xs closed ty =
      let uses : List (List ℕ) = all_uses (weighed_puts (λ p. 0) outs) ++ [] in
      let a : Act = with_holds uses (record (put_item 0 i) { lowers = 0 }) in
      hand_own s number segment_number all d q0 j0 q places ks more hs r past law pl sm kids (by_image n.which) (compressed_local n) false 0 i uses (hand_all (λ p. 0) outs) (filled [] (weighed_puts (λ p. 0) outs)) t one to.0 (λ n. refl) xs closed ty
      (pressed n t outs (groups (feed (less d q.type) a 0 hs) (by_image n.which) (compressed_local n) t outs (past ++ (a ∷ [])) is_type (feed_types (less d q.type) a 0 hs refl ∙ one) to.1 (shape_last past a un)))

  -- ---- its outlet, or a dictionary node that has started its fallback

  -- it takes a chunk
  abbrev pub Lets : Local → Item → List Item → Bool → Type 0
  Lets l i xs closed =
      let c : Desk = own_desk as_is [] (i ∷ xs) closed in
      let h : Head = own_head past [] l false (i ∷ xs) closed in
      AllPairs (SameStep s number segment_number d q0 j0 (task_then c ks more) (Work h hs r)) (own_step c more (done_as Take (now c as_is (hand_all (λ p. 0) (i ∷ [])) xs) ks) ∷ [])
      (move_own all d h hs r (Some (doing h (with_holds (i.0 ∷ []) (as_kind Take (does Take))) (filled [] (weighed_puts (λ p. 0) (i ∷ []))) l false xs)))

  let_own : (l : Local) (t : Ty) → Flows l
      → ((left : List Next) (new : Tasks) (done todo : List Act) (deep : Tree) (outs : List Item) → Groups as_is left q done todo l false deep as_is l t (λ p. 0) [] outs → Stage s (less d q.type) as_is left new q done todo l false deep)
      → q.type ≡ t → types_of hs ≡ t ∷ [] → shape_in past ≡ None → (i : Item) (xs : List Item) (closed : Bool) → AllTyped q.type (i ∷ xs) → Lets l i xs closed
  let_own l t flows going is_type one un i xs closed ty =
      let a : Act = with_holds (i.0 ∷ []) (as_kind Take (does Take)) in
      let todo : List Act = filled [] (weighed_puts (λ p. 0) (i ∷ [])) in
      let none : Leaves a 0 = record { gives = λ k i. refl; shuts = λ k i. refl; starts = refl } in
      let sent : ℕ = (rows_in i.1 + 0) + rows_of (feed (less d q.type) a 0 hs) in
      let e1 : rows_of (feed (less d q.type) a 0 hs) ≡ rows_of hs = ap rows_of (feed_none (less d q.type) a 0 hs none) in
      let e2 : local_rows l sent ≡ sent = flows sent in
      let e3 : local_rows l (0 + rows_of hs) ≡ 0 + rows_of hs = flows (0 + rows_of hs) in
      let e4 : local_rows l sent + row_total xs ≡ local_rows l (0 + rows_of hs) + (rows_in i.1 + row_total xs) = omega (arith, e1, e2, e3) in (
        record {
          name = refl;
          kind = refl;
          refusal = refl;
          misfit = refl;
          numbers = refl;
          indices = sym (opened_none (less d q.type));
          wrote = refl;
          raises = refl;
          lowers = refl;
          after = λ f k. (
            then_open s number segment_number all d q0 j0 q places ks more hs r past as_is (hand_all (λ p. 0) (i ∷ [])) ks a todo l false xs closed pl sm ty.1
                (going (hand_all (λ p. 0) (i ∷ [])) ks (past ++ (a ∷ [])) todo (feed (less d q.type) a 0 hs) (i ∷ [])
                (groups (feed (less d q.type) a 0 hs) as_is l t (i ∷ []) (past ++ (a ∷ [])) is_type (feed_types (less d q.type) a 0 hs refl ∙ one) (subst (λ z. Typed z i.1) is_type ty.0, tt) (shape_last past a un)))
                (still s number segment_number all d q0 j0 q places ks more hs r past law pl sm kids a none),
            then_same s number segment_number all d q0 j0 q places ks more hs r past (own_desk as_is [] (i ∷ xs) closed) as_is (hand_all (λ p. 0) (i ∷ [])) ks (own_head past [] l false (i ∷ xs) closed) a todo l false xs closed e4 refl,
          );
        },
        tt,
      )

  -- it hands these on
  let_next : (l : Local) (t : Ty)
      → ((left : List Next) (new : Tasks) (done todo : List Act) (deep : Tree) (outs : List Item) → Groups as_is left q done todo l false deep as_is l t (λ p. 0) [] outs → Stage s (less d q.type) as_is left new q done todo l false deep)
      → (i : Item) (outs : List Item) → q.type ≡ t → types_of hs ≡ t ∷ [] → AllTyped t (i ∷ outs) → shape_in past ≡ None → (xs : List Item) (closed : Bool) → AllTyped q.type xs
      → Own s number segment_number all d q0 j0 q places ks more hs r past as_is (hand_all (λ p. 0) (i ∷ outs)) (filled [] (weighed_puts (λ p. 0) (i ∷ outs))) l false xs closed
  let_next l t going i outs is_type one to un xs closed ty =
      let uses : List (List ℕ) = all_uses (weighed_puts (λ p. 0) outs) ++ [] in
      let a : Act = with_holds uses (record (put_item 0 i) { lowers = 0 }) in
      hand_own s number segment_number all d q0 j0 q places ks more hs r past law pl sm kids as_is l false 0 i uses (hand_all (λ p. 0) outs) (filled [] (weighed_puts (λ p. 0) outs)) t one to.0 (λ n. refl) xs closed ty
      (going (hand_all (λ p. 0) outs) (give 0 i ks) (past ++ (a ∷ [])) (filled [] (weighed_puts (λ p. 0) outs)) (feed (less d q.type) a 0 hs) outs
      (groups (feed (less d q.type) a 0 hs) as_is l t outs (past ++ (a ∷ [])) is_type (feed_types (less d q.type) a 0 hs refl ∙ one) to.1 (shape_last past a un)))

  pub out_own : (n : CompressedNode) (t : Ty) (outs : List Item) → q.type ≡ t → types_of hs ≡ t ∷ [] → AllTyped t outs → shape_in past ≡ None → (xs : List Item) (closed : Bool) → AllTyped q.type xs
      → Own s number segment_number all d q0 j0 q places ks more hs r past as_is (hand_all (λ p. 0) outs) (filled [] (weighed_puts (λ p. 0) outs)) (outlet_local n) false xs closed
  out_own n t [] is_type one to un [] false ty = tt
  out_own n t [] is_type one to un [] true ty = end_own as_is (outlet_local n) t (λ u. refl) one un
  out_own n t [] is_type one to un (i ∷ xs) closed ty = let_own (outlet_local n) t (λ u. refl) (λ left new done todo deep outs w. lets_out n t outs w) is_type one un i xs closed ty
  out_own n t (i ∷ outs) is_type one to un xs closed ty = let_next (outlet_local n) t (λ left new done todo deep outs w. lets_out n t outs w) i outs is_type one to un xs closed ty

  pub back_own : (t : Ty) (outs : List Item) → q.type ≡ t → types_of hs ≡ t ∷ [] → AllTyped t outs → shape_in past ≡ None → (xs : List Item) (closed : Bool) → AllTyped q.type xs
      → Own s number segment_number all d q0 j0 q places ks more hs r past as_is (hand_all (λ p. 0) outs) (filled [] (weighed_puts (λ p. 0) outs)) fallback_local false xs closed
  back_own t [] is_type one to un [] false ty = tt
  back_own t [] is_type one to un [] true ty = end_own as_is fallback_local t (λ u. refl) one un
  back_own t [] is_type one to un (i ∷ xs) closed ty = let_own fallback_local t (λ u. refl) (λ left new done todo deep outs w. falls_back t outs w) is_type one un i xs closed ty
  back_own t (i ∷ outs) is_type one to un xs closed ty = let_next fallback_local t (λ left new done todo deep outs w. falls_back t outs w) i outs is_type one to un xs closed ty
