-- What a task can do that regroups, or hands all on behind the end of its stream, is what the abstract one can.
use Rattle.std.proofs.Common.{◌≡◌, ◌+◌, ◌<◌, ◌||◌, ◌∷◌, ◌++◌, ◌∙◌, ℕ, suc, Bool, true, false, not, nat_eq, List, length, refl, sym, ap, subst, arith, get_or, length-append, Option, Some, None, []}
use Rattle.std.proofs.lemmas.Bool.Decides.{nat_tests}
use Rattle.vx_model.specs.Ty.{Ty}
use Rattle.vx_model.specs.CellData.{CellData}
use Rattle.vx_model.specs.ChunkData.{ChunkData, cells}
use Rattle.vx_machine_state.specs.Images.{Careful}
use Rattle.vx_rules.specs.Regroup.{ranked}
use Rattle.vx_rules.specs.Stream.{piece_cells}
use Rattle.vx_tasks.specs.Task.{Take, TakeEnd}
use Rattle.vx_plan.specs.PlanData.{Setting, Item, row_total, rows_in}
use Rattle.vx_plan.specs.GroupNode.{left_count, rest_count}
use Rattle.vx_machine_turns.specs.Locals.{Local}
use Rattle.vx_machine_turns.specs.Acts.{Seed, Act, Turn, passes, put_item, close_queues, gifts, shape_in}
use Rattle.vx_machine_turns.specs.Grouped.{Grouper, weighed_puts, group_turn, group_end, group_ends, group_kept}
use Rattle.vx_machine_turns.specs.Scripts.{as_kind, with_holds, all_uses, filled}
use Rattle.vx_machine_turns.specs.Fuels.{Fuel, less}
use Rattle.vx_machine_steps.specs.Tree.{Head, Tree, Work, feed}
use Rattle.vx_machine_steps.specs.Moves.{doing, is_full, move_own}
use Rattle.vx_machine_state.specs.State.{Next, hand_on, shut_kids, Mind, passing, Desk, Tasks, task_then}
use Rattle.vx_machine_state.specs.Acts.{count, give, shut_all, do_act, hand_all, take_grouped, end_grouped}
use Rattle.vx_machine_state.specs.Moves.{has_room, own_step}
use Rattle.vx_machine_state.specs.Typed.{Typed, AllTyped, ChunksTyped, NewestTyped}
use Rattle.vx_machine_view.specs.Shows.{Groups, Stage, passes_on, passed, Shows, rows_of, types_of, task_rows, local_rows, newest_rows, shape_rows}
use Rattle.vx_machine_view.specs.Steps.{AllPairs, SameStep}
use Rattle.vx_machine_view.proofs.Words.{shape_last, shape_kept}
use Rattle.vx_machine_view.proofs.Feeding.{opened_none, Leaves, feed_none, feed_types, count_types, room_is, given, shut_shows, rows_given, rows_kept}
use Rattle.vx_machine_view.proofs.Acting.{desk, head, Own, then_open, then_same, still, one_pair}

-- ---- what is handed on

-- what such acts give to the only child
pub puts_give : (weight : ChunkData → ℕ) (keep : List (List ℕ)) (outs : List Item) → gifts 0 (filled keep (weighed_puts weight outs)) ≡ outs
puts_give weight keep [] = refl
puts_give weight keep (i ∷ outs) = ap (λ (z : List Item). i ∷ z) (puts_give weight keep outs)

pub ends_give : (weight : ChunkData → ℕ) (outs : List Item) → gifts 0 (filled [] (weighed_puts weight outs ++ (close_queues (0 ∷ []) ∷ []))) ≡ outs
ends_give weight [] = refl
ends_give weight (i ∷ outs) = ap (λ (z : List Item). i ∷ z) (ends_give weight outs)

pub ranked_rows : (p : List ℕ) (k : ℕ) (ps : List ChunkData) → row_total (ranked p k ps) ≡ length (piece_cells ps)
ranked_rows p k [] = refl
ranked_rows p k (c ∷ ps) = ap (λ z. rows_in c + z) (ranked_rows p (suc k) ps) ∙ sym (length-append (cells c) (piece_cells ps))

pub ranked_typed : (t : Ty) (p : List ℕ) (k : ℕ) (ps : List ChunkData) → ChunksTyped t ps → AllTyped t (ranked p k ps)
ranked_typed t p k [] h = tt
ranked_typed t p k (c ∷ ps) h = (h.0, ranked_typed t p (suc k) ps h.1)

module _ (s : Setting) (number : List ℕ → ℕ) (segment_number : ℕ) (all : List (List ℕ)) (d : Fuel) (q0 : Seed) (j0 : ℕ) (q : Seed) (places : ℕ) (ks more : Tasks) (hs r : Tree) (past : List Act)
    (law : Careful s) (pl : places ≡ 1 + get_or q0.spare j0 0) (sm : Shows s number d q0 (suc j0) more r) (kids : Shows s number (less d q.type) q 0 ks hs) where
  abbrev own_desk : Mind → List Next → List Item → Bool → Desk
  own_desk mind left xs closed = desk s number segment_number all d q0 j0 q places ks more hs r past mind left xs closed

  abbrev own_head : List Act → List Act → Local → Bool → List Item → Bool → Head
  own_head done todo l over xs closed = head s number segment_number all d q0 j0 q places ks more hs r past done todo l over xs closed

  -- the only child gets the next one
  pub hand_own : (m : Mind) (l : Local) (over : Bool) (w : ℕ) (i : Item) (holds : List (List ℕ)) (left : List Next) (todo : List Act) (t : Ty) → types_of hs ≡ t ∷ [] → Typed t i.1
      → ((n : ℕ) → task_rows over l (past ++ (with_holds holds (record (put_item 0 i) { lowers = w }) ∷ [])) n ≡ task_rows over l past n)
      → (xs : List Item) (closed : Bool) → AllTyped q.type xs
      → Stage s (less d q.type) m left (give 0 i ks) q (past ++ (with_holds holds (record (put_item 0 i) { lowers = w }) ∷ [])) todo l over (feed (less d q.type) (with_holds holds (record (put_item 0 i) { lowers = w })) 0 hs)
      → Own s number segment_number all d q0 j0 q places ks more hs r past m (hand_on w i ∷ left) (with_holds holds (record (put_item 0 i) { lowers = w }) ∷ todo) l over xs closed
  hand_own m l over w i holds left todo t one ti same xs closed ty stage =
      let a : Act = with_holds holds (record (put_item 0 i) { lowers = w }) in
      one_pair
      (SameStep s number segment_number d q0 j0 (task_then (own_desk m (hand_on w i ∷ left) xs closed) ks more) (Work (own_head past (a ∷ todo) l over xs closed) hs r))
      (own_step (own_desk m (hand_on w i ∷ left) xs closed) more (do_act s segment_number (own_desk m (hand_on w i ∷ left) xs closed) ks (hand_on w i ∷ left))) _
      (has_room 0 ks) (not (is_full q 0 hs 0))
      (room_is s number (less d q.type) q 0 0 0 ks hs kids (let e : length (types_of hs) ≡ 1 = ap length one in omega (arith, e)) refl)
      (λ k. record {
        name = refl;
        kind = refl;
        refusal = refl;
        misfit = refl;
        numbers = refl;
        indices = sym (opened_none (less d q.type));
        wrote = refl;
        raises = refl;
        lowers = refl;
        after = λ f y. (
          then_open s number segment_number all d q0 j0 q places ks more hs r past m left (give 0 i ks) a todo l over xs closed pl sm ty stage
              (given s number (less d q.type) q 0 0 0 a i t [] [] ks hs kids one refl ti refl refl refl refl),
          then_same s number segment_number all d q0 j0 q places ks more hs r past (own_desk m (hand_on w i ∷ left) xs closed) m left (give 0 i ks) (own_head past (a ∷ todo) l over xs closed) a todo l over xs closed
              (ap (λ z. z + row_total xs) (same (row_total (gifts 0 todo) + rows_of (feed (less d q.type) a 0 hs))
              ∙ ap (task_rows over l past) (moved (row_total (gifts 0 todo)) (rows_of (feed (less d q.type) a 0 hs)) (rows_of hs) (rows_in i.1) (rows_given s number (less d q.type) a i t hs one refl refl)))) refl,
        );
      })
    where
      moved : (g f h n : ℕ) → f ≡ h + n → g + f ≡ (n + g) + h
      moved g f h n e = omega (arith, e)

  -- ---- behind the end

  -- it closes the queue of its only child
  pub close_own : (t : Ty) (l : Local) → types_of hs ≡ t ∷ [] → shape_in past ≡ Some passes → (xs : List Item) (closed : Bool) → AllTyped q.type xs
      → Own s number segment_number all d q0 j0 q places ks more hs r past passing (shut_kids ∷ []) (close_queues (0 ∷ []) ∷ []) l true xs closed
  close_own t l one sh xs closed ty =
      let a : Act = close_queues (0 ∷ []) in
      let c : count ks ≡ 1 = count_types s number (less d q.type) q 0 ks hs kids ∙ ap length one in
      let kept : shape_in (past ++ (a ∷ [])) ≡ Some passes = shape_kept past a passes sh in (
        record {
          name = refl;
          kind = refl;
          refusal = refl;
          misfit = refl;
          numbers = refl;
          indices = sym (opened_none (less d q.type));
          wrote = refl;
          raises = refl;
          lowers = refl;
          after = λ f num. (
            then_open s number segment_number all d q0 j0 q places ks more hs r past passing [] (shut_all ks) a [] l true xs closed pl sm ty
                (passed t (feed_types (less d q.type) a 0 hs refl ∙ one) (record { mind_is = refl; left_is = refl; rest = refl; off = refl; shape_is = kept }))
                (shut_shows s number (less d q.type) q 0 a ks hs kids (λ i. refl) (λ i x y. ap (λ v. v || false) (first i (count ks) c y)) refl),
            then_same s number segment_number all d q0 j0 q places ks more hs r past (own_desk passing (shut_kids ∷ []) xs closed) passing [] (shut_all ks) (own_head past (a ∷ []) l true xs closed) a [] l true xs closed
                (ap (λ z. shape_rows z (0 + rows_of (feed (less d q.type) a 0 hs)) + row_total xs) kept ∙ ap (λ z. (0 + z) + row_total xs) (rows_kept (less d q.type) a 0 hs (λ i. refl) refl)
                ∙ sym (ap (λ z. shape_rows z (0 + rows_of hs) + row_total xs) sh)) refl,
          );
        },
        tt,
      )
    where
      first : (i n : ℕ) → n ≡ 1 → i < 0 + n → nat_eq 0 i ≡ true
      first i n e l = grind (arith, nat_tests)

  -- what is left to hand on, and the closing
  pub passes_own : (t : Ty) (weight : ChunkData → ℕ) (outs : List Item) (l : Local) → types_of hs ≡ t ∷ [] → AllTyped t outs → shape_in past ≡ Some passes → (xs : List Item) (closed : Bool) → AllTyped q.type xs
      → Own s number segment_number all d q0 j0 q places ks more hs r past passing (hand_all weight outs ++ (shut_kids ∷ [])) (filled [] (weighed_puts weight outs ++ (close_queues (0 ∷ []) ∷ []))) l true xs closed
  passes_own t weight [] l one to sh xs closed ty = close_own t l one sh xs closed ty
  passes_own t weight (i ∷ outs) l one to sh xs closed ty =
      let uses : List (List ℕ) = all_uses (weighed_puts weight outs ++ (close_queues (0 ∷ []) ∷ [])) ++ [] in
      let a : Act = with_holds uses (record (put_item 0 i) { lowers = weight i.1 }) in
      let kept : shape_in (past ++ (a ∷ [])) ≡ Some passes = shape_kept past a passes sh in
      hand_own passing l true (weight i.1) i uses (hand_all weight outs ++ (shut_kids ∷ [])) (filled [] (weighed_puts weight outs ++ (close_queues (0 ∷ []) ∷ []))) t one to.0
      (λ n. ap (λ z. shape_rows z n) (kept ∙ sym sh)) xs closed ty
      (passes_on t weight outs (feed_types (less d q.type) a 0 hs refl ∙ one) to.1 (record { mind_is = refl; left_is = refl; rest = refl; off = refl; shape_is = kept }))

  -- ---- a rule

  -- of what is held: `within` are its rows, `well` says that its chunks are of the type, and `begun` that it is none before a chunk came
  module _ {S : Type 0} (g : Grouper S) (mind : S → Option Item → ℕ → Mind) (local : S → Option Item → ℕ → Local) (t : Ty) (within : S → List CellData) (well : S → Type 0) (begun : S → Option Item → Type 0)
      (is_rows : (x : S) (j : Option Item) (rows n : ℕ) → local_rows (local x j rows) n ≡ (length (within x) + newest_rows j) + n)
      (flow : (x : S) (c : ChunkData) → within x ++ cells c ≡ piece_cells (g.rule.leaves x c) ++ within (g.rule.holds x c))
      (last : (x : S) (c : ChunkData) → within x ++ cells c ≡ piece_cells (g.rule.rest x c))
      (first : (x : S) → begun x None → within x ≡ []) (further : (x : S) (i : Item) → begun x (Some i))
      (fits : (x : S) (c : ChunkData) → well x → Typed t c → ChunksTyped t (g.rule.leaves x c) × well (g.rule.holds x c))
      (fits_last : (x : S) (c : ChunkData) → well x → Typed t c → ChunksTyped t (g.rule.rest x c))
      (going : (left : List Next) (new : Tasks) (done todo : List Act) (deep : Tree) (x : S) (j : Option Item) (rows : ℕ) (outs : List Item) → well x → NewestTyped t j → begun x j
      → Groups (mind x j rows) left q done todo (local x j rows) false deep (mind x j rows) (local x j rows) t g.weight (group_kept j) outs
      → Stage s (less d q.type) (mind x j rows) left new q done todo (local x j rows) false deep) where
    flow_rows : (x : S) (c : ChunkData) → length (within x) + rows_in c ≡ length (piece_cells (g.rule.leaves x c)) + length (within (g.rule.holds x c))
    flow_rows x c = sym (length-append (within x) (cells c)) ∙ ap length (flow x c) ∙ length-append (piece_cells (g.rule.leaves x c)) (within (g.rule.holds x c))

    last_rows : (x : S) (c : ChunkData) → length (within x) + rows_in c ≡ length (piece_cells (g.rule.rest x c))
    last_rows x c = sym (length-append (within x) (cells c)) ∙ ap length (last x c)

    -- it hands the next one on
    pub put_own : (x : S) (j : Option Item) (rows : ℕ) (i : Item) (outs : List Item) → well x → NewestTyped t j → begun x j → q.type ≡ t → types_of hs ≡ t ∷ [] → AllTyped t (i ∷ outs) → shape_in past ≡ None
        → (xs : List Item) (closed : Bool) → AllTyped q.type xs
        → Own s number segment_number all d q0 j0 q places ks more hs r past (mind x j rows) (hand_all g.weight (i ∷ outs)) (filled (group_kept j) (weighed_puts g.weight (i ∷ outs))) (local x j rows) false xs closed
    put_own x j rows i outs wx tj nh is_type one to un xs closed ty =
        let uses : List (List ℕ) = all_uses (weighed_puts g.weight outs) ++ group_kept j in
        let a : Act = with_holds uses (record (put_item 0 i) { lowers = g.weight i.1 }) in
        hand_own (mind x j rows) (local x j rows) false (g.weight i.1) i uses (hand_all g.weight outs) (filled (group_kept j) (weighed_puts g.weight outs)) t one to.0 (λ n. refl) xs closed ty
        (going (hand_all g.weight outs) (give 0 i ks) (past ++ (a ∷ [])) (filled (group_kept j) (weighed_puts g.weight outs)) (feed (less d q.type) a 0 hs) x j rows outs wx tj nh (record {
          mind_is = refl;
          local_is = refl;
          left_is = refl;
          rest = refl;
          on = refl;
          unshaped = shape_last past a un;
          type_is = is_type;
          kids = feed_types (less d q.type) a 0 hs refl ∙ one;
          typed = to.1;
        }))

    -- it takes a chunk
    abbrev pub Takes : S → Option Item → ℕ → Bool → Item → List Item → Bool → Type 0
    Takes x j rows misfit i xs closed =
        let u : Turn = group_turn g local x j rows i in
        let c : Desk = own_desk (mind x j rows) [] (i ∷ xs) closed in
        let h : Head = own_head past [] (local x j rows) false (i ∷ xs) closed in
        AllPairs (SameStep s number segment_number d q0 j0 (task_then c ks more) (Work h hs r)) (own_step c more (take_grouped g mind misfit x j rows c ks i xs) ∷ [])
        (move_own all d h hs r (Some (doing h (with_holds (all_uses u.more ++ (i.0 ∷ [])) (as_kind Take u.first)) (filled (i.0 ∷ []) u.more) u.after false xs)))

    pub take_own : (x : S) (j : Option Item) (rows : ℕ) (misfit : Bool) (i : Item) → misfit ≡ false → well x → NewestTyped t j → begun x j → q.type ≡ t → types_of hs ≡ t ∷ [] → shape_in past ≡ None
        → (xs : List Item) (closed : Bool) → AllTyped q.type (i ∷ xs) → Takes x j rows misfit i xs closed
    take_own x None rows misfit i mf wx tj nh is_type one un xs closed ty =
        let u : Turn = group_turn g local x None rows i in
        let a : Act = with_holds (i.0 ∷ []) (as_kind Take u.first) in
        let c : Desk = own_desk (mind x None rows) [] (i ∷ xs) closed in
        let h : Head = own_head past [] (local x None rows) false (i ∷ xs) closed in
        let none : Leaves a 0 = record { gives = λ k l. refl; shuts = λ k l. refl; starts = refl } in
        let m2 : Mind = mind x (Some i) (rows + rows_in i.1) in
        let l2 : Local = local x (Some i) (rows + rows_in i.1) in
        let e1 : local_rows l2 (0 + rows_of (feed (less d q.type) a 0 hs)) ≡ (length (within x) + rows_in i.1) + (0 + rows_of (feed (less d q.type) a 0 hs)) = is_rows x (Some i) (rows + rows_in i.1) (0 + rows_of (feed (less d q.type) a 0 hs)) in
        let e2 : local_rows (local x None rows) (0 + rows_of hs) ≡ (length (within x) + 0) + (0 + rows_of hs) = is_rows x None rows (0 + rows_of hs) in
        let e3 : rows_of (feed (less d q.type) a 0 hs) ≡ rows_of hs = ap rows_of (feed_none (less d q.type) a 0 hs none) in
        let e4 : local_rows l2 (0 + rows_of (feed (less d q.type) a 0 hs)) + row_total xs ≡ local_rows (local x None rows) (0 + rows_of hs) + (rows_in i.1 + row_total xs) = omega (arith, e1, e2, e3) in (
          record {
            name = refl;
            kind = refl;
            refusal = refl;
            misfit = mf;
            numbers = refl;
            indices = sym (opened_none (less d q.type));
            wrote = refl;
            raises = refl;
            lowers = refl;
            after = λ f k. (
              then_open s number segment_number all d q0 j0 q places ks more hs r past m2 [] ks a [] l2 false xs closed pl sm ty.1
                  (going [] ks (past ++ (a ∷ [])) [] (feed (less d q.type) a 0 hs) x (Some i) (rows + rows_in i.1) [] wx (subst (λ z. Typed z i.1) is_type ty.0) (further x i) (record {
                    mind_is = refl;
                    local_is = refl;
                    left_is = refl;
                    rest = refl;
                    on = refl;
                    unshaped = shape_last past a un;
                    type_is = is_type;
                    kids = feed_types (less d q.type) a 0 hs refl ∙ one;
                    typed = tt;
                  })) (still s number segment_number all d q0 j0 q places ks more hs r past law pl sm kids a none),
              then_same s number segment_number all d q0 j0 q places ks more hs r past c m2 [] ks h a [] l2 false xs closed e4 refl,
            );
          },
          tt,
        )
    take_own x (Some p) rows misfit i mf wx tj nh is_type one un xs closed ty =
        let u : Turn = group_turn g local x (Some p) rows i in
        let outs : List Item = ranked p.0 0 (g.rule.leaves x p.1) in
        let y : S = g.rule.holds x p.1 in
        let a : Act = with_holds (all_uses (weighed_puts g.weight outs) ++ (i.0 ∷ [])) (as_kind Take u.first) in
        let todo : List Act = filled (i.0 ∷ []) (weighed_puts g.weight outs) in
        let c : Desk = own_desk (mind x (Some p) rows) [] (i ∷ xs) closed in
        let h : Head = own_head past [] (local x (Some p) rows) false (i ∷ xs) closed in
        let none : Leaves a 0 = record { gives = λ k l. refl; shuts = λ k l. refl; starts = refl } in
        let m2 : Mind = mind y (Some i) (rows + rows_in i.1) in
        let l2 : Local = local y (Some i) (rows + rows_in i.1) in
        let tw : ChunksTyped t (g.rule.leaves x p.1) × well y = fits x p.1 wx tj in
        let sent : ℕ = row_total (gifts 0 todo) + rows_of (feed (less d q.type) a 0 hs) in
        let e1 : local_rows l2 sent ≡ (length (within y) + rows_in i.1) + sent = is_rows y (Some i) (rows + rows_in i.1) sent in
        let e2 : local_rows (local x (Some p) rows) (0 + rows_of hs) ≡ (length (within x) + rows_in p.1) + (0 + rows_of hs) = is_rows x (Some p) rows (0 + rows_of hs) in
        let e3 : rows_of (feed (less d q.type) a 0 hs) ≡ rows_of hs = ap rows_of (feed_none (less d q.type) a 0 hs none) in
        let e4 : row_total (gifts 0 todo) ≡ length (piece_cells (g.rule.leaves x p.1)) = ap row_total (puts_give g.weight (i.0 ∷ []) outs) ∙ ranked_rows p.0 0 (g.rule.leaves x p.1) in
        let e5 : length (within x) + rows_in p.1 ≡ length (piece_cells (g.rule.leaves x p.1)) + length (within y) = flow_rows x p.1 in
        let e6 : local_rows l2 sent + row_total xs ≡ local_rows (local x (Some p) rows) (0 + rows_of hs) + (rows_in i.1 + row_total xs) = omega (arith, e1, e2, e3, e4, e5) in (
          record {
            name = refl;
            kind = refl;
            refusal = refl;
            misfit = mf;
            numbers = refl;
            indices = ap (λ z. left_count g.rule x p.1 ++ z) (sym (opened_none (less d q.type)));
            wrote = refl;
            raises = refl;
            lowers = refl;
            after = λ f k. (
              then_open s number segment_number all d q0 j0 q places ks more hs r past m2 (hand_all g.weight outs) ks a todo l2 false xs closed pl sm ty.1
                  (going (hand_all g.weight outs) ks (past ++ (a ∷ [])) todo (feed (less d q.type) a 0 hs) y (Some i) (rows + rows_in i.1) outs tw.1 (subst (λ z. Typed z i.1) is_type ty.0) (further y i) (record {
                    mind_is = refl;
                    local_is = refl;
                    left_is = refl;
                    rest = refl;
                    on = refl;
                    unshaped = shape_last past a un;
                    type_is = is_type;
                    kids = feed_types (less d q.type) a 0 hs refl ∙ one;
                    typed = ranked_typed t p.0 0 (g.rule.leaves x p.1) tw.0;
                  })) (still s number segment_number all d q0 j0 q places ks more hs r past law pl sm kids a none),
              then_same s number segment_number all d q0 j0 q places ks more hs r past c m2 (hand_all g.weight outs) ks h a todo l2 false xs closed e6 refl,
            );
          },
          tt,
        )

    -- it takes the end
    abbrev pub Shuts : S → Option Item → ℕ → Type 0
    Shuts x j rows =
        let c : Desk = own_desk (mind x j rows) [] [] true in
        let h : Head = own_head past [] (local x j rows) false [] true in
        AllPairs (SameStep s number segment_number d q0 j0 (task_then c ks more) (Work h hs r)) (own_step c more (end_grouped g x j c ks) ∷ [])
        (move_own all d h hs r (Some (doing h (with_holds (all_uses (group_ends g x j) ++ []) (as_kind TakeEnd (group_end g x j))) (filled [] (group_ends g x j)) (local x j rows) true [])))

    pub end_own : (x : S) (j : Option Item) (rows : ℕ) → well x → NewestTyped t j → begun x j → types_of hs ≡ t ∷ [] → shape_in past ≡ None → Shuts x j rows
    end_own x None rows wx tj nh one un =
        let a : Act = with_holds [] (as_kind TakeEnd (group_end g x None)) in
        let todo : List Act = close_queues (0 ∷ []) ∷ [] in
        let c : Desk = own_desk (mind x None rows) [] [] true in
        let h : Head = own_head past [] (local x None rows) false [] true in
        let none : Leaves a 0 = record { gives = λ k l. refl; shuts = λ k l. refl; starts = refl } in
        let sh : shape_in (past ++ (a ∷ [])) ≡ Some passes = shape_last past a un in
        let sent : ℕ = 0 + rows_of (feed (less d q.type) a 0 hs) in
        let e1 : shape_rows (shape_in (past ++ (a ∷ []))) sent ≡ sent = ap (λ z. shape_rows z sent) sh in
        let e2 : local_rows (local x None rows) (0 + rows_of hs) ≡ (length (within x) + 0) + (0 + rows_of hs) = is_rows x None rows (0 + rows_of hs) in
        let e3 : rows_of (feed (less d q.type) a 0 hs) ≡ rows_of hs = ap rows_of (feed_none (less d q.type) a 0 hs none) in
        let e4 : length (within x) ≡ 0 = ap length (first x nh) in
        let e5 : shape_rows (shape_in (past ++ (a ∷ []))) sent + 0 ≡ local_rows (local x None rows) (0 + rows_of hs) + 0 = omega (arith, e1, e2, e3, e4) in (
          record {
            name = refl;
            kind = refl;
            refusal = refl;
            misfit = refl;
            numbers = refl;
            indices = sym (opened_none (less d q.type));
            wrote = refl;
            raises = refl;
            lowers = refl;
            after = λ f k. (
              then_open s number segment_number all d q0 j0 q places ks more hs r past passing (shut_kids ∷ []) ks a todo (local x None rows) true [] true pl sm tt
                  (passes_on t g.weight [] (feed_types (less d q.type) a 0 hs refl ∙ one) tt (record { mind_is = refl; left_is = refl; rest = refl; off = refl; shape_is = sh }))
                  (still s number segment_number all d q0 j0 q places ks more hs r past law pl sm kids a none),
              then_same s number segment_number all d q0 j0 q places ks more hs r past c passing (shut_kids ∷ []) ks h a todo (local x None rows) true [] true e5 refl,
            );
          },
          tt,
        )
    end_own x (Some p) rows wx tj nh one un =
        let outs : List Item = ranked p.0 0 (g.rule.rest x p.1) in
        let a : Act = with_holds (all_uses (group_ends g x (Some p)) ++ []) (as_kind TakeEnd (group_end g x (Some p))) in
        let left : List Next = hand_all g.weight outs ++ (shut_kids ∷ []) in
        let todo : List Act = filled [] (group_ends g x (Some p)) in
        let c : Desk = own_desk (mind x (Some p) rows) [] [] true in
        let h : Head = own_head past [] (local x (Some p) rows) false [] true in
        let none : Leaves a 0 = record { gives = λ k l. refl; shuts = λ k l. refl; starts = refl } in
        let sh : shape_in (past ++ (a ∷ [])) ≡ Some passes = shape_last past a un in
        let sent : ℕ = row_total (gifts 0 todo) + rows_of (feed (less d q.type) a 0 hs) in
        let e1 : shape_rows (shape_in (past ++ (a ∷ []))) sent ≡ sent = ap (λ z. shape_rows z sent) sh in
        let e2 : local_rows (local x (Some p) rows) (0 + rows_of hs) ≡ (length (within x) + rows_in p.1) + (0 + rows_of hs) = is_rows x (Some p) rows (0 + rows_of hs) in
        let e3 : rows_of (feed (less d q.type) a 0 hs) ≡ rows_of hs = ap rows_of (feed_none (less d q.type) a 0 hs none) in
        let e4 : row_total (gifts 0 todo) ≡ length (piece_cells (g.rule.rest x p.1)) = ap row_total (ends_give g.weight outs) ∙ ranked_rows p.0 0 (g.rule.rest x p.1) in
        let e5 : length (within x) + rows_in p.1 ≡ length (piece_cells (g.rule.rest x p.1)) = last_rows x p.1 in
        let e6 : shape_rows (shape_in (past ++ (a ∷ []))) sent + 0 ≡ local_rows (local x (Some p) rows) (0 + rows_of hs) + 0 = omega (arith, e1, e2, e3, e4, e5) in (
          record {
            name = refl;
            kind = refl;
            refusal = refl;
            misfit = refl;
            numbers = refl;
            indices = ap (λ z. rest_count g.rule x p.1 ++ z) (sym (opened_none (less d q.type)));
            wrote = refl;
            raises = refl;
            lowers = refl;
            after = λ f k. (
              then_open s number segment_number all d q0 j0 q places ks more hs r past passing left ks a todo (local x (Some p) rows) true [] true pl sm tt
                  (passes_on t g.weight outs (feed_types (less d q.type) a 0 hs refl ∙ one) (ranked_typed t p.0 0 (g.rule.rest x p.1) (fits_last x p.1 wx tj)) (record { mind_is = refl; left_is = refl; rest = refl; off = refl; shape_is = sh }))
                  (still s number segment_number all d q0 j0 q places ks more hs r past law pl sm kids a none),
              then_same s number segment_number all d q0 j0 q places ks more hs r past c passing left ks h a todo (local x (Some p) rows) true [] true e6 refl,
            );
          },
          tt,
        )
