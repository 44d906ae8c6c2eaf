-- What a task itself can do is what the abstract one can.
use Rattle.std.proofs.Common.{◌≡◌, ◌+◌, ◌∷◌, ◌++◌, ◌∙◌, ℕ, suc, Bool, true, false, cond, List, map, refl, sym, ap, subst, inl, inr, arith, get_or, append-nil, Option, Some, None, is_some, []}
use Rattle.vx_model.specs.declared.encoding.EncodingId.{EncodingId}
use Rattle.vx_model.specs.Ty.{Ty}
use Rattle.vx_path.specs.Lists.{In}
use Rattle.vx_path.proofs.Lists.{in_left, in_right}
use Rattle.vx_path.specs.Path.{Eof, under, inside, next}
use Rattle.vx_layout_spec.specs.LayoutTree.{renamed, flat_layout, gathered}
use Rattle.vx_machine_state.specs.Images.{Careful}
use Rattle.vx_tasks.specs.Task.{Join}
use Rattle.vx_strategy_spec.specs.StrategyData.{FlatOptions}
use Rattle.vx_plan.specs.PlanData.{Setting, Item, row_total, rows_in}
use Rattle.vx_plan.specs.FlatNode.{segment, inlined}
use Rattle.vx_machine_turns.specs.Forms.{chunked_form, form_type}
use Rattle.vx_machine_turns.specs.Locals.{ChunkedNode, Local, flat_empty, flat_full, chunked_local}
use Rattle.vx_machine_turns.specs.Acts.{Seed, Act, alone, gathers, does, shape_in, gifts, numbers_in}
use Rattle.vx_machine_turns.specs.Flat.{forbidden}
use Rattle.vx_machine_turns.specs.Starts.{start_fault, local_of, seed_of}
use Rattle.vx_machine_turns.specs.Readings.{shaped}
use Rattle.vx_machine_turns.specs.Turns.{firsts, start_indices}
use Rattle.vx_machine_turns.specs.Fuels.{Fuel, spent, fuel, less, Enough}
use Rattle.vx_machine_steps.specs.Tree.{Head, Tree, Leaf, Work, feed, opened}
use Rattle.vx_machine_steps.specs.Moves.{due, take_first, end_first, all_paths, all_over, move_own}
use Rattle.vx_machine_state.specs.State.{Stored, fold_chunks, Next, append, join_kids, Mind, no_chunk, one_chunk, by_chunk, ending, made, Desk, Tasks, no_tasks, task_then}
use Rattle.vx_machine_state.specs.Start.{first_indices, started_task}
use Rattle.vx_machine_state.specs.Acts.{count, add, do_act, stored}
use Rattle.vx_machine_state.specs.Moves.{may_act, own_step}
use Rattle.vx_machine_view.specs.Suited.{Suited}
use Rattle.vx_machine_state.specs.Typed.{Typed, AllTyped}
use Rattle.vx_machine_view.specs.Shows.{Counted, Stage, waits_end, appends, splits, gathers_all, Done, Shows, append_of, laid, rows_of, types_of, task_rows, shape_rows}
use Rattle.vx_machine_view.specs.Steps.{AllPairs, Steady, SameStep}
use Rattle.vx_machine_view.proofs.Words.{true_false, numbers_in-append, shape_last}
use Rattle.vx_machine_view.proofs.Feeding.{opened_none, Leaves, feed_none, no_tree, count-add, one_more, rows_one_more}
use Rattle.vx_machine_view.proofs.Beginning.{task_begun, fresh_rows, opened_is}

no_forbidden : (x : Option EncodingId) → is_some (forbidden x) ≡ false → x ≡ None
no_forbidden None e = refl
no_forbidden (Some id) e = cc

pub no_refusal : {A : Type 0} (x : Option A) → is_some x ≡ false → x ≡ None
no_refusal None e = refl
no_refusal (Some y) e = cc

pub one_pair : {A B : Type 0} (P : A → B → Type 0) (x : A) (y : B) (a b : Bool) → a ≡ b → (b ≡ true → P x y) → AllPairs P (cond a (x ∷ []) []) (cond b (y ∷ []) [])
one_pair P x y true true e f = (f refl, tt)
one_pair P x y true false e f = absurd (true_false e)
one_pair P x y false true e f = absurd (true_false (sym e))
one_pair P x y false false e f = tt

-- how far pointers come where one more child of a chunked task is started
chunk_opened : (d : Fuel) (n : ChunkedNode) (j : ℕ) (e : Eof) → Enough d (chunked_form n.type n.child) → Suited (chunked_form n.type n.child)
    → opened d (seed_of n.child n.mark (under n.name j) (inside e) ∷ []) ≡ first_indices n.child n.mark (inside e)
chunk_opened spent n j e en b = absurd en
chunk_opened (fuel g) n j e en b =
    ap (λ z. start_indices (local_of n.child n.mark (under n.name j) (inside e)) ++ z) (append-nil (opened (g (form_type n.child)) (firsts (seed_of n.child n.mark (under n.name j) (inside e)))))
    ∙ opened_is n.child n.mark (under n.name j) (inside e) (g (form_type n.child)) b.1 en

-- one more child of a chunked task
chunk_fed : (s : Setting) (number : List ℕ → ℕ) (d : Fuel) (q : Seed) (n : ChunkedNode) (e : Eof) (x : Item) (a : Act) (ks : Tasks) (hs : Tree) → Enough d (chunked_form n.type n.child)
    → Suited (chunked_form n.type n.child) → q.spare ≡ [] → start_fault s n.child n.mark ≡ None → Typed n.type x.1 → Shows s number d q 0 ks hs → n.name ≡ q.name
    → a.gives ≡ (count ks, x) ∷ [] → a.shuts ≡ count ks ∷ [] → a.starts ≡ seed_of n.child n.mark (under n.name (count ks)) (inside e) ∷ []
    → Shows s number d q 0 (add ks (started_task n.child n.mark (under q.name (count ks)) (inside e) (x ∷ []) true)) (feed d a 0 hs)
    × (rows_of (feed d a 0 hs) ≡ rows_of hs + rows_in x.1)
chunk_fed s number spent q n e x a ks hs en b sp f ty k nm g sh st = absurd en
chunk_fed s number (fuel g) q n e x a ks hs en b sp f ty k nm gs sh st =
    let c : count ks ≡ 0 + count ks = omega arith in (
      subst (λ z. Shows s number (fuel g) q 0 (add ks (started_task n.child n.mark (under z (count ks)) (inside e) (x ∷ []) true)) (feed (fuel g) a 0 hs)) nm
          (one_more s number g q 0 (count ks) a x (seed_of n.child n.mark (under n.name (count ks)) (inside e)) ks
          (started_task n.child n.mark (under n.name (count ks)) (inside e) (x ∷ []) true) hs k c gs sh st
          (task_begun s number g q (count ks) n.child n.mark (under n.name (count ks)) (inside e) (x ∷ []) true (ap (λ z. get_or z (count ks) 0) sp) (subst (λ z. Typed z x.1) (sym b.0) ty, tt) b.1 f en)),
      rows_one_more s number g q 0 (count ks) a x (seed_of n.child n.mark (under n.name (count ks)) (inside e)) ks hs k c gs st
          (fresh_rows n.child n.mark (under n.name (count ks)) (inside e) (g (form_type n.child)) b.1),
    )

-- rows that were counted before an act or by it
pub counted_before : (past : List Act) (a : Act) (n : ℕ) → Counted past n → Counted (past ++ (a ∷ [])) n
counted_before past a n (inl e) = inl e
counted_before past a n (inr i) = inr (subst (In n) (sym (numbers_in-append past (a ∷ []))) (in_left n (numbers_in past) (numbers_in (a ∷ [])) i))

pub counted_now : (past : List Act) (a : Act) (n : ℕ) → In n (a.numbers ++ []) → Counted (past ++ (a ∷ [])) n
counted_now past a n i = inr (subst (In n) (sym (numbers_in-append past (a ∷ []))) (in_right n (numbers_in past) (a.numbers ++ []) i))

module _ (s : Setting) (number : List ℕ → ℕ) (segment_number : ℕ) (all : List (List ℕ)) (d : Fuel) (q0 : Seed) (j0 : ℕ) (q : Seed) (places : ℕ) (ks more : Tasks) (hs r : Tree) (past : List Act) where
  abbrev pub desk : Mind → List Next → List Item → Bool → Desk
  desk mind left xs closed = record { name = q.name; mind = mind; todo = left; inbox = xs; places = places; closed = closed }

  abbrev pub head : List Act → List Act → Local → Bool → List Item → Bool → Head
  head done todo l over xs closed = record { seed = q; past = done; todo = todo; local = l; over = over; inbox = xs; closed = closed }

  -- what is ready of a task, by itself
  abbrev pub Own : Mind → List Next → List Act → Local → Bool → List Item → Bool → Type 0
  Own mind left todo l over xs closed =
      AllPairs (SameStep s number segment_number d q0 j0 (task_then (desk mind left xs closed) ks more) (Work (head past todo l over xs closed) hs r))
      (cond (may_act all (desk mind left xs closed) ks left) (own_step (desk mind left xs closed) more (do_act s segment_number (desk mind left xs closed) ks left) ∷ []) [])
      (move_own all d (head past todo l over xs closed) hs r (due s (head past todo l over xs closed)))

  -- how a task and its children stand after an act
  abbrev pub Then : Mind → List Next → Tasks → Act → List Act → Local → Bool → List Item → Bool → Type 0
  Then mind left kids a todo l over xs closed =
      Shows s number d q0 j0 (task_then (desk mind left xs closed) kids more) (Work (head (past ++ (a ∷ [])) todo l over xs closed) (feed (less d q.type) a 0 hs) r)

  abbrev pub Stays : Desk → Mind → List Next → Tasks → Head → Act → List Act → Local → Bool → List Item → Bool → Type 0
  Stays c mind left kids h a todo l over xs closed =
      Steady (task_then c ks more) (task_then (desk mind left xs closed) kids more) (Work h hs r) (Work (head (past ++ (a ∷ [])) todo l over xs closed) (feed (less d q.type) a 0 hs) r)

  pub then_open : (mind : Mind) (left : List Next) (kids : Tasks) (a : Act) (todo : List Act) (l : Local) (over : Bool) (xs : List Item) (closed : Bool)
      → places ≡ 1 + get_or q0.spare j0 0 → Shows s number d q0 (suc j0) more r → AllTyped q.type xs
      → Stage s (less d q.type) mind left kids q (past ++ (a ∷ [])) todo l over (feed (less d q.type) a 0 hs)
      → Shows s number (less d q.type) q 0 kids (feed (less d q.type) a 0 hs) → Then mind left kids a todo l over xs closed
  then_open mind left kids a todo l over xs closed pl sm ty st k = (record { name = refl; inbox = refl; closed = refl; places = pl; typed = ty }, inl (st, k), sm)

  pub then_done : (mind : Mind) (left : List Next) (kids : Tasks) (a : Act) (todo : List Act) (l : Local) (over : Bool) (xs : List Item) (closed : Bool)
      → places ≡ 1 + get_or q0.spare j0 0 → Shows s number d q0 (suc j0) more r → AllTyped q.type xs
      → Done number mind left kids (past ++ (a ∷ [])) todo over (feed (less d q.type) a 0 hs) → Then mind left kids a todo l over xs closed
  then_done mind left kids a todo l over xs closed pl sm ty w = (record { name = refl; inbox = refl; closed = refl; places = pl; typed = ty }, inr w, sm)

  pub then_same : (c : Desk) (mind : Mind) (left : List Next) (kids : Tasks) (h : Head) (a : Act) (todo : List Act) (l : Local) (over : Bool) (xs : List Item) (closed : Bool)
      → task_rows over l (past ++ (a ∷ [])) (row_total (gifts 0 todo) + rows_of (feed (less d q.type) a 0 hs)) + row_total xs ≡ task_rows h.over h.local h.past (row_total (gifts 0 h.todo) + rows_of hs) + row_total h.inbox
      → q.type ≡ h.seed.type → Stays c mind left kids h a todo l over xs closed
  then_same c mind left kids h a todo l over xs closed e t = record { count_is = refl; rows_are = ap (λ z. z + rows_of r) e; types_are = ap (λ z. z ∷ types_of r) t }

  -- where its rows aren't those below it
  pub then_steady : (c : Desk) (mind : Mind) (left : List Next) (kids : Tasks) (h : Head) (a : Act) (todo : List Act) (l : Local) (over : Bool) (xs : List Item) (closed : Bool)
      → ((u v : ℕ) → task_rows over l (past ++ (a ∷ [])) u + row_total xs ≡ task_rows h.over h.local h.past v + row_total h.inbox) → q.type ≡ h.seed.type → Stays c mind left kids h a todo l over xs closed
  then_steady c mind left kids h a todo l over xs closed e t =
      then_same c mind left kids h a todo l over xs closed (e (row_total (gifts 0 todo) + rows_of (feed (less d q.type) a 0 hs)) (row_total (gifts 0 h.todo) + rows_of hs)) t

  -- ---- flat

  module _ (law : Careful s) (pl : places ≡ 1 + get_or q0.spare j0 0) (sm : Shows s number d q0 (suc j0) more r) (kids : Shows s number (less d q.type) q 0 ks hs) where
    pub still : (a : Act) → Leaves a 0 → Shows s number (less d q.type) q 0 ks (feed (less d q.type) a 0 hs)
    still a l = subst (Shows s number (less d q.type) q 0 ks) (sym (feed_none (less d q.type) a 0 hs l)) kids

    pub bare : (a : Act) → Leaves a 0 → ks ≡ no_tasks → feed (less d q.type) a 0 hs ≡ Leaf
    bare a l n = feed_none (less d q.type) a 0 hs l ∙ no_tree s number (less d q.type) q 0 ks hs n kids

    first_taken : (o : FlatOptions) (t : Ty) (x : Item) (xs : List Item) (closed : Bool) → ks ≡ no_tasks → shape_in past ≡ None → AllTyped q.type xs
        → is_some (forbidden (s.codec.refused s.encodings x.1)) ≡ false
        → Then (stored t x (inlined s o x) (segment s o x)) [] ks (take_first s (flat_empty o t) x) [] (flat_full o t x (segment s o x)) false xs closed
        × Stays (desk (no_chunk o t) [] (x ∷ xs) closed) (stored t x (inlined s o x) (segment s o x)) [] ks (head past [] (flat_empty o t) false (x ∷ xs) closed) (take_first s (flat_empty o t) x) [] (flat_full o t x (segment s o x)) false xs closed
    first_taken o t x xs closed nk un ty f = by (law.codec.encodes o.padding x.1 (no_forbidden (s.codec.refused s.encodings x.1) f))
      where
        by : (bytes : List ℕ) × (s.codec.encode s.encodings o.padding x.1 ≡ Some bytes)
            → Then (stored t x (inlined s o x) (segment s o x)) [] ks (take_first s (flat_empty o t) x) [] (flat_full o t x (segment s o x)) false xs closed
            × Stays (desk (no_chunk o t) [] (x ∷ xs) closed) (stored t x (inlined s o x) (segment s o x)) [] ks (head past [] (flat_empty o t) false (x ∷ xs) closed) (take_first s (flat_empty o t) x) [] (flat_full o t x (segment s o x)) false xs closed
        by (bytes, e) = (
          then_open (stored t x (inlined s o x) (segment s o x)) [] ks (take_first s (flat_empty o t) x) [] (flat_full o t x (segment s o x)) false xs closed pl sm ty
              (waits_end o t x bytes nk (record { mind_is = ap (stored t x (inlined s o x)) e; local_is = ap (flat_full o t x) e; idle = refl; rest = refl; on = refl; unshaped = shape_last past (take_first s (flat_empty o t) x) un }))
              (still (take_first s (flat_empty o t) x) (record { gives = λ i l. refl; shuts = λ i l. refl; starts = refl })),
          then_steady (desk (no_chunk o t) [] (x ∷ xs) closed) (stored t x (inlined s o x) (segment s o x)) [] ks (head past [] (flat_empty o t) false (x ∷ xs) closed) (take_first s (flat_empty o t) x) [] (flat_full o t x (segment s o x)) false xs closed
              (λ u v. let h : rows_in x.1 + row_total xs ≡ 0 + (rows_in x.1 + row_total xs) = omega arith in h) refl,
        )

    pub first_own : (o : FlatOptions) (t : Ty) → ks ≡ no_tasks → shape_in past ≡ None → (xs : List Item) (closed : Bool) → AllTyped q.type xs
        → Own (no_chunk o t) [] [] (flat_empty o t) false xs closed
    first_own o t nk un [] false ty = tt
    first_own o t nk un [] true ty = (
      record {
        name = refl;
        kind = refl;
        refusal = refl;
        misfit = refl;
        numbers = refl;
        indices = sym (opened_none (less d q.type));
        wrote = refl;
        raises = refl;
        lowers = refl;
        after = λ f n. (
          then_done (made (gathered t 0 [])) [] ks (end_first s (flat_empty o t)) [] (flat_empty o t) true [] true pl sm tt (record {
            layout = gathered t 0 [];
            mind_is = refl;
            idle = refl;
            no_kids = nk;
            rest = refl;
            off = refl;
            below = ap all_over (bare (end_first s (flat_empty o t)) (record { gives = λ i l. refl; shuts = λ i l. refl; starts = refl }) nk);
            free = ap all_paths (bare (end_first s (flat_empty o t)) (record { gives = λ i l. refl; shuts = λ i l. refl; starts = refl }) nk);
            laid_is = ap (λ z. map (renamed number) (shaped z (laid (feed (less d q.type) (end_first s (flat_empty o t)) 0 hs)))) (shape_last past (end_first s (flat_empty o t)) un);
            rows_are = λ u. sym (ap (λ z. shape_rows z u) (shape_last past (end_first s (flat_empty o t)) un));
          }),
          then_steady (desk (no_chunk o t) [] [] true) (made (gathered t 0 [])) [] ks (head past [] (flat_empty o t) false [] true) (end_first s (flat_empty o t)) [] (flat_empty o t) true [] true
              (λ u v. ap (λ z. shape_rows z u + 0) (shape_last past (end_first s (flat_empty o t)) un)) refl,
        );
      },
      tt,
    )
    first_own o t nk un (x ∷ xs) closed ty = (
      record {
        name = refl;
        kind = refl;
        refusal = refl;
        misfit = refl;
        numbers = refl;
        indices = sym (opened_none (less d q.type));
        wrote = refl;
        raises = refl;
        lowers = refl;
        after = λ f n. first_taken o t x xs closed nk un ty.1 f;
      },
      tt,
    )

    pub one_own : (o : FlatOptions) (t : Ty) (i : Item) (bytes : List ℕ) → ks ≡ no_tasks → shape_in past ≡ None → (xs : List Item) (closed : Bool) → AllTyped q.type xs
        → Own (one_chunk (record { id = i.0; bytes = bytes; tree = inlined s o i; rows = rows_in i.1; type = t })) [] [] (flat_full o t i (Some bytes)) false xs closed
    one_own o t i bytes nk un [] false ty = tt
    one_own o t i bytes nk un (x ∷ xs) closed ty = (
      record {
        name = refl;
        kind = refl;
        refusal = refl;
        misfit = refl;
        numbers = refl;
        indices = sym (opened_none (less d q.type));
        wrote = refl;
        raises = refl;
        lowers = refl;
        after = λ f n. absurd (true_false f);
      },
      tt,
    )
    one_own o t i bytes nk un [] true ty =
        let x : Stored = record { id = i.0; bytes = bytes; tree = inlined s o i; rows = rows_in i.1; type = t } in
        let l : Local = flat_full o t i (Some bytes) in
        let sh : shape_in (past ++ (end_first s l ∷ [])) ≡ Some (alone (flat_layout t (rows_in i.1) s.encodings (inlined s o i) i.0)) = shape_last past (end_first s l) un in (
          record {
            name = refl;
            kind = refl;
            refusal = refl;
            misfit = refl;
            numbers = refl;
            indices = sym (opened_none (less d q.type));
            wrote = refl;
            raises = refl;
            lowers = refl;
            after = λ f n. (
              then_open ending (append x ∷ []) ks (end_first s l) (append_of x ∷ []) l true [] true pl sm tt
                  (appends x nk (record { mind_is = refl; left_is = refl; rest = refl; off = refl; shape_is = sh }))
                  (still (end_first s l) (record { gives = λ i l. refl; shuts = λ i l. refl; starts = refl })),
              then_steady (desk (one_chunk x) [] [] true) ending (append x ∷ []) ks (head past [] l false [] true) (end_first s l) (append_of x ∷ []) l true [] true
                  (λ u v. ap (λ z. shape_rows z u + 0) sh) refl,
            );
          },
          tt,
        )

    -- ---- chunked

    pub chunks_own : (n : ChunkedNode) (e : Eof) → n.name ≡ q.name → q.type ≡ n.type → q.spare ≡ [] → Suited (chunked_form n.type n.child) → Enough (less d q.type) (chunked_form n.type n.child)
        → Counted past (rows_of hs) → shape_in past ≡ None → (xs : List Item) (closed : Bool) → AllTyped q.type xs
        → Own (by_chunk n.mark n.type n.child e (rows_of hs)) [] [] (chunked_local n (count ks) e (rows_of hs)) false xs closed
    chunks_own n e nm t sp b en ct un [] false ty = tt
    chunks_own n e nm t sp b en ct un [] true ty =
        let m : Mind = by_chunk n.mark n.type n.child e (rows_of hs) in
        let l : Local = chunked_local n (count ks) e (rows_of hs) in
        let none : Leaves (end_first s l) 0 = record { gives = λ i k. refl; shuts = λ i k. refl; starts = refl } in
        let sh : shape_in (past ++ (end_first s l ∷ [])) ≡ Some (gathers n.type (rows_of hs)) = shape_last past (end_first s l) un in (
          record {
            name = refl;
            kind = refl;
            refusal = refl;
            misfit = refl;
            numbers = refl;
            indices = sym (opened_none (less d q.type));
            wrote = refl;
            raises = refl;
            lowers = refl;
            after = λ f k. (
              then_open ending (join_kids (fold_chunks n.type) ∷ []) ks (end_first s l) (does Join ∷ []) l true [] true pl sm tt
                  (gathers_all n.type (subst (Counted (past ++ (end_first s l ∷ []))) (ap rows_of (sym (feed_none (less d q.type) (end_first s l) 0 hs none))) (counted_before past (end_first s l) (rows_of hs) ct)) (record {
                    mind_is = refl;
                    left_is = refl;
                    rest = refl;
                    off = refl;
                    shape_is = sh ∙ ap (λ z. Some (gathers n.type (rows_of z))) (sym (feed_none (less d q.type) (end_first s l) 0 hs none));
                  })) (still (end_first s l) none),
              then_steady (desk m [] [] true) ending (join_kids (fold_chunks n.type) ∷ []) ks (head past [] l false [] true) (end_first s l) (does Join ∷ []) l true [] true
                  (λ u v. ap (λ z. shape_rows z u + 0) sh) refl,
            );
          },
          tt,
        )
    chunks_own n e nm t sp b en ct un (x ∷ xs) closed ty =
        let m : Mind = by_chunk n.mark n.type n.child e (rows_of hs) in
        let l : Local = chunked_local n (count ks) e (rows_of hs) in
        let a : Act = take_first s l x in
        let new : Tasks = started_task n.child n.mark (under q.name (count ks)) (inside e) (x ∷ []) true in
        let m2 : Mind = by_chunk n.mark n.type n.child (next e) (rows_of hs + rows_in x.1) in
        let l2 : Local = chunked_local n (suc (count ks)) (next e) (rows_of hs + rows_in x.1) in (
          record {
            name = refl;
            kind = refl;
            refusal = refl;
            misfit = refl;
            numbers = refl;
            indices = ap (λ z. (e.last + 1) ∷ z) (sym (chunk_opened (less d q.type) n (count ks) e en b));
            wrote = refl;
            raises = refl;
            lowers = refl;
            after = λ f k.
                let w : Shows s number (less d q.type) q 0 (add ks new) (feed (less d q.type) a 0 hs) × (rows_of (feed (less d q.type) a 0 hs) ≡ rows_of hs + rows_in x.1) =
                chunk_fed s number (less d q.type) q n e x a ks hs en b sp (no_refusal (start_fault s n.child n.mark) f) (subst (λ z. Typed z x.1) t ty.0) kids nm refl refl refl in (
                  then_open m2 [] (add ks new) a [] l2 false xs closed pl sm ty.1
                      (splits n (next e) nm t sp b en (subst (Counted (past ++ (a ∷ []))) (sym w.1) (counted_now past a (rows_of hs + rows_in x.1) (inl refl))) (record {
                        mind_is = ap (by_chunk n.mark n.type n.child (next e)) (sym w.1);
                        local_is = ap (λ z. chunked_local n z (next e) (rows_of hs + rows_in x.1)) (sym (count-add ks _ _)) ∙ ap (chunked_local n (count (add ks new)) (next e)) (sym w.1);
                        idle = refl;
                        rest = refl;
                        on = refl;
                        unshaped = shape_last past a un;
                      })) w.0,
                  then_steady (desk m [] (x ∷ xs) closed) m2 [] (add ks new) (head past [] l false (x ∷ xs) closed) a [] l2 false xs closed
                      (λ u v. let h : (rows_of hs + rows_in x.1) + row_total xs ≡ rows_of hs + (rows_in x.1 + row_total xs) = omega arith in h) refl,
                );
          },
          tt,
        )
