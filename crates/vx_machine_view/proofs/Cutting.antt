-- What a dictionary node can do that cuts runs is what the abstract one can.
use Rattle.std.proofs.Common.{◌≡◌, ◌+◌, ◌*◌, ◌&&◌, ◌==◌, ◌∷◌, ◌++◌, ◌∙◌, ℕ, zero, suc, inl, Bool, true, false, not, List, map, length, refl, sym, ap, subst, arith, get_or, eq-eqb, Some, None, []}
use Rattle.vx_model.specs.Words.{total_by}
use Rattle.vx_model.specs.Ty.{Ty}
use Rattle.vx_layout_spec.specs.LayoutTree.{LayoutData, row_count, renamed, gathered, dict_layout}
use Rattle.vx_rules.specs.Runs.{code_type}
use Rattle.vx_tasks.specs.Task.{Join}
use Rattle.vx_plan.specs.PlanData.{Setting, Item, row_total, rows_in}
use Rattle.vx_plan.proofs.InOrderLaws.{renamed-gathered}
use Rattle.vx_machine_turns.specs.Locals.{DictNode, RunsSoFar, Local, runs_local}
use Rattle.vx_machine_turns.specs.Acts.{Seed, Act, runs_of, does, shape_in}
use Rattle.vx_machine_turns.specs.Dict.{cut_puts, rest_eof, next_cut, after_cut, runs_kept, runs_ends}
use Rattle.vx_machine_turns.specs.Readings.{run_layouts, shaped}
use Rattle.vx_machine_turns.specs.Scripts.{with_holds, all_uses, filled}
use Rattle.vx_machine_turns.specs.Fuels.{Fuel, less}
use Rattle.vx_machine_steps.specs.Tree.{Head, Tree, Work, feed}
use Rattle.vx_machine_steps.specs.Moves.{is_full, all_paths, all_over, take_first, end_first}
use Rattle.vx_machine_state.specs.State.{fold_runs, Next, join_kids, Mind, by_run, ending, made, Desk, Tasks, no_tasks, task_then}
use Rattle.vx_machine_state.specs.Coder.{coder_of}
use Rattle.vx_machine_state.specs.Coding.{Deed, puts_codes, puts_values, run_rows, deeds_at, last_deeds, deed_next, deed_nexts, runs_laid}
use Rattle.vx_machine_state.specs.Acts.{count, add, give, end_at, run_tasks, layouts_in, folded, do_act}
use Rattle.vx_machine_state.specs.Moves.{has_room, all_made, own_step}
use Rattle.vx_machine_state.specs.Images.{Careful}
use Rattle.vx_machine_state.specs.Typed.{Typed, AllTyped}
use Rattle.vx_machine_view.specs.Deeds.{deed_act, deed_acts, run_types, Going, run_count, summed, Cutting, Coded}
use Rattle.vx_machine_view.specs.Shows.{Counted, Stage, cuts, last_cuts, Shows, laid, types_of, task_rows, shape_rows}
use Rattle.vx_machine_view.specs.Steps.{SameStep}
use Rattle.vx_machine_view.proofs.Words.{shape_last, shape_kept, type_fits}
use Rattle.vx_machine_view.proofs.Feeding.{opened_none, Leaves, feed_none, feed_types, count_types, room_is, given}
use Rattle.vx_machine_view.proofs.Sprouting.{not_full, run_shows, run_kinds, end_shows}
use Rattle.vx_machine_view.proofs.Deeding.{acts_at, last_acts, types_more, types_length, going_at, cutting_at, last_going, last_sum, runs_total}
use Rattle.vx_machine_view.proofs.Joining.{made_is, AllLaid, laid_all}
use Rattle.vx_machine_view.proofs.Laying.{made_each}
use Rattle.vx_machine_view.proofs.Folding.{gathered_rows, and_yes}
use Rattle.vx_machine_view.proofs.Acting.{desk, head, Own, then_open, then_done, then_steady, still, one_pair, counted_before, counted_now, no_refusal}

-- runs' layouts, with segments renamed
runs_renamed : (number : List ℕ → ℕ) (t : Ty) (ns : List ℕ) (ls : List (LayoutData (List ℕ))) → map (renamed number) (run_layouts t ns ls) ≡ runs_laid t ns (map (renamed number) ls)
runs_renamed number t [] ls = refl
runs_renamed number t (n ∷ ns) [] = refl
runs_renamed number t (n ∷ ns) (l ∷ []) = refl
runs_renamed number t (n ∷ ns) (k ∷ v ∷ ls) = ap (λ z. renamed number (dict_layout t n v k) ∷ z) (runs_renamed number t ns ls)

module _ (s : Setting) (number : List ℕ → ℕ) (segment_number : ℕ) (all : List (List ℕ)) (d : Fuel) (q0 : Seed) (j0 : ℕ) (q : Seed) (places : ℕ) (ks more : Tasks) (hs r : Tree) (past : List Act)
    (law : Careful s) (pl : places ≡ 1 + get_or q0.spare j0 0) (sm : Shows s number d q0 (suc j0) more r) (kids : Shows s number (less d q.type) q 0 ks hs) (n : DictNode) (k : Coded q (less d q.type) n) where
  abbrev own_desk : Mind → List Next → List Item → Bool → Desk
  own_desk mind left xs closed = desk s number segment_number all d q0 j0 q places ks more hs r past mind left xs closed

  abbrev own_head : List Act → List Act → Local → Bool → List Item → Bool → Head
  own_head done todo l over xs closed = head s number segment_number all d q0 j0 q places ks more hs r past done todo l over xs closed

  -- ---- codes and values

  -- so it goes on behind a deed, where so many runs have children
  abbrev pub Onward : Mind → List Next → List Act → Local → Bool → List Deed → ℕ → Type 0
  Onward m left todo l over ds end = (new : Tasks) (a : Act) (deep : Tree) (c : ℕ) → shape_in (past ++ (a ∷ [])) ≡ shape_in past → types_of deep ≡ run_types n.options n.type c → Going n c ds end
      → Stage s (less d q.type) m left new q (past ++ (a ∷ [])) todo l over deep

  deed_own : (m : Mind) (l : Local) (over : Bool) (x : Deed) (ds : List Deed) (holds : List (List ℕ)) (left : List Next) (todo : List Act) (c end : ℕ) → types_of hs ≡ run_types n.options n.type c → Going n c (x ∷ ds) end
      → ((a : Act) → a.shape ≡ None → shape_in (past ++ (a ∷ [])) ≡ shape_in past) → Onward m left todo l over ds end
      → ((a : Act) → a.shape ≡ None → (u v : ℕ) → task_rows over l (past ++ (a ∷ [])) u ≡ task_rows over l past v) → (xs : List Item) (closed : Bool) → AllTyped q.type xs
      → Own s number segment_number all d q0 j0 q places ks more hs r past m (deed_next (coder_of n) x ∷ left) (with_holds holds (deed_act s n x) ∷ todo) l over xs closed
  deed_own m l over (puts_codes j e true i) ds holds left todo c end ty_is go shaped_as onward rows xs closed ty =
      let a : Act = with_holds holds (deed_act s n (puts_codes j e true i)) in
      let w : (b : ℕ) × (c ≡ suc b) = some c go.0 in
      let before : List Ty = run_types n.options n.type w.0 in
      let place : length before ≡ j = (let x : length before ≡ 2 * w.0 = types_length n.options n.type w.0 in let y : c ≡ suc w.0 = w.1 in let z : j + 2 ≡ 2 * c = go.0 in omega (arith, x, y, z)) in
      let here : types_of hs ≡ before ++ (code_type n.options ∷ n.type ∷ []) = ty_is ∙ ap (run_types n.options n.type) w.1 ∙ types_more n.options n.type w.0 in
      one_pair (SameStep s number segment_number d q0 j0 (task_then (own_desk m (deed_next (coder_of n) (puts_codes j e true i) ∷ left) xs closed) ks more) (Work (own_head past (a ∷ todo) l over xs closed) hs r))
      (own_step (own_desk m (deed_next (coder_of n) (puts_codes j e true i) ∷ left) xs closed) more (do_act s segment_number (own_desk m (deed_next (coder_of n) (puts_codes j e true i) ∷ left) xs closed) ks (deed_next (coder_of n) (puts_codes j e true i) ∷ left))) _
      (has_room j ks) (not (is_full q 0 hs j))
      (room_is s number (less d q.type) q 0 j j ks hs kids (let x : length (types_of hs) ≡ 2 * c = ap length ty_is ∙ types_length n.options n.type c in let y : j + 2 ≡ 2 * c = go.0 in omega (arith, x, y)) (let h : j ≡ 0 + j = omega arith in h))
      (λ b. record {
        name = refl;
        kind = refl;
        refusal = refl;
        misfit = refl;
        numbers = refl;
        indices = sym (opened_none (less d q.type));
        wrote = refl;
        raises = refl;
        lowers = refl;
        after = λ f y. (
          then_open s number segment_number all d q0 j0 q places ks more hs r past m left (give j i ks) a todo l over xs closed pl sm ty
              (onward (give j i ks) a (feed (less d q.type) a 0 hs) c (shaped_as a refl) (feed_types (less d q.type) a 0 hs refl ∙ ty_is) go.2)
              (given s number (less d q.type) q 0 j j a i (code_type n.options) before (n.type ∷ []) ks hs kids here place go.1 (let h : j ≡ 0 + j = omega arith in h) refl refl refl),
          then_steady s number segment_number all d q0 j0 q places ks more hs r past (own_desk m (deed_next (coder_of n) (puts_codes j e true i) ∷ left) xs closed) m left (give j i ks) (own_head past (a ∷ todo) l over xs closed) a todo l over xs closed
              (λ u v. ap (λ z. z + row_total xs) (rows a refl u v)) refl,
        );
      })
    where
      some : (c : ℕ) → j + 2 ≡ 2 * c → (b : ℕ) × (c ≡ suc b)
      some zero e = absurd (omega (arith, e))
      some (suc b) e = (b, refl)
  deed_own m l over (puts_codes j e false i) ds holds left todo c end ty_is go shaped_as onward rows xs closed ty =
      let a : Act = with_holds holds (deed_act s n (puts_codes j e false i)) in
      let len : length (types_of hs) ≡ 2 * c = ap length ty_is ∙ types_length n.options n.type c in
      let at : j ≡ length (types_of hs) = go.0 ∙ sym len in
      let all_of : j ≡ count ks = at ∙ sym (count_types s number (less d q.type) q 0 ks hs kids) in
      let w = run_kinds s number (less d q.type) q n j e a hs k at refl in
      one_pair (SameStep s number segment_number d q0 j0 (task_then (own_desk m (deed_next (coder_of n) (puts_codes j e false i) ∷ left) xs closed) ks more) (Work (own_head past (a ∷ todo) l over xs closed) hs r))
      (own_step (own_desk m (deed_next (coder_of n) (puts_codes j e false i) ∷ left) xs closed) more (do_act s segment_number (own_desk m (deed_next (coder_of n) (puts_codes j e false i) ∷ left) xs closed) ks (deed_next (coder_of n) (puts_codes j e false i) ∷ left))) _
      true (not (is_full q 0 hs j)) (ap not (sym (not_full q 0 j hs (omega (arith, at)))))
      (λ b. record {
        name = refl;
        kind = refl;
        refusal = refl;
        misfit = refl;
        numbers = refl;
        indices = sym w.1;
        wrote = refl;
        raises = refl;
        lowers = refl;
        after = λ f y. (
          then_open s number segment_number all d q0 j0 q places ks more hs r past m left (add ks (run_tasks (coder_of n) q.name j e i)) a todo l over xs closed pl sm ty
              (onward (add ks (run_tasks (coder_of n) q.name j e i)) a (feed (less d q.type) a 0 hs) (suc c) (shaped_as a refl) (w.0 ∙ ap (λ z. z ++ (code_type n.options ∷ n.type ∷ [])) ty_is ∙ sym (types_more n.options n.type c)) go.2)
              (run_shows s number (less d q.type) q n j e a i ks hs k (no_refusal _ f) go.1 kids all_of refl refl refl),
          then_steady s number segment_number all d q0 j0 q places ks more hs r past (own_desk m (deed_next (coder_of n) (puts_codes j e false i) ∷ left) xs closed) m left (add ks (run_tasks (coder_of n) q.name j e i)) (own_head past (a ∷ todo) l over xs closed) a todo l over xs closed
              (λ u v. ap (λ z. z + row_total xs) (rows a refl u v)) refl,
        );
      })
  deed_own m l over (puts_values j i) ds holds left todo c end ty_is go shaped_as onward rows xs closed ty =
      let a : Act = with_holds holds (deed_act s n (puts_values j i)) in
      let w : (b : ℕ) × (c ≡ suc b) = some c go.0 in
      let before : List Ty = run_types n.options n.type w.0 in
      let place : length before ≡ j = (let x : length before ≡ 2 * w.0 = types_length n.options n.type w.0 in let y : c ≡ suc w.0 = w.1 in let z : j + 2 ≡ 2 * c = go.0 in omega (arith, x, y, z)) in
      let here : types_of hs ≡ before ++ (code_type n.options ∷ n.type ∷ []) = ty_is ∙ ap (run_types n.options n.type) w.1 ∙ types_more n.options n.type w.0 in
      let zero_j : j ≡ 0 + j = omega arith in
      one_pair (SameStep s number segment_number d q0 j0 (task_then (own_desk m (deed_next (coder_of n) (puts_values j i) ∷ left) xs closed) ks more) (Work (own_head past (a ∷ todo) l over xs closed) hs r))
      (own_step (own_desk m (deed_next (coder_of n) (puts_values j i) ∷ left) xs closed) more (do_act s segment_number (own_desk m (deed_next (coder_of n) (puts_values j i) ∷ left) xs closed) ks (deed_next (coder_of n) (puts_values j i) ∷ left))) _
      (has_room (suc j) ks) (not (is_full q 0 hs (suc j)))
      (room_is s number (less d q.type) q 0 (suc j) (suc j) ks hs kids (let x : length (types_of hs) ≡ 2 * c = ap length ty_is ∙ types_length n.options n.type c in let y : j + 2 ≡ 2 * c = go.0 in omega (arith, x, y)) (let h : suc j ≡ 0 + suc j = omega arith in h))
      (λ b. record {
        name = refl;
        kind = refl;
        refusal = refl;
        misfit = refl;
        numbers = refl;
        indices = sym (opened_none (less d q.type));
        wrote = refl;
        raises = refl;
        lowers = refl;
        after = λ f y. (
          then_open s number segment_number all d q0 j0 q places ks more hs r past m left (end_at j i ks) a todo l over xs closed pl sm ty
              (onward (end_at j i ks) a (feed (less d q.type) a 0 hs) c (shaped_as a refl) (feed_types (less d q.type) a 0 hs refl ∙ ty_is) go.2)
              (end_shows s number (less d q.type) q 0 j a i (code_type n.options) n.type before ks hs kids here place go.1 (ap (λ z. (suc z, i) ∷ []) zero_j) (ap (λ z. z ∷ suc z ∷ []) zero_j) refl),
          then_steady s number segment_number all d q0 j0 q places ks more hs r past (own_desk m (deed_next (coder_of n) (puts_values j i) ∷ left) xs closed) m left (end_at j i ks) (own_head past (a ∷ todo) l over xs closed) a todo l over xs closed
              (λ u v. ap (λ z. z + row_total xs) (rows a refl u v)) refl,
        );
      })
    where
      some : (c : ℕ) → j + 2 ≡ 2 * c → (b : ℕ) × (c ≡ suc b)
      some zero e = absurd (omega (arith, e))
      some (suc b) e = (b, refl)

  -- ---- it waits for the next chunk

  idle_own : (so_far : RunsSoFar) (j : Item) (rows : ℕ) → Counted past rows → Typed n.type j.1 → types_of hs ≡ run_types n.options n.type (run_count so_far) → Cutting so_far j rows → shape_in past ≡ None
      → (xs : List Item) (closed : Bool) → AllTyped q.type xs
      → Own s number segment_number all d q0 j0 q places ks more hs r past (by_run (coder_of n) so_far j rows) [] [] (runs_local n so_far j rows) false xs closed
  idle_own so_far j rows ct tj ty_is cu un [] false ty = tt
  idle_own so_far j rows ct tj ty_is cu un [] true ty =
      let l : Local = runs_local n so_far j rows in
      let ns : List ℕ = run_rows (coder_of n) so_far j in
      let left : List Next = deed_nexts (coder_of n) (last_deeds (coder_of n) so_far j) ++ (join_kids (fold_runs n.type ns) ∷ []) in
      let a : Act = end_first s l in
      let todo : List Act = filled [] (runs_ends s n so_far j) in
      let none : Leaves a 0 = record { gives = λ x y. refl; shuts = λ x y. refl; starts = refl } in
      let sh : shape_in (past ++ (a ∷ [])) ≡ Some (runs_of n.type rows ns) = shape_last past a un in (
        record {
          name = refl;
          kind = refl;
          refusal = refl;
          misfit = refl;
          numbers = refl;
          indices = ap (λ z. (rest_eof (after_cut n so_far j)).last ∷ (2 * suc (length (next_cut n so_far j).closed)) ∷ z) (sym (opened_none (less d q.type)));
          wrote = refl;
          raises = refl;
          lowers = refl;
          after = λ f m. (
            then_open s number segment_number all d q0 j0 q places ks more hs r past ending left ks a todo l true [] true pl sm tt
                (last_cuts n rows ns (run_count so_far) (last_deeds (coder_of n) so_far j) k (counted_before past a rows ct) (last_sum n so_far j rows cu) (feed_types (less d q.type) a 0 hs refl ∙ ty_is) (last_going n so_far j rows cu) (record {
                  mind_is = refl;
                  left_is = refl;
                  rest = ap (λ z. filled [] (z ++ (does Join ∷ []))) (last_acts s n so_far j);
                  off = refl;
                  shape_is = sh;
                })) (still s number segment_number all d q0 j0 q places ks more hs r past law pl sm kids a none),
            then_steady s number segment_number all d q0 j0 q places ks more hs r past (own_desk (by_run (coder_of n) so_far j rows) [] [] true) ending left ks (own_head past [] l false [] true) a todo l true [] true (λ u v. ap (λ z. shape_rows z u + 0) sh) refl,
          );
        },
        tt,
      )
  idle_own so_far j rows ct tj ty_is cu un (i ∷ xs) closed ty =
      let l : Local = runs_local n so_far j rows in
      let a : Act = take_first s l i in
      let after : RunsSoFar = after_cut n so_far j in
      let l2 : Local = runs_local n after i (rows + rows_in i.1) in
      let m2 : Mind = by_run (coder_of n) after i (rows + rows_in i.1) in
      let left : List Next = deed_nexts (coder_of n) (deeds_at (coder_of n) so_far j) in
      let todo : List Act = filled (runs_kept after i) (cut_puts s n j.0 0 so_far.base so_far.eof so_far.begun (next_cut n so_far j).closed (next_cut n so_far j).codes) in
      let none : Leaves a 0 = record { gives = λ x y. refl; shuts = λ x y. refl; starts = refl } in
      let ti : Typed n.type i.1 = subst (λ z. Typed z i.1) k.type_is ty.0 in (
        record {
          name = refl;
          kind = refl;
          refusal = refl;
          misfit = ap not (type_fits n.type i.1 ti);
          numbers = refl;
          indices = ap (λ z. (rest_eof (after_cut n so_far j)).last ∷ (2 * length (next_cut n so_far j).closed + 1) ∷ z) (sym (opened_none (less d q.type)));
          wrote = refl;
          raises = refl;
          lowers = refl;
          after = λ f m. (
            then_open s number segment_number all d q0 j0 q places ks more hs r past m2 left ks a todo l2 false xs closed pl sm ty.1
                (cuts n after i (rows + rows_in i.1) (run_count so_far) (deeds_at (coder_of n) so_far j) k (counted_now past a (rows + rows_in i.1) (inl refl)) (record {
                  mind_is = refl;
                  local_is = refl;
                  left_is = refl;
                  rest = ap (filled (runs_kept after i)) (acts_at s n so_far j);
                  on = refl;
                  unshaped = shape_last past a un;
                  typed = ti;
                  kids = feed_types (less d q.type) a 0 hs refl ∙ ty_is;
                  going = going_at n so_far j rows cu;
                  cutting = cutting_at n so_far j rows cu i;
                })) (still s number segment_number all d q0 j0 q places ks more hs r past law pl sm kids a none),
            then_steady s number segment_number all d q0 j0 q places ks more hs r past (own_desk (by_run (coder_of n) so_far j rows) [] (i ∷ xs) closed) m2 left ks (own_head past [] l false (i ∷ xs) closed) a todo l2 false xs closed
                (λ u v. let z : (rows + rows_in i.1) + row_total xs ≡ rows + (rows_in i.1 + row_total xs) = omega arith in z) refl,
          );
        },
        tt,
      )

  pub cuts_own : (so_far : RunsSoFar) (i : Item) (rows c : ℕ) (ds : List Deed) → Counted past rows → Typed n.type i.1 → types_of hs ≡ run_types n.options n.type c → Going n c ds (run_count so_far) → Cutting so_far i rows
      → shape_in past ≡ None → (xs : List Item) (closed : Bool) → AllTyped q.type xs
      → Own s number segment_number all d q0 j0 q places ks more hs r past (by_run (coder_of n) so_far i rows) (deed_nexts (coder_of n) ds) (filled (runs_kept so_far i) (deed_acts s n ds)) (runs_local n so_far i rows) false xs closed
  cuts_own so_far i rows c [] ct ti ty_is go cu un xs closed ty = idle_own so_far i rows ct ti (ty_is ∙ ap (run_types n.options n.type) go) cu un xs closed ty
  cuts_own so_far i rows c (x ∷ ds) ct ti ty_is go cu un xs closed ty =
      deed_own (by_run (coder_of n) so_far i rows) (runs_local n so_far i rows) false x ds (all_uses (deed_acts s n ds) ++ runs_kept so_far i) (deed_nexts (coder_of n) ds) (filled (runs_kept so_far i) (deed_acts s n ds)) c (run_count so_far) ty_is go
      (λ a e. shape_last past a un ∙ e ∙ sym un)
      (λ new a deep b same kinds going. cuts n so_far i rows b ds k (counted_before past a rows ct) (record {
        mind_is = refl;
        local_is = refl;
        left_is = refl;
        rest = refl;
        on = refl;
        unshaped = same ∙ un;
        typed = ti;
        kids = kinds;
        going = going;
        cutting = cu;
      })) (λ a e u v. refl) xs closed ty

  -- ---- behind the end

  join_own : (rows : ℕ) (ns : List ℕ) (l : Local) → Counted past rows → rows ≡ summed ns → types_of hs ≡ run_types n.options n.type (length ns) → shape_in past ≡ Some (runs_of n.type rows ns)
      → (all_over hs ≡ true → all_paths hs ≡ []) → (xs : List Item) (closed : Bool) → AllTyped q.type xs
      → Own s number segment_number all d q0 j0 q places ks more hs r past ending (join_kids (fold_runs n.type ns) ∷ []) (does Join ∷ []) l true xs closed
  join_own rows ns l ct sum_is ty_is sh free xs closed ty =
      let a : Act = does Join in
      let t : Ty = n.type in
      let m : Mind = made (folded (fold_runs t ns) (layouts_in ks)) in
      let none : Leaves a 0 = record { gives = λ x y. refl; shuts = λ x y. refl; starts = refl } in
      let same : feed (less d q.type) a 0 hs ≡ hs = feed_none (less d q.type) a 0 hs none in
      let made_all : all_made ks ≡ all_over hs = made_is s number (less d q.type) q 0 ks hs kids in
      let many : count ks ≡ 2 * length ns = count_types s number (less d q.type) q 0 ks hs kids ∙ ap length ty_is ∙ types_length n.options n.type (length ns) in
      let kept : shape_in (past ++ (a ∷ [])) ≡ Some (runs_of t rows ns) = shape_kept past a (runs_of t rows ns) sh in
      one_pair (SameStep s number segment_number d q0 j0 (task_then (own_desk ending (join_kids (fold_runs t ns) ∷ []) xs closed) ks more) (Work (own_head past (a ∷ []) l true xs closed) hs r))
      (own_step (own_desk ending (join_kids (fold_runs t ns) ∷ []) xs closed) more (do_act s segment_number (own_desk ending (join_kids (fold_runs t ns) ∷ []) xs closed) ks (join_kids (fold_runs t ns) ∷ []))) _
      (all_made ks && (count ks == 2 * length ns)) (all_over hs) (ap (λ z. all_made ks && z) (eq-eqb (count ks) (2 * length ns) many) ∙ and_yes (all_made ks) ∙ made_all)
      (λ b. let w : AllLaid s number ks hs = laid_all s number (less d q.type) q 0 ks hs kids (made_all ∙ b) (free b) in
      let rows_all : total_by row_count (runs_laid t ns (layouts_in ks)) ≡ rows = runs_total t ns (layouts_in ks) (made_each s number (less d q.type) q 0 ks hs kids (made_all ∙ b) ∙ many) ∙ sym sum_is in record {
        name = refl;
        kind = refl;
        refusal = refl;
        misfit = refl;
        numbers = refl;
        indices = sym (opened_none (less d q.type));
        wrote = refl;
        raises = refl;
        lowers = refl;
        after = λ f num. (
          then_done s number segment_number all d q0 j0 q places ks more hs r past m [] no_tasks a [] l true xs closed pl sm ty (record {
            layout = folded (fold_runs t ns) (layouts_in ks);
            mind_is = refl;
            idle = refl;
            no_kids = refl;
            rest = refl;
            off = refl;
            below = ap all_over same ∙ b;
            free = ap all_paths same ∙ free b;
            laid_is = ap (λ z. map (renamed number) (shaped z (laid (feed (less d q.type) a 0 hs)))) kept
                ∙ ap (λ z. map (renamed number) (gathered t rows (run_layouts t ns (laid z)) ∷ [])) same
                ∙ ap (λ z. z ∷ []) (renamed-gathered number t rows (run_layouts t ns (laid hs))
                ∙ ap (gathered t rows) (runs_renamed number t ns (laid hs) ∙ ap (runs_laid t ns) (sym w.layouts)) ∙ ap (λ z. gathered t z (runs_laid t ns (layouts_in ks))) (sym rows_all));
            rows_are = λ u. gathered_rows t (runs_laid t ns (layouts_in ks)) ∙ rows_all ∙ sym (ap (λ z. shape_rows z u) kept);
          }),
          then_steady s number segment_number all d q0 j0 q places ks more hs r past (own_desk ending (join_kids (fold_runs t ns) ∷ []) xs closed) m [] no_tasks (own_head past (a ∷ []) l true xs closed) a [] l true xs closed (λ u v. ap (λ z. shape_rows z u + row_total xs) kept ∙ sym (ap (λ z. shape_rows z v + row_total xs) sh)) refl,
        );
      })

  pub last_own : (rows : ℕ) (ns : List ℕ) (c : ℕ) (ds : List Deed) (l : Local) → Counted past rows → rows ≡ summed ns → types_of hs ≡ run_types n.options n.type c → Going n c ds (length ns)
      → shape_in past ≡ Some (runs_of n.type rows ns) → (filled [] (deed_acts s n ds ++ (does Join ∷ [])) ≡ does Join ∷ [] → all_over hs ≡ true → all_paths hs ≡ []) → (xs : List Item) (closed : Bool) → AllTyped q.type xs
      → Own s number segment_number all d q0 j0 q places ks more hs r past ending (deed_nexts (coder_of n) ds ++ (join_kids (fold_runs n.type ns) ∷ [])) (filled [] (deed_acts s n ds ++ (does Join ∷ []))) l true xs closed
  last_own rows ns c [] l ct sum_is ty_is go sh free xs closed ty = join_own rows ns l ct sum_is (ty_is ∙ ap (run_types n.options n.type) go) sh (free refl) xs closed ty
  last_own rows ns c (x ∷ ds) l ct sum_is ty_is go sh free xs closed ty =
      deed_own ending l true x ds (all_uses (deed_acts s n ds ++ (does Join ∷ [])) ++ []) (deed_nexts (coder_of n) ds ++ (join_kids (fold_runs n.type ns) ∷ [])) (filled [] (deed_acts s n ds ++ (does Join ∷ []))) c (length ns) ty_is go
      (λ a e. shape_kept past a (runs_of n.type rows ns) sh ∙ sym sh)
      (λ new a deep b same kinds going. last_cuts n rows ns b ds k (counted_before past a rows ct) sum_is kinds going (record { mind_is = refl; left_is = refl; rest = refl; off = refl; shape_is = same ∙ sh }))
      (λ a e u v. ap (λ z. shape_rows z u) (shape_kept past a (runs_of n.type rows ns) sh) ∙ sym (ap (λ z. shape_rows z v) sh)) xs closed ty
