-- What a dictionary node can do before its first chunk, at it, and once it hands all to its fallback.
use Rattle.std.proofs.Common.{◌≡◌, ◌+◌, ◌∷◌, ◌++◌, ◌∙◌, ℕ, suc, Bool, true, false, not, if◌then◌else◌, List, refl, sym, ap, subst, inl, arith, get_or, Some, None, []}
use Rattle.vx_path.specs.Path.{under}
use Rattle.vx_tasks.specs.Task.Prompt.{Call}
use Rattle.vx_tasks.specs.Task.{Free, Take, TakeEnd}
use Rattle.vx_plan.specs.PlanData.{Setting, Item, row_total, rows_in}
use Rattle.vx_plan.specs.DictNode.{is_dictionary}
use Rattle.vx_machine_turns.specs.Locals.{DictNode, RunsSoFar, Local, dict_local, fallback_local, runs_local}
use Rattle.vx_machine_turns.specs.Acts.{Seed, Act, Turn, passes, does, put_item, close_queues, shape_in}
use Rattle.vx_machine_turns.specs.Dict.{fallback_seed, starts_fallback, dict_empty_end, runs_first, fallback_first, dict_turn, runs_kept}
use Rattle.vx_machine_turns.specs.Starts.{start_fault}
use Rattle.vx_machine_turns.specs.Turns.{kept}
use Rattle.vx_machine_turns.specs.Scripts.{as_kind, with_holds, all_uses, filled}
use Rattle.vx_machine_turns.specs.Fuels.{Fuel, less}
use Rattle.vx_machine_steps.specs.Tree.{Head, Tree, Leaf, Work, feed, opened}
use Rattle.vx_machine_steps.specs.Moves.{doing, due, move_own}
use Rattle.vx_machine_state.specs.State.{Next, probe, shut_kids, Mind, as_is, by_probe, asking, by_run, passing, Desk, Tasks, no_tasks, task_then}
use Rattle.vx_machine_state.specs.Start.{first_indices, started_task}
use Rattle.vx_machine_state.specs.Coder.{coder_of}
use Rattle.vx_machine_state.specs.Coding.{no_runs}
use Rattle.vx_machine_state.specs.Acts.{hand_all, probed, do_act}
use Rattle.vx_machine_state.specs.Moves.{own_step}
use Rattle.vx_machine_state.specs.Images.{Careful}
use Rattle.vx_machine_state.specs.Typed.{Typed, AllTyped}
use Rattle.vx_machine_view.specs.Deeds.{Coded}
use Rattle.vx_machine_view.specs.Shows.{Counted, probes, falls_back, cuts, passes_on, Shows, rows_of, types_of, shape_rows}
use Rattle.vx_machine_view.specs.Steps.{AllPairs, SameStep}
use Rattle.vx_machine_view.proofs.Words.{true_false, shape_last, type_fits}
use Rattle.vx_machine_view.proofs.Feeding.{opened_none, Leaves, feed_none}
use Rattle.vx_machine_view.proofs.Sprouting.{back_opened, back_shows}
use Rattle.vx_machine_view.proofs.Acting.{desk, head, Own, then_open, then_same, then_steady, still, counted_before, counted_now, no_refusal}

-- ---- before a child is started

module _ (s : Setting) (number : List ℕ → ℕ) (segment_number : ℕ) (all : List (List ℕ)) (d : Fuel) (q0 : Seed) (j0 : ℕ) (q : Seed) (places : ℕ) (more : Tasks) (r : Tree) (past : List Act)
    (law : Careful s) (pl : places ≡ 1 + get_or q0.spare j0 0) (sm : Shows s number d q0 (suc j0) more r) (n : DictNode) (k : Coded q (less d q.type) n) where
  abbrev own_desk : Mind → List Next → List Item → Bool → Desk
  own_desk mind left xs closed = desk s number segment_number all d q0 j0 q places no_tasks more Leaf r past mind left xs closed

  abbrev own_head : List Act → List Act → Local → Bool → List Item → Bool → Head
  own_head done todo l over xs closed = head s number segment_number all d q0 j0 q places no_tasks more Leaf r past done todo l over xs closed

  abbrev backed : Tasks
  backed = started_task n.fallback n.mark (under q.name 0) n.eof [] false

  -- what it does at its first chunk, by whether the image is a dictionary
  abbrev turn_by : Bool → Item → Turn
  turn_by b i = if b then runs_first n i else fallback_first s n i

  opened_back : (a : Act) → a.starts ≡ fallback_seed n ∷ [] → opened (less d q.type) a.starts ≡ first_indices n.fallback n.mark n.eof
  opened_back a st = back_opened (less d q.type) q n a k st

  no_kids : Shows s number (less d q.type) q 0 no_tasks Leaf
  no_kids = tt

  -- it takes its first chunk
  abbrev TakesBy : Bool → Item → List Item → Bool → Type 0
  TakesBy b i xs closed =
      let c : Desk = own_desk (by_probe (coder_of n) n.eof) [] (i ∷ xs) closed in
      let h : Head = own_head past [] (dict_local n) false (i ∷ xs) closed in
      let u : Turn = turn_by b i in
      AllPairs (SameStep s number segment_number d q0 j0 (task_then c no_tasks more) (Work h Leaf r)) (own_step c more (do_act s segment_number c no_tasks []) ∷ [])
      (move_own all d h Leaf r (Some (doing h (with_holds (all_uses u.more ++ kept u.after) (as_kind Take u.first)) (filled (kept u.after) u.more) u.after false xs)))

  take_by : (i : Item) (b : Bool) → b ≡ is_dictionary (s.image n.options.probe i.1) → shape_in past ≡ None → (xs : List Item) (closed : Bool) → AllTyped q.type (i ∷ xs) → TakesBy b i xs closed
  take_by i true e un xs closed ty =
      let u : Turn = turn_by true i in
      let a : Act = with_holds (all_uses u.more ++ kept u.after) (as_kind Take u.first) in
      let todo : List Act = filled (kept u.after) u.more in
      let left : List Next = probe (coder_of n) n.eof i ∷ [] in
      let none : Leaves a 0 = record { gives = λ x y. refl; shuts = λ x y. refl; starts = refl } in
      let ti : Typed n.type i.1 = subst (λ z. Typed z i.1) k.type_is ty.0 in (
        record {
          name = refl;
          kind = refl;
          refusal = refl;
          misfit = ap not (type_fits n.type i.1 ti);
          numbers = ap (λ z. if z then (0 + rows_in i.1) ∷ [] else []) (sym e);
          indices = sym (opened_none (less d q.type));
          wrote = refl;
          raises = refl;
          lowers = refl;
          after = λ f m. (
            then_open s number segment_number all d q0 j0 q places no_tasks more Leaf r past asking left no_tasks a todo u.after false xs closed pl sm ty.1
                (probes n i k refl (record {
                  mind_is = refl;
                  local_is = ap (λ z. (turn_by z i).after) e;
                  left_is = refl;
                  rest = ap (λ z. filled (kept (turn_by z i).after) (turn_by z i).more) e;
                  on = refl;
                  unshaped = shape_last past a un;
                  typed = ti;
                  counted = λ y. counted_now past a (0 + rows_in i.1) (inl refl);
                })) (still s number segment_number all d q0 j0 q places no_tasks more Leaf r past law pl sm no_kids a none),
            then_steady s number segment_number all d q0 j0 q places no_tasks more Leaf r past (own_desk (by_probe (coder_of n) n.eof) [] (i ∷ xs) closed) asking left no_tasks (own_head past [] (dict_local n) false (i ∷ xs) closed) a todo u.after false xs closed
                (λ x y. let z : (0 + rows_in i.1) + row_total xs ≡ 0 + (rows_in i.1 + row_total xs) = omega arith in z) refl,
          );
        },
        tt,
      )
  take_by i false e un xs closed ty =
      let u : Turn = turn_by false i in
      let a : Act = with_holds (all_uses u.more ++ kept u.after) (as_kind Take u.first) in
      let todo : List Act = filled (kept u.after) u.more in
      let left : List Next = probe (coder_of n) n.eof i ∷ [] in
      let none : Leaves a 0 = record { gives = λ x y. refl; shuts = λ x y. refl; starts = refl } in
      let ti : Typed n.type i.1 = subst (λ z. Typed z i.1) k.type_is ty.0 in
      let e1 : rows_of (feed (less d q.type) a 0 Leaf) ≡ 0 = ap rows_of (feed_none (less d q.type) a 0 Leaf none) in (
        record {
          name = refl;
          kind = refl;
          refusal = refl;
          misfit = ap not (type_fits n.type i.1 ti);
          numbers = ap (λ z. if z then (0 + rows_in i.1) ∷ [] else []) (sym e);
          indices = sym (opened_none (less d q.type));
          wrote = refl;
          raises = refl;
          lowers = refl;
          after = λ f m. (
            then_open s number segment_number all d q0 j0 q places no_tasks more Leaf r past asking left no_tasks a todo u.after false xs closed pl sm ty.1
                (probes n i k refl (record {
                  mind_is = refl;
                  local_is = ap (λ z. (turn_by z i).after) e;
                  left_is = refl;
                  rest = ap (λ z. filled (kept (turn_by z i).after) (turn_by z i).more) e;
                  on = refl;
                  unshaped = shape_last past a un;
                  typed = ti;
                  counted = λ y. absurd (true_false (sym (e ∙ y)));
                })) (still s number segment_number all d q0 j0 q places no_tasks more Leaf r past law pl sm no_kids a none),
            then_same s number segment_number all d q0 j0 q places no_tasks more Leaf r past (own_desk (by_probe (coder_of n) n.eof) [] (i ∷ xs) closed) asking left no_tasks (own_head past [] (dict_local n) false (i ∷ xs) closed) a todo u.after false xs closed
                (let z : ((rows_in i.1 + 0) + rows_of (feed (less d q.type) a 0 Leaf)) + row_total xs ≡ 0 + (rows_in i.1 + row_total xs) = omega (arith, e1) in z) refl,
          );
        },
        tt,
      )

  -- it takes the end, and starts its fallback
  none_own : shape_in past ≡ None → Own s number segment_number all d q0 j0 q places no_tasks more Leaf r past (by_probe (coder_of n) n.eof) [] [] (dict_local n) false [] true
  none_own un =
      let l : Local = dict_local n in
      let a : Act = with_holds [] (as_kind TakeEnd (dict_empty_end s n)) in
      let sh : shape_in (past ++ (a ∷ [])) ≡ Some passes = shape_last past a un in (
        record {
          name = refl;
          kind = refl;
          refusal = refl;
          misfit = refl;
          numbers = refl;
          indices = sym (opened_back a refl);
          wrote = refl;
          raises = refl;
          lowers = refl;
          after = λ f m.
              let w = back_shows s number (less d q.type) q n a k (no_refusal (start_fault s n.fallback n.mark) f) refl refl refl in
              let e1 : rows_of (feed (less d q.type) a 0 Leaf) ≡ 0 = w.2 in (
                then_open s number segment_number all d q0 j0 q places no_tasks more Leaf r past passing (shut_kids ∷ []) backed a (close_queues (0 ∷ []) ∷ []) l true [] true pl sm tt
                    (passes_on n.type (λ p. 0) [] w.1 tt (record { mind_is = refl; left_is = refl; rest = refl; off = refl; shape_is = sh })) w.0,
                then_same s number segment_number all d q0 j0 q places no_tasks more Leaf r past (own_desk (by_probe (coder_of n) n.eof) [] [] true) passing (shut_kids ∷ []) backed (own_head past [] l false [] true) a (close_queues (0 ∷ []) ∷ []) l true [] true
                    (ap (λ z. shape_rows z (0 + rows_of (feed (less d q.type) a 0 Leaf)) + 0) sh ∙ (let z : (0 + rows_of (feed (less d q.type) a 0 Leaf)) + 0 ≡ 0 + 0 = omega (arith, e1) in z)) refl,
              );
        },
        tt,
      )

  pub asks_own : shape_in past ≡ None → (xs : List Item) (closed : Bool) → AllTyped q.type xs
      → Own s number segment_number all d q0 j0 q places no_tasks more Leaf r past (by_probe (coder_of n) n.eof) [] [] (dict_local n) false xs closed
  asks_own un [] false ty = tt
  asks_own un [] true ty = none_own un
  asks_own un (i ∷ xs) closed ty = take_by i (is_dictionary (s.image n.options.probe i.1)) refl un xs closed ty

  -- ---- it calls the compressor

  abbrev ProbesBy : Bool → Item → List Item → Bool → Type 0
  ProbesBy b i xs closed =
      let c : Desk = own_desk asking (probe (coder_of n) n.eof i ∷ []) xs closed in
      let u : Turn = turn_by b i in
      AllPairs (SameStep s number segment_number d q0 j0 (task_then c no_tasks more) (Work (own_head past (filled (kept u.after) u.more) u.after false xs closed) Leaf r))
      (own_step c more (probed s b (coder_of n) n.eof i [] c no_tasks) ∷ [])
      (move_own all d (own_head past (filled (kept u.after) u.more) u.after false xs closed) Leaf r (due s (own_head past (filled (kept u.after) u.more) u.after false xs closed)))

  probe_by : (i : Item) (b : Bool) → Typed n.type i.1 → (b ≡ true → Counted past (0 + rows_in i.1)) → shape_in past ≡ None → (xs : List Item) (closed : Bool) → AllTyped q.type xs → ProbesBy b i xs closed
  probe_by i true ti ct un xs closed ty =
      let so_far : RunsSoFar = no_runs n.eof in
      let l : Local = runs_local n so_far i (0 + rows_in i.1) in
      let a : Act = with_holds (runs_kept so_far i) (does (Free Call)) in
      let none : Leaves a 0 = record { gives = λ x y. refl; shuts = λ x y. refl; starts = refl } in (
        record {
          name = refl;
          kind = refl;
          refusal = refl;
          misfit = refl;
          numbers = refl;
          indices = sym (opened_none (less d q.type));
          wrote = refl;
          raises = refl;
          lowers = refl;
          after = λ f m. (
            then_open s number segment_number all d q0 j0 q places no_tasks more Leaf r past (by_run (coder_of n) so_far i (0 + rows_in i.1)) [] no_tasks a [] l false xs closed pl sm ty
                (cuts n so_far i (0 + rows_in i.1) 0 [] k (counted_before past a (0 + rows_in i.1) (ct refl)) (record {
                  mind_is = refl;
                  local_is = refl;
                  left_is = refl;
                  rest = refl;
                  on = refl;
                  unshaped = shape_last past a un;
                  typed = ti;
                  kids = ap types_of (feed_none (less d q.type) a 0 Leaf none);
                  going = refl;
                  cutting = record { base_is = refl; rows_are = (let z : 0 + rows_in i.1 ≡ 0 + (0 + rows_in i.1) = omega arith in z) };
                })) (still s number segment_number all d q0 j0 q places no_tasks more Leaf r past law pl sm no_kids a none),
            then_steady s number segment_number all d q0 j0 q places no_tasks more Leaf r past (own_desk asking (probe (coder_of n) n.eof i ∷ []) xs closed) (by_run (coder_of n) so_far i (0 + rows_in i.1)) [] no_tasks (own_head past (a ∷ []) l false xs closed) a [] l false xs closed
                (λ x y. refl) refl,
          );
        },
        tt,
      )
  probe_by i false ti ct un xs closed ty =
      let l : Local = fallback_local in
      let a : Act = with_holds (i.0 ∷ []) (starts_fallback s n (does (Free Call))) in
      let todo : List Act = filled [] (put_item 0 i ∷ []) in (
        record {
          name = refl;
          kind = refl;
          refusal = refl;
          misfit = refl;
          numbers = refl;
          indices = sym (opened_back a refl);
          wrote = refl;
          raises = refl;
          lowers = refl;
          after = λ f m.
              let w = back_shows s number (less d q.type) q n a k (no_refusal (start_fault s n.fallback n.mark) f) refl refl refl in
              let e1 : rows_of (feed (less d q.type) a 0 Leaf) ≡ 0 = w.2 in (
                then_open s number segment_number all d q0 j0 q places no_tasks more Leaf r past as_is (hand_all (λ p. 0) (i ∷ [])) backed a todo l false xs closed pl sm ty
                    (falls_back n.type (i ∷ []) (record {
                      mind_is = refl;
                      local_is = refl;
                      left_is = refl;
                      rest = refl;
                      on = refl;
                      unshaped = shape_last past a un;
                      type_is = k.type_is;
                      kids = w.1;
                      typed = (ti, tt);
                    })) w.0,
                then_same s number segment_number all d q0 j0 q places no_tasks more Leaf r past (own_desk asking (probe (coder_of n) n.eof i ∷ []) xs closed) as_is (hand_all (λ p. 0) (i ∷ [])) backed (own_head past (a ∷ todo) l false xs closed) a todo l false xs closed
                    (let z : ((rows_in i.1 + 0) + rows_of (feed (less d q.type) a 0 Leaf)) + row_total xs ≡ ((rows_in i.1 + 0) + 0) + row_total xs = omega (arith, e1) in z) refl,
              );
        },
        tt,
      )

  pub probes_own : (i : Item) → Typed n.type i.1 → (is_dictionary (s.image n.options.probe i.1) ≡ true → Counted past (0 + rows_in i.1)) → shape_in past ≡ None → (xs : List Item) (closed : Bool) → AllTyped q.type xs
      → Own s number segment_number all d q0 j0 q places no_tasks more Leaf r past asking (probe (coder_of n) n.eof i ∷ []) (filled (kept (dict_turn s n i).after) (dict_turn s n i).more) (dict_turn s n i).after false xs closed
  probes_own i ti ct un xs closed ty = probe_by i (is_dictionary (s.image n.options.probe i.1)) ti ct un xs closed ty
