-- What a task can do behind the end of its stream is what the abstract one can.
use Rattle.std.proofs.Common.{◌≡◌, ◌+◌, ◌&&◌, ◌==◌, ◌∷◌, ◌++◌, ◌∙◌, ℕ, suc, Bool, true, false, List, map, refl, sym, ap, arith, get_or, eq-eqb, Some, []}
use Rattle.vx_model.specs.Words.{total_by}
use Rattle.vx_model.specs.Ty.{Ty}
use Rattle.vx_path.specs.Path.{is_least}
use Rattle.vx_layout_spec.specs.LayoutTree.{LayoutData, row_count, renamed, flat_layout, gathered}
use Rattle.vx_machine_state.specs.Images.{Careful}
use Rattle.vx_tasks.specs.Task.{Join}
use Rattle.vx_tasks.specs.Nodes.{numbers}
use Rattle.vx_plan.specs.PlanData.{Setting, Item, row_total}
use Rattle.vx_plan.proofs.InOrderLaws.{renamed-gathered}
use Rattle.vx_machine_turns.specs.Locals.{Local}
use Rattle.vx_machine_turns.specs.Acts.{Seed, Act, alone, gathers, does, close_queues, shape_in}
use Rattle.vx_machine_turns.specs.Readings.{shaped}
use Rattle.vx_machine_turns.specs.Fuels.{Fuel, less}
use Rattle.vx_machine_steps.specs.Tree.{Tree, Work, feed}
use Rattle.vx_machine_steps.specs.Moves.{all_paths, all_over}
use Rattle.vx_machine_steps.proofs.Plain.{has_number}
use Rattle.vx_machine_state.specs.State.{Stored, fold_chunks, fold_columns, append, shut_kids, join_kids, Mind, ending, made, Tasks, no_tasks, task_then}
use Rattle.vx_machine_state.specs.Acts.{count, shut_all, layouts_in, do_act, column_count, columns_layout}
use Rattle.vx_machine_state.specs.Moves.{all_made, own_step}
use Rattle.vx_machine_state.specs.Typed.{AllTyped}
use Rattle.vx_machine_view.specs.Shows.{joins_columns, Shows, columns_of, append_of, laid, rows_of, shape_rows}
use Rattle.vx_machine_view.specs.Steps.{SameStep}
use Rattle.vx_machine_view.proofs.Words.{shape_kept, shaped_columns, renamed-columns, columns_rows, rows_of_columns}
use Rattle.vx_machine_view.proofs.Feeding.{opened_none, Leaves, feed_none, count-shut, shut_shows}
use Rattle.vx_machine_view.proofs.Acting.{desk, head, Own, then_open, then_done, then_steady, bare, one_pair}
use Rattle.vx_machine_view.proofs.Joining.{made_is, AllLaid, laid_all}

pub gathered_rows : (t : Ty) (ls : List (LayoutData ℕ)) → row_count (gathered t (total_by row_count ls) ls) ≡ total_by row_count ls
gathered_rows t [] = refl
gathered_rows t (l ∷ []) = let h : row_count l ≡ row_count l + 0 = omega arith in h
gathered_rows t (l ∷ k ∷ ls) = refl

pub and_yes : (b : Bool) → (b && true) ≡ b
and_yes true = refl
and_yes false = refl

module _ (s : Setting) (number : List ℕ → ℕ) (segment_number : ℕ) (all : List (List ℕ)) (d : Fuel) (q0 : Seed) (j0 : ℕ) (q : Seed) (places : ℕ) (ks more : Tasks) (hs r : Tree) (past : List Act)
    (law : Careful s) (pl : places ≡ 1 + get_or q0.spare j0 0) (sm : Shows s number d q0 (suc j0) more r) (kids : Shows s number (less d q.type) q 0 ks hs) where
  pub append_own : (x : Stored) (l : Local) → ks ≡ no_tasks → shape_in past ≡ Some (alone (flat_layout x.type x.rows s.encodings x.tree x.id)) → (xs : List Item) (closed : Bool) → AllTyped q.type xs
      → Own s number segment_number all d q0 j0 q places ks more hs r past ending (append x ∷ []) (append_of x ∷ []) l true xs closed
  append_own x l nk sh xs closed ty =
      let a : Act = append_of x in
      let m : Mind = made (flat_layout x.type x.rows s.encodings x.tree segment_number) in
      let none : Leaves a 0 = record { gives = λ i k. refl; shuts = λ i k. refl; starts = refl } in
      let kept : shape_in (past ++ (a ∷ [])) ≡ Some (alone (flat_layout x.type x.rows s.encodings x.tree x.id)) = shape_kept past a (alone (flat_layout x.type x.rows s.encodings x.tree x.id)) sh in
      one_pair (SameStep s number segment_number d q0 j0 (task_then (desk s number segment_number all d q0 j0 q places ks more hs r past ending (append x ∷ []) xs closed) ks more) (Work (head s number segment_number all d q0 j0 q places ks more hs r past past (a ∷ []) l true xs closed) hs r))
      (own_step (desk s number segment_number all d q0 j0 q places ks more hs r past ending (append x ∷ []) xs closed) more (do_act s segment_number (desk s number segment_number all d q0 j0 q places ks more hs r past ending (append x ∷ []) xs closed) ks (append x ∷ []))) _
      (is_least x.id all) (is_least x.id all) refl
      (λ k. record {
        name = refl;
        kind = refl;
        refusal = refl;
        misfit = refl;
        numbers = refl;
        indices = sym (opened_none (less d q.type));
        wrote = refl;
        raises = refl;
        lowers = refl;
        after = λ f num. (
          then_done s number segment_number all d q0 j0 q places ks more hs r past m [] ks a [] l true xs closed pl sm ty (record {
            layout = flat_layout x.type x.rows s.encodings x.tree segment_number;
            mind_is = refl;
            idle = refl;
            no_kids = nk;
            rest = refl;
            off = refl;
            below = ap all_over (bare s number segment_number all d q0 j0 q places ks more hs r past law pl sm kids a none nk);
            free = ap all_paths (bare s number segment_number all d q0 j0 q places ks more hs r past law pl sm kids a none nk);
            laid_is = ap (λ z. map (renamed number) (shaped z (laid (feed (less d q.type) a 0 hs)))) kept ∙ ap (λ z. flat_layout x.type x.rows s.encodings x.tree z ∷ []) (sym (num x.id refl));
            rows_are = λ u. sym (ap (λ z. shape_rows z u) kept);
          }),
          then_steady s number segment_number all d q0 j0 q places ks more hs r past (desk s number segment_number all d q0 j0 q places ks more hs r past ending (append x ∷ []) xs closed) m [] ks (head s number segment_number all d q0 j0 q places ks more hs r past past (a ∷ []) l true xs closed) a [] l true xs closed (λ u v. ap (λ z. shape_rows z u + row_total xs) kept ∙ sym (ap (λ z. shape_rows z v + row_total xs) sh)) refl,
        );
      })

  pub gather_own : (t : Ty) (l : Local) → shape_in past ≡ Some (gathers t (rows_of hs)) → (all_over hs ≡ true → all_paths hs ≡ []) → (xs : List Item) (closed : Bool) → AllTyped q.type xs
      → Own s number segment_number all d q0 j0 q places ks more hs r past ending (join_kids (fold_chunks t) ∷ []) (does Join ∷ []) l true xs closed
  gather_own t l sh free xs closed ty =
      let a : Act = does Join in
      let m : Mind = made (gathered t (total_by row_count (layouts_in ks)) (layouts_in ks)) in
      let none : Leaves a 0 = record { gives = λ i k. refl; shuts = λ i k. refl; starts = refl } in
      let same : feed (less d q.type) a 0 hs ≡ hs = feed_none (less d q.type) a 0 hs none in
      let made_all : all_made ks ≡ all_over hs = made_is s number (less d q.type) q 0 ks hs kids in
      let kept : shape_in (past ++ (a ∷ [])) ≡ Some (gathers t (rows_of hs)) = shape_kept past a (gathers t (rows_of hs)) sh in
      one_pair (SameStep s number segment_number d q0 j0 (task_then (desk s number segment_number all d q0 j0 q places ks more hs r past ending (join_kids (fold_chunks t) ∷ []) xs closed) ks more) (Work (head s number segment_number all d q0 j0 q places ks more hs r past past (a ∷ []) l true xs closed) hs r))
      (own_step (desk s number segment_number all d q0 j0 q places ks more hs r past ending (join_kids (fold_chunks t) ∷ []) xs closed) more (do_act s segment_number (desk s number segment_number all d q0 j0 q places ks more hs r past ending (join_kids (fold_chunks t) ∷ []) xs closed) ks (join_kids (fold_chunks t) ∷ []))) _
      (all_made ks && true) (all_over hs) (and_yes (all_made ks) ∙ made_all)
      (λ k. let w : AllLaid s number ks hs = laid_all s number (less d q.type) q 0 ks hs kids (made_all ∙ k) (free k) in record {
        name = refl;
        kind = refl;
        refusal = refl;
        misfit = refl;
        numbers = refl;
        indices = sym (opened_none (less d q.type));
        wrote = refl;
        raises = refl;
        lowers = refl;
        after = λ f num. (
          then_done s number segment_number all d q0 j0 q places ks more hs r past m [] no_tasks a [] l true xs closed pl sm ty (record {
            layout = gathered t (total_by row_count (layouts_in ks)) (layouts_in ks);
            mind_is = refl;
            idle = refl;
            no_kids = refl;
            rest = refl;
            off = refl;
            below = ap all_over same ∙ k;
            free = ap all_paths same ∙ free k;
            laid_is = ap (λ z. map (renamed number) (shaped z (laid (feed (less d q.type) a 0 hs)))) kept
                ∙ ap (λ z. map (renamed number) (gathered t (rows_of hs) (laid z) ∷ [])) same
                ∙ ap (λ z. z ∷ []) (renamed-gathered number t (rows_of hs) (laid hs)
                ∙ ap (gathered t (rows_of hs)) (sym w.layouts) ∙ ap (λ z. gathered t z (layouts_in ks)) (sym w.rows));
            rows_are = λ u. gathered_rows t (layouts_in ks) ∙ w.rows ∙ sym (ap (λ z. shape_rows z u) kept);
          }),
          then_steady s number segment_number all d q0 j0 q places ks more hs r past (desk s number segment_number all d q0 j0 q places ks more hs r past ending (join_kids (fold_chunks t) ∷ []) xs closed) m [] no_tasks (head s number segment_number all d q0 j0 q places ks more hs r past past (a ∷ []) l true xs closed) a [] l true xs closed (λ u v. ap (λ z. shape_rows z u + row_total xs) kept ∙ sym (ap (λ z. shape_rows z v + row_total xs) sh)) refl,
        );
      })

  pub shut_own : (t : Ty) (rows : ℕ) (l : Local) → column_count t ≡ count ks → shape_in past ≡ Some (columns_of t rows) → (xs : List Item) (closed : Bool) → AllTyped q.type xs
      → Own s number segment_number all d q0 j0 q places ks more hs r past ending (shut_kids ∷ join_kids (fold_columns t rows) ∷ []) (close_queues (numbers 0 (count ks)) ∷ does Join ∷ []) l true xs closed
  shut_own t rows l c sh xs closed ty =
      let a : Act = close_queues (numbers 0 (count ks)) in
      let kept : shape_in (past ++ (a ∷ [])) ≡ Some (columns_of t rows) = shape_kept past a (columns_of t rows) sh in (
        record {
          name = refl;
          kind = refl;
          refusal = refl;
          misfit = refl;
          numbers = refl;
          indices = sym (opened_none (less d q.type));
          wrote = refl;
          raises = refl;
          lowers = refl;
          after = λ f num. (
            then_open s number segment_number all d q0 j0 q places ks more hs r past ending (join_kids (fold_columns t rows) ∷ []) (shut_all ks) a (does Join ∷ []) l true xs closed pl sm ty
                (joins_columns t rows (c ∙ sym (count-shut ks)) (record { mind_is = refl; left_is = refl; rest = refl; off = refl; shape_is = kept }))
                (shut_shows s number (less d q.type) q 0 a ks hs kids (λ i. refl) (λ i x y. has_number i 0 (count ks) x y) refl),
            then_steady s number segment_number all d q0 j0 q places ks more hs r past (desk s number segment_number all d q0 j0 q places ks more hs r past ending (shut_kids ∷ join_kids (fold_columns t rows) ∷ []) xs closed) ending (join_kids (fold_columns t rows) ∷ []) (shut_all ks) (head s number segment_number all d q0 j0 q places ks more hs r past past (a ∷ does Join ∷ []) l true xs closed) a (does Join ∷ []) l true xs closed
                (λ u v. ap (λ z. shape_rows z u + row_total xs) kept ∙ ap (λ z. z + row_total xs) (columns_rows t rows u ∙ sym (columns_rows t rows v)) ∙ sym (ap (λ z. shape_rows z v + row_total xs) sh)) refl,
          );
        },
        tt,
      )

  pub join_own : (t : Ty) (rows : ℕ) (l : Local) → column_count t ≡ count ks → shape_in past ≡ Some (columns_of t rows) → (all_over hs ≡ true → all_paths hs ≡ []) → (xs : List Item) (closed : Bool)
      → AllTyped q.type xs → Own s number segment_number all d q0 j0 q places ks more hs r past ending (join_kids (fold_columns t rows) ∷ []) (does Join ∷ []) l true xs closed
  join_own t rows l c sh free xs closed ty =
      let a : Act = does Join in
      let m : Mind = made (columns_layout t rows (layouts_in ks)) in
      let none : Leaves a 0 = record { gives = λ i k. refl; shuts = λ i k. refl; starts = refl } in
      let same : feed (less d q.type) a 0 hs ≡ hs = feed_none (less d q.type) a 0 hs none in
      let made_all : all_made ks ≡ all_over hs = made_is s number (less d q.type) q 0 ks hs kids in
      let kept : shape_in (past ++ (a ∷ [])) ≡ Some (columns_of t rows) = shape_kept past a (columns_of t rows) sh in
      one_pair (SameStep s number segment_number d q0 j0 (task_then (desk s number segment_number all d q0 j0 q places ks more hs r past ending (join_kids (fold_columns t rows) ∷ []) xs closed) ks more) (Work (head s number segment_number all d q0 j0 q places ks more hs r past past (a ∷ []) l true xs closed) hs r))
      (own_step (desk s number segment_number all d q0 j0 q places ks more hs r past ending (join_kids (fold_columns t rows) ∷ []) xs closed) more (do_act s segment_number (desk s number segment_number all d q0 j0 q places ks more hs r past ending (join_kids (fold_columns t rows) ∷ []) xs closed) ks (join_kids (fold_columns t rows) ∷ []))) _
      (all_made ks && (count ks == column_count t)) (all_over hs) (ap (λ z. all_made ks && z) (eq-eqb (count ks) (column_count t) (sym c)) ∙ and_yes (all_made ks) ∙ made_all)
      (λ k. let w : AllLaid s number ks hs = laid_all s number (less d q.type) q 0 ks hs kids (made_all ∙ k) (free k) in record {
        name = refl;
        kind = refl;
        refusal = refl;
        misfit = refl;
        numbers = refl;
        indices = sym (opened_none (less d q.type));
        wrote = refl;
        raises = refl;
        lowers = refl;
        after = λ f num. (
          then_done s number segment_number all d q0 j0 q places ks more hs r past m [] no_tasks a [] l true xs closed pl sm ty (record {
            layout = columns_layout t rows (layouts_in ks);
            mind_is = refl;
            idle = refl;
            no_kids = refl;
            rest = refl;
            off = refl;
            below = ap all_over same ∙ k;
            free = ap all_paths same ∙ free k;
            laid_is = ap (λ z. map (renamed number) (shaped z (laid (feed (less d q.type) a 0 hs)))) kept
                ∙ ap (map (renamed number)) (shaped_columns t rows (laid (feed (less d q.type) a 0 hs)))
                ∙ ap (λ z. map (renamed number) (columns_layout t rows (laid z) ∷ [])) same
                ∙ ap (λ z. z ∷ []) (renamed-columns number t rows (laid hs) ∙ ap (columns_layout t rows) (sym w.layouts));
            rows_are = λ u. rows_of_columns t rows (layouts_in ks) ∙ sym (columns_rows t rows u) ∙ sym (ap (λ z. shape_rows z u) kept);
          }),
          then_steady s number segment_number all d q0 j0 q places ks more hs r past (desk s number segment_number all d q0 j0 q places ks more hs r past ending (join_kids (fold_columns t rows) ∷ []) xs closed) m [] no_tasks (head s number segment_number all d q0 j0 q places ks more hs r past past (a ∷ []) l true xs closed) a [] l true xs closed (λ u v. ap (λ z. shape_rows z u + row_total xs) kept ∙ ap (λ z. z + row_total xs) (columns_rows t rows u ∙ sym (columns_rows t rows v)) ∙ sym (ap (λ z. shape_rows z v + row_total xs) sh)) refl,
        );
      })
