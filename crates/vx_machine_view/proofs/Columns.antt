-- What a node with columns can do is what the abstract one can.
use Rattle.std.proofs.Common.{◌≡◌, ◌+◌, ◌<◌, ◌&&◌, ◌==◌, ◌∷◌, ◌++◌, ◌∙◌, ℕ, suc, Bool, true, false, not, List, map, length, refl, sym, ap, subst, arith, get_or, append_assoc, length-append, Some, None, []}
use Rattle.std.proofs.lemmas.Bool.Decides.{nat_tests}
use Rattle.vx_model.specs.Ty.{Ty, Tys, list, struct, no_fields, field, fields_in}
use Rattle.vx_model.specs.ChunkData.{ChunkData}
use Rattle.vx_path.specs.Path.{under}
use Rattle.vx_layout_spec.specs.LayoutTree.{renamed, struct_layout}
use Rattle.vx_machine_state.specs.Images.{Careful}
use Rattle.vx_rules.specs.Columns.{struct_columns, list_columns}
use Rattle.vx_tasks.specs.Task.{Join, TakeEnd}
use Rattle.vx_tasks.specs.Nodes.{numbers}
use Rattle.vx_plan.specs.PlanData.{Setting, Item, row_total, rows_in}
use Rattle.vx_plan.specs.ColumnNodes.{elements_in}
use Rattle.vx_machine_turns.specs.Forms.{Writer}
use Rattle.vx_machine_turns.specs.Locals.{StructNode, ListNode, Local, struct_local, list_local}
use Rattle.vx_machine_turns.specs.Acts.{Seed, Act, struct_of, list_of, does, put_item, close_queues, born, shape_in}
use Rattle.vx_machine_turns.specs.Columns.{column_puts, column_ends}
use Rattle.vx_machine_turns.specs.Struct.{struct_end}
use Rattle.vx_machine_turns.specs.ListNode.{list_end}
use Rattle.vx_machine_turns.specs.Scripts.{as_kind, with_holds, all_uses, filled}
use Rattle.vx_machine_turns.specs.Readings.{shaped}
use Rattle.vx_machine_turns.specs.Turns.{firsts}
use Rattle.vx_machine_turns.specs.Fuels.{Fuel, less}
use Rattle.vx_machine_steps.specs.Tree.{Head, Tree, Leaf, Work, feed}
use Rattle.vx_machine_steps.specs.Moves.{take_first, take_more, all_paths, all_over, is_full}
use Rattle.vx_machine_state.specs.State.{fold_columns, Next, shut_kids, join_kids, Mind, by_column, by_list, ending, made, Desk, Tasks, task_then}
use Rattle.vx_machine_state.specs.Acts.{count, give, do_act, end_columns, end_lists, puts, column_count}
use Rattle.vx_machine_state.specs.Moves.{has_room, own_step}
use Rattle.vx_machine_view.specs.Suited.{field_types, column_types, list_types}
use Rattle.vx_machine_state.specs.Typed.{Typed, AllTyped, EachTyped}
use Rattle.vx_machine_view.specs.Shows.{Hands, Stage, hands, hands_lists, shuts, Shows, laid, types_of, local_rows, shape_rows}
use Rattle.vx_machine_view.specs.Steps.{SameStep}
use Rattle.vx_machine_view.proofs.Words.{true_false, shape_last, type_fits, columns_each, lists_each, each_length}
use Rattle.vx_machine_view.proofs.Feeding.{opened_none, Leaves, feed_none, feed_types, count_types, none_counted, room_is, given}
use Rattle.vx_machine_view.proofs.Acting.{desk, head, Own, then_open, then_steady, then_done, still, bare, one_pair}

shorter : (before : List Ty) (t : Ty) (ts : List Ty) (j : ℕ) → length before ≡ j → j < length (before ++ (t ∷ ts))
shorter before t ts j e = let h : length (before ++ (t ∷ ts)) ≡ length before + suc (length ts) = length-append before (t ∷ ts) in omega (arith, h, e)

longer : (before : List Ty) (t : Ty) (j : ℕ) → length before ≡ j → length (before ++ (t ∷ [])) ≡ suc j
longer before t j e = let h : length (before ++ (t ∷ [])) ≡ length before + 1 = length-append before (t ∷ []) in omega (arith, h, e)

columns_counted : (fs : Tys) (n : Bool) → column_count (struct fs n) ≡ length (column_types fs n)
columns_counted fs n = by n
  where
    fields : (fs : Tys) → length (fields_in fs) ≡ length (field_types fs)
    fields no_fields = refl
    fields (field name t fs) = ap suc (fields fs)

    by : (n : Bool) → column_count (struct fs n) ≡ length (column_types fs n)
    by true = let e : length (fields_in fs) ≡ length (field_types fs) = fields fs in let h : length (fields_in fs) + 1 ≡ suc (length (field_types fs)) = omega (arith, e) in h
    by false = let e : length (fields_in fs) ≡ length (field_types fs) = fields fs in let h : length (fields_in fs) + 0 ≡ length (field_types fs) = omega (arith, e) in h

lists_counted : (t : Ty) (n : Bool) → column_count (list t n) ≡ length (list_types t n)
lists_counted t true = refl
lists_counted t false = refl

no_lists : (t : Ty) (n : Bool) → length (list_types t n) ≡ 0 → ⊥
no_lists t true e = absurd (omega (arith, e))
no_lists t false e = absurd (omega (arith, e))

not_none : (k : ℕ) → (suc k == 0) ≡ false
not_none k = grind (arith, nat_tests)

module _ (s : Setting) (number : List ℕ → ℕ) (segment_number : ℕ) (all : List (List ℕ)) (d : Fuel) (q0 : Seed) (j0 : ℕ) (q : Seed) (places : ℕ) (ks more : Tasks) (hs r : Tree) (past : List Act)
    (law : Careful s) (pl : places ≡ 1 + get_or q0.spare j0 0) (sm : Shows s number d q0 (suc j0) more r) (kids : Shows s number (less d q.type) q 0 ks hs) where
  abbrev own_desk : Mind → List Next → List Item → Bool → Desk
  own_desk mind left xs closed = desk s number segment_number all d q0 j0 q places ks more hs r past mind left xs closed

  abbrev own_head : List Act → List Act → Local → Bool → List Item → Bool → Head
  own_head done todo l over xs closed = head s number segment_number all d q0 j0 q places ks more hs r past done todo l over xs closed

  -- ---- columns

  -- a task of these columns, and this in mind, puts the next one
  abbrev pub Going : Mind → Local → List Ty → Type 0
  Going m l types = (left : List Next) (kids : Tasks) (done todo : List Act) (deep : Tree) (j : ℕ) (p : List ℕ) (xs : List ChunkData) (ws : List Writer)
      → Hands m left done todo l false deep m l types j p xs ws → Stage s (less d q.type) m left kids q done todo l false deep

  pub put_own : (m : Mind) (l : Local) (types : List Ty) → Going m l types → ((u v : ℕ) → local_rows l u ≡ local_rows l v) → (j : ℕ) (p : List ℕ) (x : ChunkData) (ps : List ChunkData) (w : Writer) (ws : List Writer) (before : List Ty) (t : Ty) (ts : List Ty)
      → types_of hs ≡ types → types ≡ before ++ (t ∷ ts) → length before ≡ j → Typed t x → EachTyped ts ps → length ws ≡ length ps → shape_in past ≡ None
      → (xs : List Item) (closed : Bool) → AllTyped q.type xs
      → Own s number segment_number all d q0 j0 q places ks more hs r past m (puts j p (x ∷ ps)) (filled [] (column_puts j p (x ∷ ps) (w ∷ ws))) l false xs closed
  put_own m l types going own j p x ps w ws before t ts below split place tx tps same un xs closed ty =
      let a : Act = with_holds (all_uses (column_puts (suc j) p ps ws) ++ []) (put_item j (under p j, x)) in
      one_pair
      (SameStep s number segment_number d q0 j0 (task_then (own_desk m (puts j p (x ∷ ps)) xs closed) ks more) (Work (own_head past (filled [] (column_puts j p (x ∷ ps) (w ∷ ws))) l false xs closed) hs r))
      (own_step (own_desk m (puts j p (x ∷ ps)) xs closed) more (do_act s segment_number (own_desk m (puts j p (x ∷ ps)) xs closed) ks (puts j p (x ∷ ps)))) _
      (has_room j ks) (not (is_full q 0 hs j))
      (room_is s number (less d q.type) q 0 j j ks hs kids (subst (λ z. j < length z) (sym (below ∙ split)) (shorter before t ts j place)) (let h : j ≡ 0 + j = omega arith in h))
      (λ k. record {
        name = refl;
        kind = refl;
        refusal = refl;
        misfit = refl;
        numbers = refl;
        indices = sym (opened_none (less d q.type));
        wrote = refl;
        raises = refl;
        lowers = refl;
        after = λ f y. (
          then_open s number segment_number all d q0 j0 q places ks more hs r past m (puts (suc j) p ps) (give j (under p j, x) ks) a (filled [] (column_puts (suc j) p ps ws)) l false xs closed pl sm ty
              (going (puts (suc j) p ps) (give j (under p j, x) ks) (past ++ (a ∷ [])) (filled [] (column_puts (suc j) p ps ws)) (feed (less d q.type) a 0 hs) (suc j) p ps ws (record {
                mind_is = refl;
                local_is = refl;
                left_is = refl;
                rest = refl;
                on = refl;
                unshaped = shape_last past a un;
                kids = feed_types (less d q.type) a 0 hs refl ∙ below;
                before = before ++ (t ∷ []);
                behind = ts;
                split = split ∙ sym (append_assoc before (t ∷ []) ts);
                place = longer before t j place;
                typed = tps;
                same = same;
              }))
              (given s number (less d q.type) q 0 j j a (under p j, x) t before ts ks hs kids (below ∙ split) place tx (let h : j ≡ 0 + j = omega arith in h) refl refl refl),
          then_steady s number segment_number all d q0 j0 q places ks more hs r past (own_desk m (puts j p (x ∷ ps)) xs closed) m (puts (suc j) p ps) (give j (under p j, x) ks) (own_head past (filled [] (column_puts j p (x ∷ ps) (w ∷ ws))) l false xs closed) a
              (filled [] (column_puts (suc j) p ps ws)) l false xs closed (λ u v. ap (λ z. z + row_total xs) (own u v)) refl,
        );
      })

  -- ---- struct

  pub struct_going : (n : StructNode) (rows : ℕ) → q.type ≡ struct n.fields n.nullable → length n.writers ≡ length (column_types n.fields n.nullable)
      → Going (by_column (struct n.fields n.nullable) rows) (struct_local n rows) (column_types n.fields n.nullable)
  struct_going n rows is_type many left kids done todo deep j p xs ws w = hands n rows j p xs ws is_type many w

  -- what it does at the end, by whether it has columns
  EndAs : StructNode → ℕ → Bool → List Writer → Type 0
  EndAs n rows b ws =
      let m : Mind = by_column (struct n.fields n.nullable) rows in
      let a : Act = with_holds (all_uses (column_ends ws) ++ []) (as_kind TakeEnd (struct_end n rows)) in
      SameStep s number segment_number d q0 j0 (task_then (own_desk m [] [] true) ks more) (Work (own_head past [] (struct_local n rows) false [] true) hs r)
      (own_step (own_desk m [] [] true) more (end_columns b (struct n.fields n.nullable) rows (own_desk m [] [] true) ks))
      (record {
        name = q.name;
        act = a;
        before = born past + length (firsts q);
        room = less d q.type;
        after = Work (own_head (past ++ (a ∷ [])) (filled [] (column_ends ws)) (struct_local n rows) true [] true) (feed (less d q.type) a 0 hs) r;
      })

  end_none : (n : StructNode) (rows : ℕ) → count ks ≡ 0 → shape_in past ≡ None → EndAs n rows true []
  unfolding EndAs
  end_none n rows c un =
      let m : Mind = by_column (struct n.fields n.nullable) rows in
      let l : Local = struct_local n rows in
      let a : Act = with_holds [] (as_kind TakeEnd (struct_end n rows)) in
      let none : Leaves a 0 = record { gives = λ i k. refl; shuts = λ i k. refl; starts = refl } in
      let sh : shape_in (past ++ (a ∷ [])) ≡ Some (struct_of (struct n.fields n.nullable) rows) = shape_last past a un in
      let lf : feed (less d q.type) a 0 hs ≡ Leaf = bare s number segment_number all d q0 j0 q places ks more hs r past law pl sm kids a none (none_counted ks c) in record {
        name = refl;
        kind = refl;
        refusal = refl;
        misfit = refl;
        numbers = refl;
        indices = sym (opened_none (less d q.type));
        wrote = refl;
        raises = refl;
        lowers = refl;
        after = λ f k. (
          then_done s number segment_number all d q0 j0 q places ks more hs r past (made (struct_layout (struct n.fields n.nullable) rows [])) [] ks a [] l true [] true pl sm tt (record {
            layout = struct_layout (struct n.fields n.nullable) rows [];
            mind_is = refl;
            idle = refl;
            no_kids = none_counted ks c;
            rest = refl;
            off = refl;
            below = ap all_over lf;
            free = ap all_paths lf;
            laid_is = ap (λ z. map (renamed number) (shaped z (laid (feed (less d q.type) a 0 hs)))) sh ∙ ap (λ z. map (renamed number) (struct_layout (struct n.fields n.nullable) rows (laid z) ∷ [])) lf;
            rows_are = λ u. sym (ap (λ z. shape_rows z u) sh);
          }),
          then_steady s number segment_number all d q0 j0 q places ks more hs r past (own_desk m [] [] true) (made (struct_layout (struct n.fields n.nullable) rows [])) [] ks (own_head past [] l false [] true) a [] l true [] true
              (λ u v. ap (λ z. shape_rows z u + 0) sh) refl,
        );
      }

  end_some : (n : StructNode) (rows : ℕ) (w : Writer) (ws : List Writer) → count ks ≡ length (w ∷ ws) → column_count (struct n.fields n.nullable) ≡ count ks → shape_in past ≡ None
      → EndAs n rows false (w ∷ ws)
  unfolding EndAs
  end_some n rows w ws c cc' un =
      let t : Ty = struct n.fields n.nullable in
      let m : Mind = by_column t rows in
      let l : Local = struct_local n rows in
      let a : Act = with_holds [] (as_kind TakeEnd (struct_end n rows)) in
      let none : Leaves a 0 = record { gives = λ i k. refl; shuts = λ i k. refl; starts = refl } in
      let sh : shape_in (past ++ (a ∷ [])) ≡ Some (struct_of t rows) = shape_last past a un in record {
        name = refl;
        kind = refl;
        refusal = refl;
        misfit = refl;
        numbers = refl;
        indices = sym (opened_none (less d q.type));
        wrote = refl;
        raises = refl;
        lowers = refl;
        after = λ f k. (
          then_open s number segment_number all d q0 j0 q places ks more hs r past ending (shut_kids ∷ join_kids (fold_columns t rows) ∷ []) ks a (close_queues (numbers 0 (length (w ∷ ws))) ∷ does Join ∷ []) l true [] true pl sm tt
              (shuts t rows cc' (record {
                mind_is = refl;
                left_is = refl;
                rest = ap (λ z. close_queues (numbers 0 z) ∷ does Join ∷ []) (sym c);
                off = refl;
                shape_is = sh;
              })) (still s number segment_number all d q0 j0 q places ks more hs r past law pl sm kids a none),
          then_steady s number segment_number all d q0 j0 q places ks more hs r past (own_desk m [] [] true) ending (shut_kids ∷ join_kids (fold_columns t rows) ∷ []) ks (own_head past [] l false [] true) a (close_queues (numbers 0 (length (w ∷ ws))) ∷ does Join ∷ []) l true [] true
              (λ u v. ap (λ z. shape_rows z u + 0) sh) refl,
        );
      }

  pub columns_own : (n : StructNode) (rows : ℕ) → q.type ≡ struct n.fields n.nullable → types_of hs ≡ column_types n.fields n.nullable
      → length n.writers ≡ length (column_types n.fields n.nullable) → shape_in past ≡ None → (xs : List Item) (closed : Bool) → AllTyped q.type xs
      → Own s number segment_number all d q0 j0 q places ks more hs r past (by_column (struct n.fields n.nullable) rows) [] [] (struct_local n rows) false xs closed
  unfolding EndAs
  columns_own n rows is_type types many un [] false ty = tt
  columns_own n rows is_type types many un [] true ty = (by n.writers refl, tt)
    where
      counted : count ks ≡ length (column_types n.fields n.nullable)
      counted = count_types s number (less d q.type) q 0 ks hs kids ∙ ap length types

      all_columns : column_count (struct n.fields n.nullable) ≡ count ks
      all_columns = columns_counted n.fields n.nullable ∙ sym counted

      by : (ws : List Writer) → n.writers ≡ ws → EndAs n rows ((count ks == 0) && (0 == column_count (struct n.fields n.nullable))) n.writers
      by [] e =
          let c : count ks ≡ 0 = counted ∙ sym many ∙ ap length e in
          let b : ((count ks == 0) && (0 == column_count (struct n.fields n.nullable))) ≡ true =
          ap (λ z. (z == 0) && (0 == column_count (struct n.fields n.nullable))) c ∙ ap (λ z. 0 == z) (all_columns ∙ c) in
          subst (λ z. EndAs n rows z n.writers) (sym b) (subst (EndAs n rows true) (sym e) (end_none n rows c un))
      by (w ∷ ws) e =
          let c : count ks ≡ length (w ∷ ws) = counted ∙ sym many ∙ ap length e in
          let b : ((count ks == 0) && (0 == column_count (struct n.fields n.nullable))) ≡ false = ap (λ z. (z == 0) && (0 == column_count (struct n.fields n.nullable))) c
          ∙ ap (λ z. z && (0 == column_count (struct n.fields n.nullable))) (not_none (length ws)) in
          subst (λ z. EndAs n rows z n.writers) (sym b) (subst (EndAs n rows false) (sym e) (end_some n rows w ws c all_columns un))
  columns_own n rows is_type types many un (x ∷ xs) closed ty =
      let t : Ty = struct n.fields n.nullable in
      let m : Mind = by_column t rows in
      let l : Local = struct_local n rows in
      let a : Act = take_first s l x in
      let none : Leaves a 0 = record { gives = λ i k. refl; shuts = λ i k. refl; starts = refl } in
      let tx : Typed t x.1 = subst (λ z. Typed z x.1) is_type ty.0 in
      let each : EachTyped (column_types n.fields n.nullable) (struct_columns n.fields n.nullable x.1) = columns_each n.fields n.nullable x.1 tx in (
        record {
          name = refl;
          kind = refl;
          refusal = refl;
          misfit = ap not (type_fits t x.1 tx);
          numbers = refl;
          indices = ap (λ z. z ∷ []) (columns_counted n.fields n.nullable ∙ sym many) ∙ ap (λ z. length n.writers ∷ z) (sym (opened_none (less d q.type)));
          wrote = refl;
          raises = refl;
          lowers = refl;
          after = λ f k. (
            then_open s number segment_number all d q0 j0 q places ks more hs r past (by_column t (rows + rows_in x.1)) (puts 0 x.0 (struct_columns n.fields n.nullable x.1)) ks a (take_more s l x) (struct_local n (rows + rows_in x.1)) false xs closed pl sm ty.1
                (hands n (rows + rows_in x.1) 0 x.0 (struct_columns n.fields n.nullable x.1) n.writers is_type many (record {
                  mind_is = refl;
                  local_is = refl;
                  left_is = refl;
                  rest = refl;
                  on = refl;
                  unshaped = shape_last past a un;
                  kids = ap types_of (feed_none (less d q.type) a 0 hs none) ∙ types;
                  before = [];
                  behind = column_types n.fields n.nullable;
                  split = refl;
                  place = refl;
                  typed = each;
                  same = many ∙ sym (each_length (column_types n.fields n.nullable) (struct_columns n.fields n.nullable x.1) each);
                })) (still s number segment_number all d q0 j0 q places ks more hs r past law pl sm kids a none),
            then_steady s number segment_number all d q0 j0 q places ks more hs r past (own_desk m [] (x ∷ xs) closed) (by_column t (rows + rows_in x.1)) (puts 0 x.0 (struct_columns n.fields n.nullable x.1)) ks (own_head past [] l false (x ∷ xs) closed) a (take_more s l x)
                (struct_local n (rows + rows_in x.1)) false xs closed (λ u v. let h : (rows + rows_in x.1) + row_total xs ≡ rows + (rows_in x.1 + row_total xs) = omega arith in h) refl,
          );
        },
        tt,
      )

  -- ---- list

  pub lists_going : (n : ListNode) (first : Bool) (from rows : ℕ) → q.type ≡ list n.elements n.nullable → length n.writers ≡ length (list_types n.elements n.nullable)
      → Going (by_list n.elements n.nullable first from rows) (list_local n first from rows) (list_types n.elements n.nullable)
  lists_going n first from rows is_type many left kids done todo deep j p xs ws w = hands_lists n first from rows j p xs ws is_type many w

  -- what it does at the end, where a chunk came
  EndLists : ListNode → ℕ → ℕ → List Writer → Type 0
  EndLists n from rows ws =
      let m : Mind = by_list n.elements n.nullable false from rows in
      let a : Act = with_holds (all_uses (column_ends ws) ++ []) (as_kind TakeEnd (list_end n false rows)) in
      SameStep s number segment_number d q0 j0 (task_then (own_desk m [] [] true) ks more) (Work (own_head past [] (list_local n false from rows) false [] true) hs r)
      (own_step (own_desk m [] [] true) more (end_lists false (list n.elements n.nullable) rows (own_desk m [] [] true) ks))
      (record {
        name = q.name;
        act = a;
        before = born past + length (firsts q);
        room = less d q.type;
        after = Work (own_head (past ++ (a ∷ [])) (filled [] (column_ends ws)) (list_local n false from rows) true [] true) (feed (less d q.type) a 0 hs) r;
      })

  end_list : (n : ListNode) (from rows : ℕ) (w : Writer) (ws : List Writer) → count ks ≡ length (w ∷ ws) → column_count (list n.elements n.nullable) ≡ count ks → shape_in past ≡ None
      → EndLists n from rows (w ∷ ws)
  unfolding EndLists
  end_list n from rows w ws c cc' un =
      let t : Ty = list n.elements n.nullable in
      let m : Mind = by_list n.elements n.nullable false from rows in
      let l : Local = list_local n false from rows in
      let a : Act = with_holds [] (as_kind TakeEnd (list_end n false rows)) in
      let none : Leaves a 0 = record { gives = λ i k. refl; shuts = λ i k. refl; starts = refl } in
      let sh : shape_in (past ++ (a ∷ [])) ≡ Some (list_of t rows) = shape_last past a un in record {
        name = refl;
        kind = refl;
        refusal = refl;
        misfit = refl;
        numbers = refl;
        indices = sym (opened_none (less d q.type));
        wrote = refl;
        raises = refl;
        lowers = refl;
        after = λ f k. (
          then_open s number segment_number all d q0 j0 q places ks more hs r past ending (shut_kids ∷ join_kids (fold_columns t rows) ∷ []) ks a (close_queues (numbers 0 (length (w ∷ ws))) ∷ does Join ∷ []) l true [] true pl sm tt
              (shuts t rows cc' (record {
                mind_is = refl;
                left_is = refl;
                rest = ap (λ z. close_queues (numbers 0 z) ∷ does Join ∷ []) (sym c);
                off = refl;
                shape_is = sh;
              })) (still s number segment_number all d q0 j0 q places ks more hs r past law pl sm kids a none),
          then_steady s number segment_number all d q0 j0 q places ks more hs r past (own_desk m [] [] true) ending (shut_kids ∷ join_kids (fold_columns t rows) ∷ []) ks (own_head past [] l false [] true) a (close_queues (numbers 0 (length (w ∷ ws))) ∷ does Join ∷ []) l true [] true
              (λ u v. ap (λ z. shape_rows z u + 0) sh) refl,
        );
      }

  pub lists_own : (n : ListNode) (first : Bool) (from rows : ℕ) → q.type ≡ list n.elements n.nullable → types_of hs ≡ list_types n.elements n.nullable
      → length n.writers ≡ length (list_types n.elements n.nullable) → shape_in past ≡ None → (xs : List Item) (closed : Bool) → AllTyped q.type xs
      → Own s number segment_number all d q0 j0 q places ks more hs r past (by_list n.elements n.nullable first from rows) [] [] (list_local n first from rows) false xs closed
  unfolding EndLists
  lists_own n first from rows is_type types many un [] false ty = tt
  lists_own n true from rows is_type types many un [] true ty = (
    record {
      name = refl;
      kind = refl;
      refusal = refl;
      misfit = refl;
      numbers = refl;
      indices = sym (opened_none (less d q.type));
      wrote = refl;
      raises = refl;
      lowers = refl;
      after = λ f k. absurd (true_false f);
    },
    tt,
  )
  lists_own n false from rows is_type types many un [] true ty = (by n.writers refl, tt)
    where
      counted : count ks ≡ length (list_types n.elements n.nullable)
      counted = count_types s number (less d q.type) q 0 ks hs kids ∙ ap length types

      by : (ws : List Writer) → n.writers ≡ ws → EndLists n from rows n.writers
      by [] e = absurd (no_lists n.elements n.nullable (sym many ∙ ap length e))
      by (w ∷ ws) e = subst (EndLists n from rows) (sym e) (end_list n from rows w ws (counted ∙ sym many ∙ ap length e) (lists_counted n.elements n.nullable ∙ sym counted) un)
  lists_own n first from rows is_type types many un (x ∷ xs) closed ty =
      let t : Ty = list n.elements n.nullable in
      let m : Mind = by_list n.elements n.nullable first from rows in
      let l : Local = list_local n first from rows in
      let ts : List Ty = list_types n.elements n.nullable in
      let cs : List ChunkData = list_columns n.elements n.nullable first from x.1 in
      let a : Act = take_first s l x in
      let none : Leaves a 0 = record { gives = λ i k. refl; shuts = λ i k. refl; starts = refl } in
      let each : EachTyped ts cs = lists_each n.elements n.nullable first from x.1 in (
        record {
          name = refl;
          kind = refl;
          refusal = refl;
          misfit = ap not (type_fits t x.1 (subst (λ z. Typed z x.1) is_type ty.0));
          numbers = refl;
          indices = ap (λ z. z ∷ []) (lists_counted n.elements n.nullable ∙ sym many) ∙ ap (λ z. length n.writers ∷ z) (sym (opened_none (less d q.type)));
          wrote = refl;
          raises = refl;
          lowers = refl;
          after = λ f k. (
            then_open s number segment_number all d q0 j0 q places ks more hs r past (by_list n.elements n.nullable false (from + elements_in x.1) (rows + rows_in x.1)) (puts 0 x.0 cs) ks a (take_more s l x)
                (list_local n false (from + elements_in x.1) (rows + rows_in x.1)) false xs closed pl sm ty.1
                (hands_lists n false (from + elements_in x.1) (rows + rows_in x.1) 0 x.0 cs n.writers is_type many (record {
                  mind_is = refl;
                  local_is = refl;
                  left_is = refl;
                  rest = refl;
                  on = refl;
                  unshaped = shape_last past a un;
                  kids = ap types_of (feed_none (less d q.type) a 0 hs none) ∙ types;
                  before = [];
                  behind = ts;
                  split = refl;
                  place = refl;
                  typed = each;
                  same = many ∙ sym (each_length ts cs each);
                })) (still s number segment_number all d q0 j0 q places ks more hs r past law pl sm kids a none),
            then_steady s number segment_number all d q0 j0 q places ks more hs r past (own_desk m [] (x ∷ xs) closed) (by_list n.elements n.nullable false (from + elements_in x.1) (rows + rows_in x.1)) (puts 0 x.0 cs) ks (own_head past [] l false (x ∷ xs) closed) a (take_more s l x)
                (list_local n false (from + elements_in x.1) (rows + rows_in x.1)) false xs closed (λ u v. let h : (rows + rows_in x.1) + row_total xs ≡ rows + (rows_in x.1 + row_total xs) = omega arith in h) refl,
          );
        },
        tt,
      )
