-- What a zoned node's task can do is what the abstract one can.
use Rattle.std.proofs.Common.{◌≡◌, ◌+◌, ◌<◌, ◌||◌, ◌&&◌, ◌==◌, ◌⊎◌, ◌∷◌, ◌++◌, ◌∙◌, ℕ, suc, Bool, true, false, not, nat_eq, List, map, length, refl, sym, ap, subst, inl, inr, arith, get_or, eq-eqb, append-nil, length-append, Option, Some, None, []}
use Rattle.std.proofs.lemmas.Bool.Decides.{nat_tests}
use Rattle.vx_model.specs.Ty.{Ty}
use Rattle.vx_model.specs.ChunkData.{pieces_of}
use Rattle.vx_path.specs.Path.{under, next}
use Rattle.vx_layout_spec.specs.LayoutTree.{LayoutData, Spec, row_count, renamed}
use Rattle.vx_machine_state.specs.Images.{Careful}
use Rattle.vx_zone_spec.specs.ZoneTable.{Filled, kept_columns, table_fields, table_type, table_columns, table_specs, table_piece}
use Rattle.vx_tasks.specs.Task.{Join, TakeEnd}
use Rattle.vx_plan.specs.PlanData.{Setting, Item, row_total, rows_in}
use Rattle.vx_machine_turns.specs.Forms.{Form, form_type}
use Rattle.vx_machine_turns.specs.Locals.{ZonedNode, Local, zoned_local}
use Rattle.vx_machine_turns.specs.Acts.{Seed, Act, zones_of, passes, does, put_item, put_all, close_queues, born, gifts, shape_in}
use Rattle.vx_machine_turns.specs.Zoned.{zone_columns, zoned_end, zoned_joins, zoned_ends, zoned_kept, table_seed}
use Rattle.vx_machine_turns.specs.Starts.{start_fault, local_of}
use Rattle.vx_machine_turns.specs.Scripts.{as_kind, with_holds, all_uses, filled}
use Rattle.vx_machine_turns.specs.Readings.{shaped}
use Rattle.vx_machine_turns.specs.Turns.{firsts, start_indices}
use Rattle.vx_machine_turns.specs.Fuels.{Fuel, spent, fuel, less}
use Rattle.vx_machine_steps.specs.Tree.{Head, Tree, Leaf, Work, feed, sprout, opened}
use Rattle.vx_machine_steps.specs.Moves.{take_first, take_more, all_paths, all_over, is_full}
use Rattle.vx_machine_state.specs.Zoned.{Zones, one_zone, table_item}
use Rattle.vx_machine_state.specs.State.{Next, put, shut_kids, Mind, by_zone, ending, passing, made, Desk, Tasks, no_tasks, task_then}
use Rattle.vx_machine_state.specs.Start.{first_indices, started_task}
use Rattle.vx_machine_state.specs.Acts.{count, add, give, shut_all, layouts_in, do_act, zones_layout, end_zones}
use Rattle.vx_machine_state.specs.Moves.{has_room, all_made, own_step}
use Rattle.vx_machine_state.specs.Typed.{Typed, PartsTyped, AllTyped}
use Rattle.vx_machine_view.specs.Zoning.{zoner_of, put_each, IsZoned, zones_mind, lay_zones, zones_left, zones_shape}
use Rattle.vx_machine_view.specs.Shows.{Stage, passed, records_zones, closes_zones, joins_data, joins_zones, Done, Shows, laid, rows_of, types_of, shape_rows}
use Rattle.vx_machine_view.specs.Steps.{SameStep}
use Rattle.vx_machine_view.proofs.Words.{and_left, and_right, shape_last, shape_kept, type_fits}
use Rattle.vx_machine_view.proofs.Feeding.{opened_none, Leaves, feed_none, feed_types, count_types, room_is, given, shut_shows, one_more, rows_given, rows_kept}
use Rattle.vx_machine_view.proofs.Beginning.{task_begun, opened_is}
use Rattle.vx_machine_view.proofs.Joining.{Passed, stage_made, made_is, AllLaid, laid_all}
use Rattle.vx_machine_view.proofs.Acting.{no_refusal, desk, head, Own, then_open, then_done, then_same, then_steady, still, one_pair}

-- ---- the table

-- it is of its type through and through
table_typed : (cs : List Filled) → PartsTyped (table_fields cs) (pieces_of (table_columns cs))
table_typed [] = tt
table_typed (c ∷ cs) = (refl, table_typed cs)

-- one more child has one more type
types_more : (g : Ty → Fuel) (a : Act) (j : ℕ) (seed : Seed) (t : Tree) → a.starts ≡ seed ∷ [] → types_of (feed (fuel g) a j t) ≡ types_of t ++ (seed.type ∷ [])
types_more g a j seed Leaf e = ap (λ z. types_of (sprout (fuel g) a j z)) e
types_more g a j seed (Work h ks r) e = ap (λ z. h.seed.type ∷ z) (types_more g a (suc j) seed r e)

-- how far pointers come where the table's child is started
table_opened : (d : Fuel) (q : Seed) (n : ZonedNode) (cs : List Filled) → IsZoned d q n
    → opened d (table_seed n cs ∷ []) ≡ first_indices (n.table (table_type cs)) false (next (next n.eof))
table_opened spent q n cs iz = absurd iz.enough
table_opened (fuel g) q n cs iz =
    let f : Form = n.table (table_type cs) in
    ap (λ z. start_indices (local_of f false (under n.name 1) (next (next n.eof))) ++ z) (append-nil (opened (g (form_type f)) (firsts (table_seed n cs))))
    ∙ opened_is f false (under n.name 1) (next (next n.eof)) (g (form_type f)) (iz.suited.2 (table_type cs)).1 (iz.enough.2 (table_type cs))

-- it stands behind the data child
table_fed : (s : Setting) (number : List ℕ → ℕ) (d : Fuel) (q : Seed) (n : ZonedNode) (cs : List Filled) (zones : ℕ) (a : Act) (ks : Tasks) (hs : Tree) → IsZoned d q n → types_of hs ≡ n.type ∷ []
    → start_fault s (n.table (table_type cs)) false ≡ None → Shows s number d q 0 ks hs → a.gives ≡ (1, table_item (next n.eof) (table_piece cs zones)) ∷ [] → a.shuts ≡ 1 ∷ [] → a.starts ≡ table_seed n cs ∷ []
    → Shows s number d q 0 (add ks (started_task (n.table (table_type cs)) false (under q.name 1) (next (next n.eof)) (table_item (next n.eof) (table_piece cs zones) ∷ []) true)) (feed d a 0 hs)
    × (types_of (feed d a 0 hs) ≡ n.type ∷ table_type cs ∷ [])
table_fed s number spent q n cs zones a ks hs iz one f k gs sh st = absurd iz.enough
table_fed s number (fuel g) q n cs zones a ks hs iz one f k gs sh st =
    let form : Form = n.table (table_type cs) in
    let item : Item = table_item (next n.eof) (table_piece cs zones) in
    let is_type : form_type form ≡ table_type cs = (iz.suited.2 (table_type cs)).0 in
    let many : count ks ≡ 1 = count_types s number (fuel g) q 0 ks hs k ∙ ap length one in
    let c : 1 ≡ 0 + count ks = omega (arith, many) in (
      subst (λ z. Shows s number (fuel g) q 0 (add ks (started_task form false (under z 1) (next (next n.eof)) (item ∷ []) true)) (feed (fuel g) a 0 hs)) iz.named
          (one_more s number g q 0 1 a item (table_seed n cs) ks (started_task form false (under n.name 1) (next (next n.eof)) (item ∷ []) true) hs k c gs sh st
          (task_begun s number g q 1 form false (under n.name 1) (next (next n.eof)) (item ∷ []) true (ap (λ z. get_or z 1 0) iz.spare)
          (subst (λ z. Typed z (table_piece cs zones)) (sym is_type) (refl, table_typed cs), tt) (iz.suited.2 (table_type cs)).1 f (iz.enough.2 (table_type cs)))),
      types_more g a 0 (table_seed n cs) hs st ∙ ap (λ z. z ++ (form_type form ∷ [])) one ∙ ap (λ z. n.type ∷ z ∷ []) is_type,
    )

-- ---- layouts

zones_rows : (t : Ty) (rows zone : ℕ) (specs : List Spec) (ls : List (LayoutData ℕ)) → row_count (zones_layout t rows zone specs ls) ≡ rows
zones_rows t rows zone specs [] = refl
zones_rows t rows zone specs (x ∷ []) = refl
zones_rows t rows zone specs (x ∷ y ∷ ls) = refl

zones_laid : (number : List ℕ → ℕ) (t : Ty) (rows zone : ℕ) (specs : List Spec) (ls : List (LayoutData (List ℕ))) → length ls ≡ 2
    → map (renamed number) (shaped (Some (zones_of t rows zone specs)) ls) ≡ zones_layout t rows zone specs (map (renamed number) ls) ∷ []
zones_laid number t rows zone specs [] e = absurd (omega (arith, e))
zones_laid number t rows zone specs (x ∷ []) e = absurd (omega (arith, e))
zones_laid number t rows zone specs (x ∷ y ∷ ls) e = refl

map_length : {A B : Type 0} (f : A → B) (xs : List A) → length (map f xs) ≡ length xs
map_length f [] = refl
map_length f (x ∷ xs) = ap suc (map_length f xs)

-- each task that has done all has one
laid_each : (s : Setting) (number : List ℕ → ℕ) (d : Fuel) (q : Seed) (j : ℕ) (cs : Tasks) (t : Tree) → Shows s number d q j cs t → all_made cs ≡ true → length (laid t) ≡ length (types_of t)
laid_each s number d q j no_tasks Leaf w m = refl
laid_each s number d q j no_tasks (Work h hs r) w m = absurd w
laid_each s number d q j (task_then c ks more) Leaf w m = absurd w
laid_each s number d q j (task_then c ks more) (Work h hs r) w m =
    by w.1 (λ k b. laid_each s number (less d h.seed.type) h.seed 0 ks hs k b) (laid_each s number d q (suc j) more r w.2 (and_right _ (all_made more) m))
  where
    one_then : (xs : List (LayoutData (List ℕ))) → length xs ≡ 1 → length (laid r) ≡ length (types_of r) → length (xs ++ laid r) ≡ suc (length (types_of r))
    one_then xs e f = let g : length (xs ++ laid r) ≡ length xs + length (laid r) = length-append xs (laid r) in omega (arith, e, f, g)

    by : (Stage s (less d h.seed.type) c.mind c.todo ks h.seed h.past h.todo h.local h.over hs × Shows s number (less d h.seed.type) h.seed 0 ks hs)
        ⊎ Done number c.mind c.todo ks h.past h.todo h.over hs
        → (Shows s number (less d h.seed.type) h.seed 0 ks hs → all_made ks ≡ true → length (laid hs) ≡ length (types_of hs)) → length (laid r) ≡ length (types_of r)
        → length (shaped (shape_in h.past) (laid hs) ++ laid r) ≡ suc (length (types_of r))
    by (inl (st, k)) below others =
        let x : (all_made ks ≡ true) × Passed c.mind c.todo h.past h.todo h.over hs =
        stage_made s (less d h.seed.type) c.mind c.todo ks h.seed h.past h.todo h.local h.over hs (all_made ks) st (and_left _ (all_made more) m) in
        one_then (shaped (shape_in h.past) (laid hs)) (ap (λ z. length (shaped z (laid hs))) x.1.ends.shape_is ∙ below k x.0 ∙ ap length x.1.one) others
    by (inr e) below others = one_then (shaped (shape_in h.past) (laid hs)) (sym (map_length (renamed number) (shaped (shape_in h.past) (laid hs))) ∙ ap length e.laid_is) others

and_yes : (b : Bool) → (b && true) ≡ b
and_yes true = refl
and_yes false = refl

module _ (s : Setting) (number : List ℕ → ℕ) (segment_number : ℕ) (all : List (List ℕ)) (d : Fuel) (q0 : Seed) (j0 : ℕ) (q : Seed) (places : ℕ) (ks more : Tasks) (hs r : Tree) (past : List Act)
    (law : Careful s) (pl : places ≡ 1 + get_or q0.spare j0 0) (sm : Shows s number d q0 (suc j0) more r) (kids : Shows s number (less d q.type) q 0 ks hs) where
  abbrev own_desk : Mind → List Next → List Item → Bool → Desk
  own_desk mind left xs closed = desk s number segment_number all d q0 j0 q places ks more hs r past mind left xs closed

  abbrev own_head : List Act → List Act → Local → Bool → List Item → Bool → Head
  own_head done todo l over xs closed = head s number segment_number all d q0 j0 q places ks more hs r past done todo l over xs closed

  abbrev mind_of : ZonedNode → Zones → Mind
  mind_of n z = by_zone (zoner_of n) (next n.eof) z

  abbrev local_at : ZonedNode → Zones → Local
  local_at n z = zoned_local n z.records z.last z.zones z.rows

  -- ---- before the end

  -- the data child gets a chunk
  put_zone : (n : ZonedNode) (z : Zones) (i : Item) (outs : List Item) → IsZoned (less d q.type) q n → types_of hs ≡ n.type ∷ [] → z.rows ≡ row_total (i ∷ outs) + rows_of hs → Typed n.type i.1 → AllTyped n.type outs
      → shape_in past ≡ None → (xs : List Item) (closed : Bool) → AllTyped q.type xs
      → Own s number segment_number all d q0 j0 q places ks more hs r past (mind_of n z) (put_each (i ∷ outs)) (filled (zoned_kept n) (put_all (i ∷ outs))) (local_at n z) false xs closed
  put_zone n z i outs iz one rw ti to un xs closed ty =
      let m : Mind = mind_of n z in
      let l : Local = local_at n z in
      let a : Act = with_holds (all_uses (put_all outs) ++ zoned_kept n) (put_item 0 i) in
      let todo : List Act = filled (zoned_kept n) (put_all outs) in
      let e : rows_of (feed (less d q.type) a 0 hs) ≡ rows_of hs + rows_in i.1 = rows_given s number (less d q.type) a i n.type hs one refl refl in
      let now : z.rows ≡ row_total outs + rows_of (feed (less d q.type) a 0 hs) = omega (arith, rw, e) in
      one_pair
      (SameStep s number segment_number d q0 j0 (task_then (own_desk m (put_each (i ∷ outs)) xs closed) ks more) (Work (own_head past (a ∷ todo) l false xs closed) hs r))
      (own_step (own_desk m (put_each (i ∷ outs)) xs closed) more (do_act s segment_number (own_desk m (put_each (i ∷ outs)) xs closed) ks (put_each (i ∷ outs)))) _
      (has_room 0 ks) (not (is_full q 0 hs 0))
      (room_is s number (less d q.type) q 0 0 0 ks hs kids (let f : length (types_of hs) ≡ 1 = ap length one in omega (arith, f)) refl)
      (λ k. record {
        name = refl;
        kind = refl;
        refusal = refl;
        misfit = refl;
        numbers = refl;
        indices = sym (opened_none (less d q.type));
        wrote = refl;
        raises = refl;
        lowers = refl;
        after = λ f y. (
          then_open s number segment_number all d q0 j0 q places ks more hs r past m (put_each outs) (give 0 i ks) a todo l false xs closed pl sm ty
              (records_zones n z outs iz (feed_types (less d q.type) a 0 hs refl ∙ one) now to (record { mind_is = refl; local_is = refl; left_is = refl; rest = refl; on = refl; unshaped = shape_last past a un }))
              (given s number (less d q.type) q 0 0 0 a i n.type [] [] ks hs kids one refl ti refl refl refl refl),
          then_same s number segment_number all d q0 j0 q places ks more hs r past (own_desk m (put_each (i ∷ outs)) xs closed) m (put_each outs) (give 0 i ks) (own_head past (a ∷ todo) l false xs closed) a todo l false xs closed refl refl,
        );
      })

  -- it takes one
  take_one : (n : ZonedNode) (z : Zones) (x : Item) → IsZoned (less d q.type) q n → types_of hs ≡ n.type ∷ [] → z.rows ≡ 0 + rows_of hs → shape_in past ≡ None → (xs : List Item) (closed : Bool) → AllTyped q.type (x ∷ xs)
      → Own s number segment_number all d q0 j0 q places ks more hs r past (mind_of n z) [] [] (local_at n z) false (x ∷ xs) closed
  take_one n z x iz one rw un xs closed ty =
      let l : Local = local_at n z in
      let a : Act = take_first s l x in
      let y : Zones = one_zone s (zoner_of n) z x.1 in
      let tx : Typed n.type x.1 = subst (λ v. Typed v x.1) iz.type_is ty.0 in
      let none : Leaves a 0 = record { gives = λ i k. refl; shuts = λ i k. refl; starts = refl } in
      let e : rows_of (feed (less d q.type) a 0 hs) ≡ rows_of hs = ap rows_of (feed_none (less d q.type) a 0 hs none) in
      let now : z.rows + rows_in x.1 ≡ (rows_in x.1 + 0) + rows_of (feed (less d q.type) a 0 hs) = omega (arith, rw, e) in (
        record {
          name = refl;
          kind = refl;
          refusal = refl;
          misfit = ap not (type_fits n.type x.1 tx);
          numbers = refl;
          indices = sym (opened_none (less d q.type));
          wrote = refl;
          raises = refl;
          lowers = refl;
          after = λ f k. (
            then_open s number segment_number all d q0 j0 q places ks more hs r past (mind_of n y) (put 0 x ∷ []) ks a (take_more s l x) (local_at n y) false xs closed pl sm ty.1
                (records_zones n y (x ∷ []) iz (feed_types (less d q.type) a 0 hs refl ∙ one) now (tx, tt) (record { mind_is = refl; local_is = refl; left_is = refl; rest = refl; on = refl; unshaped = shape_last past a un }))
                (still s number segment_number all d q0 j0 q places ks more hs r past law pl sm kids a none),
            then_same s number segment_number all d q0 j0 q places ks more hs r past (own_desk (mind_of n z) [] (x ∷ xs) closed) (mind_of n y) (put 0 x ∷ []) ks (own_head past [] l false (x ∷ xs) closed) a (take_more s l x) (local_at n y) false xs closed
                (let h : (z.rows + rows_in x.1) + row_total xs ≡ z.rows + (rows_in x.1 + row_total xs) = omega arith in h) refl,
          );
        },
        tt,
      )

  -- ---- the end

  abbrev end_act : ZonedNode → Zones → Option (List Filled) → Act
  end_act n z table = with_holds (all_uses (zoned_ends s n z.zones table) ++ []) (as_kind TakeEnd (zoned_end n z.zones z.rows table))

  -- what it does at the end, by the table's columns
  EndZones : ZonedNode → Zones → Option (List Filled) → Type 0
  EndZones n z table =
      SameStep s number segment_number d q0 j0 (task_then (own_desk (mind_of n z) [] [] true) ks more) (Work (own_head past [] (local_at n z) false [] true) hs r)
      (own_step (own_desk (mind_of n z) [] [] true) more (end_zones table (zoner_of n) (next n.eof) z (own_desk (mind_of n z) [] [] true) ks))
      (record {
        name = q.name;
        act = end_act n z table;
        before = born past + length (firsts q);
        room = less d q.type;
        after = Work (own_head (past ++ (end_act n z table ∷ [])) (filled [] (zoned_ends s n z.zones table)) (local_at n z) true [] true) (feed (less d q.type) (end_act n z table) 0 hs) r;
      })

  end_zone : (n : ZonedNode) (z : Zones) → IsZoned (less d q.type) q n → types_of hs ≡ n.type ∷ [] → z.rows ≡ 0 + rows_of hs → shape_in past ≡ None → (table : Option (List Filled)) → EndZones n z table
  unfolding EndZones
  end_zone n z iz one rw un None =
      let a : Act = end_act n z None in
      let left : List Next = shut_kids ∷ zones_left n z None in
      let todo : List Act = filled [] (zoned_ends s n z.zones None) in
      let none : Leaves a 0 = record { gives = λ i k. refl; shuts = λ i k. refl; starts = refl } in
      let sh : shape_in (past ++ (a ∷ [])) ≡ Some passes = shape_last past a un in
      let e : rows_of (feed (less d q.type) a 0 hs) ≡ rows_of hs = ap rows_of (feed_none (less d q.type) a 0 hs none) in
      let same : (0 + rows_of (feed (less d q.type) a 0 hs)) + 0 ≡ z.rows + 0 = omega (arith, rw, e) in record {
        name = refl;
        kind = refl;
        refusal = refl;
        misfit = refl;
        numbers = refl;
        indices = sym (opened_none (less d q.type));
        wrote = refl;
        raises = refl;
        lowers = refl;
        after = λ f k. (
          then_open s number segment_number all d q0 j0 q places ks more hs r past passing left ks a todo (local_at n z) true [] true pl sm tt
              (closes_zones n z None iz (feed_types (less d q.type) a 0 hs refl ∙ one) (record { mind_is = refl; left_is = refl; rest = refl; off = refl; shape_is = sh }))
              (still s number segment_number all d q0 j0 q places ks more hs r past law pl sm kids a none),
          then_same s number segment_number all d q0 j0 q places ks more hs r past (own_desk (mind_of n z) [] [] true) passing left ks (own_head past [] (local_at n z) false [] true) a todo (local_at n z) true [] true
              (ap (λ v. shape_rows v (0 + rows_of (feed (less d q.type) a 0 hs)) + 0) sh ∙ same) refl,
        );
      }
  end_zone n z iz one rw un (Some cs) =
      let a : Act = end_act n z (Some cs) in
      let left : List Next = shut_kids ∷ zones_left n z (Some cs) in
      let todo : List Act = filled [] (zoned_ends s n z.zones (Some cs)) in
      let none : Leaves a 0 = record { gives = λ i k. refl; shuts = λ i k. refl; starts = refl } in
      let sh : shape_in (past ++ (a ∷ [])) ≡ Some (zones_shape n z.rows (Some cs)) = shape_last past a un in record {
        name = refl;
        kind = refl;
        refusal = refl;
        misfit = refl;
        numbers = refl;
        indices = sym (opened_none (less d q.type));
        wrote = refl;
        raises = refl;
        lowers = refl;
        after = λ f k. (
          then_open s number segment_number all d q0 j0 q places ks more hs r past ending left ks a todo (local_at n z) true [] true pl sm tt
              (closes_zones n z (Some cs) iz (feed_types (less d q.type) a 0 hs refl ∙ one) (record { mind_is = refl; left_is = refl; rest = refl; off = refl; shape_is = sh }))
              (still s number segment_number all d q0 j0 q places ks more hs r past law pl sm kids a none),
          then_steady s number segment_number all d q0 j0 q places ks more hs r past (own_desk (mind_of n z) [] [] true) ending left ks (own_head past [] (local_at n z) false [] true) a todo (local_at n z) true [] true
              (λ u v. ap (λ w. shape_rows w u + 0) sh) refl,
        );
      }

  pub zones_own : (n : ZonedNode) (z : Zones) (outs : List Item) → IsZoned (less d q.type) q n → types_of hs ≡ n.type ∷ [] → z.rows ≡ row_total outs + rows_of hs → AllTyped n.type outs
      → shape_in past ≡ None → (xs : List Item) (closed : Bool) → AllTyped q.type xs
      → Own s number segment_number all d q0 j0 q places ks more hs r past (mind_of n z) (put_each outs) (filled (zoned_kept n) (put_all outs)) (local_at n z) false xs closed
  unfolding EndZones
  zones_own n z (i ∷ outs) iz one rw to un xs closed ty = put_zone n z i outs iz one rw to.0 to.1 un xs closed ty
  zones_own n z [] iz one rw to un [] false ty = tt
  zones_own n z [] iz one rw to un [] true ty = (end_zone n z iz one rw un (kept_columns (zone_columns n) z.records), tt)
  zones_own n z [] iz one rw to un (x ∷ xs) closed ty = take_one n z x iz one rw un xs closed ty

  -- ---- behind the end

  -- it closes the data child's queue
  pub close_data : (n : ZonedNode) (z : Zones) (table : Option (List Filled)) (l : Local) → IsZoned (less d q.type) q n → types_of hs ≡ n.type ∷ [] → shape_in past ≡ Some (zones_shape n z.rows table)
      → (xs : List Item) (closed : Bool) → AllTyped q.type xs
      → Own s number segment_number all d q0 j0 q places ks more hs r past (zones_mind table) (shut_kids ∷ zones_left n z table) (filled [] (zoned_ends s n z.zones table)) l true xs closed
  close_data n z table l iz one sh xs closed ty =
      let joins : List Act = zoned_joins s n z.zones table in
      let a : Act = with_holds (all_uses joins ++ []) (close_queues (0 ∷ [])) in
      let c : count ks ≡ 1 = count_types s number (less d q.type) q 0 ks hs kids ∙ ap length one in
      let kept : shape_in (past ++ (a ∷ [])) ≡ Some (zones_shape n z.rows table) = shape_kept past a (zones_shape n z.rows table) sh in
      let sent : ℕ = row_total (gifts 0 (filled [] joins)) in (
        record {
          name = refl;
          kind = refl;
          refusal = refl;
          misfit = refl;
          numbers = refl;
          indices = sym (opened_none (less d q.type));
          wrote = refl;
          raises = refl;
          lowers = refl;
          after = λ f num. (
            then_open s number segment_number all d q0 j0 q places ks more hs r past (zones_mind table) (zones_left n z table) (shut_all ks) a (filled [] joins) l true xs closed pl sm ty
                (joins_data n z table iz (feed_types (less d q.type) a 0 hs refl ∙ one) (record { mind_is = refl; left_is = refl; rest = refl; off = refl; shape_is = kept }))
                (shut_shows s number (less d q.type) q 0 a ks hs kids (λ i. refl) (λ i x y. ap (λ v. v || false) (first i (count ks) c y)) refl),
            then_same s number segment_number all d q0 j0 q places ks more hs r past (own_desk (zones_mind table) (shut_kids ∷ zones_left n z table) xs closed) (zones_mind table) (zones_left n z table) (shut_all ks)
                (own_head past (filled [] (zoned_ends s n z.zones table)) l true xs closed) a (filled [] joins) l true xs closed
                (ap (λ v. shape_rows v (sent + rows_of (feed (less d q.type) a 0 hs)) + row_total xs) kept
                ∙ ap (λ v. shape_rows (Some (zones_shape n z.rows table)) (sent + v) + row_total xs) (rows_kept (less d q.type) a 0 hs (λ i. refl) refl)
                ∙ sym (ap (λ v. shape_rows v (sent + rows_of hs) + row_total xs) sh)) refl,
          );
        },
        tt,
      )
    where
      first : (i n : ℕ) → n ≡ 1 → i < 0 + n → nat_eq 0 i ≡ true
      first i n e l = grind (arith, nat_tests)

  -- once the data child has done all
  pub join_data : (n : ZonedNode) (z : Zones) (table : Option (List Filled)) (l : Local) → IsZoned (less d q.type) q n → types_of hs ≡ n.type ∷ [] → shape_in past ≡ Some (zones_shape n z.rows table)
      → (xs : List Item) (closed : Bool) → AllTyped q.type xs
      → Own s number segment_number all d q0 j0 q places ks more hs r past (zones_mind table) (zones_left n z table) (filled [] (zoned_joins s n z.zones table)) l true xs closed
  join_data n z None l iz one sh xs closed ty =
      let a : Act = with_holds [] (record (does Join) { uses = zoned_kept n }) in
      let left : List Next = zones_left n z None in
      let none : Leaves a 0 = record { gives = λ i k. refl; shuts = λ i k. refl; starts = refl } in
      let kept : shape_in (past ++ (a ∷ [])) ≡ Some passes = shape_kept past a passes sh in
      one_pair
      (SameStep s number segment_number d q0 j0 (task_then (own_desk passing left xs closed) ks more) (Work (own_head past (a ∷ []) l true xs closed) hs r))
      (own_step (own_desk passing left xs closed) more (do_act s segment_number (own_desk passing left xs closed) ks left)) _
      (all_made ks) (all_over hs) (made_is s number (less d q.type) q 0 ks hs kids)
      (λ k. record {
        name = refl;
        kind = refl;
        refusal = refl;
        misfit = refl;
        numbers = refl;
        indices = sym (opened_none (less d q.type));
        wrote = refl;
        raises = refl;
        lowers = refl;
        after = λ f num. (
          then_open s number segment_number all d q0 j0 q places ks more hs r past passing [] ks a [] l true xs closed pl sm ty
              (passed n.type (feed_types (less d q.type) a 0 hs refl ∙ one) (record { mind_is = refl; left_is = refl; rest = refl; off = refl; shape_is = kept }))
              (still s number segment_number all d q0 j0 q places ks more hs r past law pl sm kids a none),
          then_same s number segment_number all d q0 j0 q places ks more hs r past (own_desk passing left xs closed) passing [] ks (own_head past (a ∷ []) l true xs closed) a [] l true xs closed
              (ap (λ v. shape_rows v (0 + rows_of (feed (less d q.type) a 0 hs)) + row_total xs) kept
              ∙ ap (λ v. (0 + rows_of v) + row_total xs) (feed_none (less d q.type) a 0 hs none)
              ∙ sym (ap (λ v. shape_rows v (0 + rows_of hs) + row_total xs) sh)) refl,
        );
      })
  join_data n z (Some cs) l iz one sh xs closed ty =
      let form : Form = n.table (table_type cs) in
      let item : Item = table_item (next n.eof) (table_piece cs z.zones) in
      let left : List Next = zones_left n z (Some cs) in
      let a : Act = with_holds [] (record (does Join) {
        starts = table_seed n cs ∷ [];
        gives = (1, item) ∷ [];
        shuts = 1 ∷ [];
        uses = zoned_kept n;
        indices = (n.eof.last + 2) ∷ [];
        refusal = start_fault s form false;
      }) in
      let kids_then : Tasks = add ks (started_task form false (under q.name 1) (next (next n.eof)) (item ∷ []) true) in
      let kept : shape_in (past ++ (a ∷ [])) ≡ Some (zones_shape n z.rows (Some cs)) = shape_kept past a (zones_shape n z.rows (Some cs)) sh in
      let two : (n.eof.last + 1) + 1 ≡ n.eof.last + 2 = omega arith in
      one_pair
      (SameStep s number segment_number d q0 j0 (task_then (own_desk ending left xs closed) ks more) (Work (own_head past (a ∷ does Join ∷ []) l true xs closed) hs r))
      (own_step (own_desk ending left xs closed) more (do_act s segment_number (own_desk ending left xs closed) ks left)) _
      (all_made ks) (all_over hs) (made_is s number (less d q.type) q 0 ks hs kids)
      (λ k. record {
        name = refl;
        kind = refl;
        refusal = refl;
        misfit = refl;
        numbers = refl;
        indices = ap (λ v. v ∷ first_indices form false (next (next n.eof))) two ∙ ap (λ v. (n.eof.last + 2) ∷ v) (sym (table_opened (less d q.type) q n cs iz));
        wrote = refl;
        raises = refl;
        lowers = refl;
        after = λ f num.
            let w : Shows s number (less d q.type) q 0 kids_then (feed (less d q.type) a 0 hs) × (types_of (feed (less d q.type) a 0 hs) ≡ n.type ∷ table_type cs ∷ []) =
            table_fed s number (less d q.type) q n cs z.zones a ks hs iz one (no_refusal (start_fault s form false) f) kids refl refl refl in (
              then_open s number segment_number all d q0 j0 q places ks more hs r past ending (lay_zones n z.rows cs) kids_then a (does Join ∷ []) l true xs closed pl sm ty
                  (joins_zones n z.rows cs w.1 (record { mind_is = refl; left_is = refl; rest = refl; off = refl; shape_is = kept })) w.0,
              then_steady s number segment_number all d q0 j0 q places ks more hs r past (own_desk ending left xs closed) ending (lay_zones n z.rows cs) kids_then (own_head past (a ∷ does Join ∷ []) l true xs closed) a (does Join ∷ []) l true xs closed
                  (λ u v. ap (λ w. shape_rows w u + row_total xs) kept ∙ sym (ap (λ w. shape_rows w v + row_total xs) sh)) refl,
            );
      })

  -- once the table's child has done all too
  pub lay_own : (n : ZonedNode) (rows : ℕ) (cs : List Filled) (l : Local) → types_of hs ≡ n.type ∷ table_type cs ∷ [] → shape_in past ≡ Some (zones_shape n rows (Some cs)) → (all_over hs ≡ true → all_paths hs ≡ [])
      → (xs : List Item) (closed : Bool) → AllTyped q.type xs → Own s number segment_number all d q0 j0 q places ks more hs r past ending (lay_zones n rows cs) (does Join ∷ []) l true xs closed
  lay_own n rows cs l both sh free xs closed ty =
      let a : Act = does Join in
      let zone : ℕ = n.options.zone_len in
      let specs : List Spec = table_specs cs in
      let m : Mind = made (zones_layout n.type rows zone specs (layouts_in ks)) in
      let none : Leaves a 0 = record { gives = λ i k. refl; shuts = λ i k. refl; starts = refl } in
      let same : feed (less d q.type) a 0 hs ≡ hs = feed_none (less d q.type) a 0 hs none in
      let made_all : all_made ks ≡ all_over hs = made_is s number (less d q.type) q 0 ks hs kids in
      let two : count ks ≡ 2 = count_types s number (less d q.type) q 0 ks hs kids ∙ ap length both in
      let kept : shape_in (past ++ (a ∷ [])) ≡ Some (zones_of n.type rows zone specs) = shape_kept past a (zones_of n.type rows zone specs) sh in
      one_pair
      (SameStep s number segment_number d q0 j0 (task_then (own_desk ending (lay_zones n rows cs) xs closed) ks more) (Work (own_head past (a ∷ []) l true xs closed) hs r))
      (own_step (own_desk ending (lay_zones n rows cs) xs closed) more (do_act s segment_number (own_desk ending (lay_zones n rows cs) xs closed) ks (lay_zones n rows cs))) _
      (all_made ks && (count ks == 2)) (all_over hs) (ap (λ v. all_made ks && v) (eq-eqb (count ks) 2 two) ∙ and_yes (all_made ks) ∙ made_all)
      (λ k. let w : AllLaid s number ks hs = laid_all s number (less d q.type) q 0 ks hs kids (made_all ∙ k) (free k) in record {
        name = refl;
        kind = refl;
        refusal = refl;
        misfit = refl;
        numbers = refl;
        indices = sym (opened_none (less d q.type));
        wrote = refl;
        raises = refl;
        lowers = refl;
        after = λ f num. (
          then_done s number segment_number all d q0 j0 q places ks more hs r past m [] no_tasks a [] l true xs closed pl sm ty (record {
            layout = zones_layout n.type rows zone specs (layouts_in ks);
            mind_is = refl;
            idle = refl;
            no_kids = refl;
            rest = refl;
            off = refl;
            below = ap all_over same ∙ k;
            free = ap all_paths same ∙ free k;
            laid_is = ap (λ v. map (renamed number) (shaped v (laid (feed (less d q.type) a 0 hs)))) kept
                ∙ ap (λ v. map (renamed number) (shaped (Some (zones_of n.type rows zone specs)) (laid v))) same
                ∙ zones_laid number n.type rows zone specs (laid hs) (laid_each s number (less d q.type) q 0 ks hs kids (made_all ∙ k) ∙ ap length both)
                ∙ ap (λ v. zones_layout n.type rows zone specs v ∷ []) (sym w.layouts);
            rows_are = λ u. zones_rows n.type rows zone specs (layouts_in ks) ∙ sym (ap (λ v. shape_rows v u) kept);
          }),
          then_steady s number segment_number all d q0 j0 q places ks more hs r past (own_desk ending (lay_zones n rows cs) xs closed) m [] no_tasks (own_head past (a ∷ []) l true xs closed) a [] l true xs closed
              (λ u v. ap (λ w. shape_rows w u + row_total xs) kept ∙ sym (ap (λ w. shape_rows w v + row_total xs) sh)) refl,
        );
      })
