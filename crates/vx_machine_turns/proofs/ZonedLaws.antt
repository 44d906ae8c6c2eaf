-- A zoned node's task, its data child and its table are its plan.
use Rattle.std.proofs.Common.{◌≡◌, ℕ, suc, ◌+◌, ◌⊎◌, inl, inr, ⊎_elim, nat_eq, Bool, true, false, List, [], ◌∷◌, ◌++◌, length, Option, Some, None, refl, sym, ap, ap₂, ◌∙◌, subst, arith, append_assoc}
use Rattle.std.specs.Prelude.{if◌then◌else◌, nat_lt}
use Rattle.std.proofs.lemmas.Bool.Decides.{nat_tests}
use Rattle.std.proofs.lemmas.List.{append-nil}
use Rattle.vx_model.specs.Ty.{Ty}
use Rattle.vx_model.specs.ValueData.{ValueData}
use Rattle.vx_model.specs.ChunkData.{cells, row_values}
use Rattle.vx_path.specs.Lists.{In}
use Rattle.vx_path.proofs.Lists.{in_left, in_right, in_cases}
use Rattle.vx_path.specs.Path.{Eof, under, raised, inside, next}
use Rattle.vx_aggregate_spec.specs.Aggregate.{Column}
use Rattle.vx_zone_spec.specs.Record.{zone_record}
use Rattle.vx_zone_spec.specs.ZoneTable.{Filled, kept_columns, table_type, table_specs}
use Rattle.vx_tasks.specs.Task.Kind.{Take, TakeEnd}
use Rattle.vx_strategy_spec.specs.StrategyData.{ZonedOptions}
use Rattle.vx_plan.specs.PlanData.{Setting, Item, Plan, Node, What, Fault, zone_cut, rows_in, totals, row_total, row_totals}
use Rattle.vx_plan.specs.ChunkedNode.{all_pairs, all_faults, all_layouts, all_numbers, all_reserved}
use Rattle.vx_plan.specs.SourcePlan.{first_what}
use Rattle.vx_plan.specs.Valid.{Has}
use Rattle.vx_plan.specs.ZonedNode.{recorded, forbidden_faults, cut_fault, cut_faults, zone_faults, zone_records, is_no_zone, table_items, data_numbers, zone_numbers, table_of, with_table, with_faults, zoned_node}
use Rattle.vx_plan.proofs.PlanLists.{nil_both}
use Rattle.vx_machine_turns.specs.Forms.{Form, zoned_form, form_type}
use Rattle.vx_machine_turns.specs.Locals.{ZonedNode, zoned_local}
use Rattle.vx_machine_turns.specs.Acts.{Act, put_item, gifts, shut, births, wrote, told, first_refusal, shape_in, numbers_in, indices_in, raised_in, lowered_in, Shape, passes, zones_of, or_else}
use Rattle.vx_machine_turns.specs.Starts.{start_fault, seed_of}
use Rattle.vx_machine_turns.specs.Zoned.{zone_fault, zone_columns, zoned_turn, zoned_end, zoned_ends}
use Rattle.vx_machine_turns.specs.Scripts.{with_holds, as_kind, filled, script}
use Rattle.vx_machine_turns.specs.Fuels.{Fuel, spent, fuel, Enough}
use Rattle.vx_machine_turns.specs.Readings.{shaped}
use Rattle.vx_machine_turns.specs.Duties.{Duty, duty_of, seeds, Given}
use Rattle.vx_machine_turns.specs.Planned.{AtMost, Meets, Fair}
use Rattle.vx_machine_turns.proofs.DutyLaws.{AllMeet, Parent, spread, first_start, first_any, AnyStart, AllEnded, given_on, zero_more, unraised, has_here, has_right, else_none, told_one, some_same, most_right, most_here, most_later}

-- the table's child, where there is a table
abbrev pub table_duties : Setting → ZonedNode → ℕ → Option (List Filled) → List Duty
table_duties s n zones None = []
table_duties s n zones (Some cs) = duty_of s (n.table (table_type cs)) false (under n.name 1) (table_items cs zones n.eof) true (next (next n.eof)) ∷ []

-- the children: the data, and the table once the stream has ended
abbrev pub zoned_duties : Setting → ZonedNode → List Item → Bool → Option (List Filled) → List Duty
zoned_duties s n items ended table = duty_of s n.child false (under n.name 0) items ended (inside n.eof) ∷ table_duties s n (length items) table

abbrev pub once : Bool → Option (List Filled) → Option (List Filled)
once true table = table
once false table = None

abbrev own_numbers : List Item → Eof → Option (List Filled) → List ℕ
own_numbers items e None = data_numbers items e
own_numbers items e (Some cs) = zone_numbers items e

-- the zones, which are counted where there is a table
abbrev zone_count : ℕ → Option (List Filled) → List ℕ
zone_count zones None = []
zone_count zones (Some cs) = zones ∷ []

abbrev table_index : Eof → Option (List Filled) → List ℕ
table_index e None = []
table_index e (Some cs) = (e.last + 2) ∷ []

abbrev table_shape : ZonedNode → ℕ → Option (List Filled) → Shape
table_shape n rows None = passes
table_shape n rows (Some cs) = zones_of n.type rows n.options.zone_len (table_specs cs)

-- ---- flags

abbrev flags : ℕ → List Column → ℕ → List Item → List What → List What
flags zone cols last [] ws = ws
flags zone cols last (i ∷ is) ws = told (zone_fault zone cols last (rows_in i.1)) (flags zone cols (rows_in i.1) is ws)

flags_none : (zone last : ℕ) (items : List Item) (ws : List What) → flags zone [] last items ws ≡ ws
flags_none zone last [] ws = refl
flags_none zone last (i ∷ is) ws = flags_none zone (rows_in i.1) is ws

flags_cut : (zone : ℕ) (a : Column) (cols : List Column) (last : ℕ) (items : List Item) (ws : List What) → nat_lt last zone ≡ false
    → flags zone (a ∷ cols) last items ws ≡ told (first_what (cut_faults zone items)) ws
flags_cut zone a cols last [] ws h = refl
flags_cut zone a cols last (c ∷ []) ws h = rw h (go (is_no_zone zone (length (cells c.1))))
  where
    go : (b : Bool) → told (if b then Some (zone_cut (length (cells c.1))) else None) ws ≡ told (first_what (if b then cut_fault (length (cells c.1)) c.0 else [])) ws
    go true = refl
    go false = refl
flags_cut zone a cols last (c ∷ d ∷ cs) ws h = rw h (go (is_no_zone zone (length (cells c.1))) (nat_lt (length (cells c.1)) zone) refl (flags_cut zone a cols (length (cells c.1)) (d ∷ cs) ws))
  where
    go : (b x : Bool) → nat_lt (length (cells c.1)) zone ≡ x
        → (nat_lt (length (cells c.1)) zone ≡ false → flags zone (a ∷ cols) (length (cells c.1)) (d ∷ cs) ws ≡ told (first_what (cut_faults zone (d ∷ cs))) ws)
        → told (if b then Some (zone_cut (length (cells c.1))) else None) (flags zone (a ∷ cols) (length (cells c.1)) (d ∷ cs) ws)
        ≡ told (first_what (if b then cut_fault (length (cells c.1)) c.0 else if x then cut_fault (length (cells c.1)) d.0 else cut_faults zone (d ∷ cs))) ws
    go true x q ih = refl
    go false false q ih = ih q
    go false true q ih = rw q refl

flags_are : (zone : ℕ) (cols : List Column) (last : ℕ) (items : List Item) (ws : List What) → nat_lt last zone ≡ false
    → flags zone cols last items ws ≡ told (first_what (zone_faults zone cols items)) ws
flags_are zone [] last items ws h = flags_none zone last items ws
flags_are zone (a ∷ cols) last items ws h = flags_cut zone a cols last items ws h

-- ---- the script

module _ (s : Setting) (n : ZonedNode) where
  abbrev pub S : List (List ValueData) → ℕ → ℕ → ℕ → List Item → Bool → List Act
  S records last zones rows items ended = script s (zoned_local n records last zones rows) items ended

  -- the block at the end, by the table
  abbrev at_end : ℕ → ℕ → Option (List Filled) → List Act
  at_end zones rows table = filled [] (as_kind TakeEnd (zoned_end n zones rows table) ∷ zoned_ends s n zones table)

  -- where the table is this, of so many zones and rows in all
  record Facts (acts : List Act) (rows0 : ℕ) (items : List Item) (ended : Bool) (table : Option (List Filled)) (zones rows : ℕ) : Type 0 where
    silent : wrote acts ≡ []
    born : births acts ≡ seeds (table_duties s n zones (once ended table))
    given : gifts 0 acts ≡ items
    closes : shut 0 acts ≡ ended
    table_given : Given acts 1 (table_duties s n zones (once ended table))
    shape : ended ≡ true → shape_in acts ≡ Some (table_shape n rows table)
    numbers : numbers_in acts ≡ totals rows_in rows0 items ++ zone_count zones (once ended table)
    indices : indices_in acts ≡ table_index n.eof (once ended table)
    raises : raised_in acts ≡ 0
    lowers : lowered_in acts ≡ 0

  end_facts : (zones rows rows0 : ℕ) (table : Option (List Filled)) → Facts (at_end zones rows table) rows0 [] true table zones rows
  end_facts zones rows rows0 None = record { silent = refl; born = refl; given = refl; closes = refl; table_given = tt; shape = λ q. refl; numbers = refl; indices = refl; raises = refl; lowers = refl }
  end_facts zones rows rows0 (Some cs) = record { silent = refl; born = refl; given = refl; closes = refl; table_given = (refl, refl, tt); shape = λ q. refl; numbers = refl; indices = refl; raises = refl; lowers = refl }

  end_of : (records : List (List ValueData)) (last zones rows : ℕ) (ended : Bool) → Facts (S records last zones rows [] ended) rows [] ended (kept_columns (zone_columns n) records) zones rows
  end_of records last zones rows true = end_facts zones rows rows (kept_columns (zone_columns n) records)
  end_of records last zones rows false = record { silent = refl; born = refl; given = refl; closes = refl; table_given = tt; shape = λ q. cc; numbers = refl; indices = refl; raises = refl; lowers = refl }

  abbrev take_act : List (List ValueData) → ℕ → ℕ → ℕ → Item → Act
  take_act records last zones rows i = with_holds (i.0 ∷ raised n.eof 1 ∷ []) (as_kind Take (zoned_turn s n records last zones rows i).first)

  abbrev put_act : Item → Act
  put_act i = with_holds (raised n.eof 1 ∷ []) (put_item 0 i)

  step : (records : List (List ValueData)) (last zones0 rows0 : ℕ) (i : Item) (acts : List Act) (is : List Item) (ended : Bool) (table : Option (List Filled)) (zones rows : ℕ)
      → Facts acts (rows0 + rows_in i.1) is ended table zones rows → Facts (take_act records last zones0 rows0 i ∷ put_act i ∷ acts) rows0 (i ∷ is) ended table zones rows
  step records last zones0 rows0 i acts is ended table zones rows h = record {
    silent = h.silent;
    born = h.born;
    given = ap (λ x. i ∷ x) h.given;
    closes = h.closes;
    table_given = given_on (take_act records last zones0 rows0 i) (put_act i ∷ acts) 1 (table_duties s n zones (once ended table)) (λ j q. (refl, refl))
        (given_on (put_act i) acts 1 (table_duties s n zones (once ended table)) (λ j q. let x : nat_eq 0 j ≡ false = grind (arith, nat_tests) in (rw x refl, refl)) h.table_given);
    shape = h.shape;
    numbers = ap (λ z. (rows0 + rows_in i.1) ∷ z) h.numbers;
    indices = h.indices;
    raises = zero_more (zero_more h.raises);
    lowers = zero_more (zero_more h.lowers);
  }

  abbrev recorded_of : Item → List ValueData
  recorded_of i = zone_record s.hash n.type (row_values i.1) (zone_columns n)

  facts : (items : List Item) (records : List (List ValueData)) (last zones0 rows0 : ℕ) (ended : Bool) (table : Option (List Filled)) (zones rows : ℕ)
      → kept_columns (zone_columns n) (records ++ zone_records s n.type (zone_columns n) items) ≡ table → zones0 + length items ≡ zones → rows0 + row_total items ≡ rows
      → Facts (S records last zones0 rows0 items ended) rows0 items ended table zones rows
  facts [] records last zones0 rows0 ended table zones rows a b c =
      let x : kept_columns (zone_columns n) records ≡ table = ap (λ y. kept_columns (zone_columns n) y) (sym (append-nil records)) ∙ a in
      let y : zones0 ≡ zones = omega (arith, b) in
      let w : rows0 ≡ rows = omega (arith, c) in
      subst (λ q. Facts (S records last zones0 rows0 [] ended) rows0 [] ended q zones rows) x
      (subst (λ q. Facts (S records last zones0 rows0 [] ended) rows0 [] ended (kept_columns (zone_columns n) records) q rows) y
      (subst (λ q. Facts (S records last zones0 rows0 [] ended) rows0 [] ended (kept_columns (zone_columns n) records) zones0 q) w (end_of records last zones0 rows0 ended)))
  facts (i ∷ is) records last zones0 rows0 ended table zones rows a b c =
      step records last zones0 rows0 i (S (records ++ (recorded_of i ∷ [])) (rows_in i.1) (suc zones0) (rows0 + rows_in i.1) is ended) is ended table zones rows
      (facts is (records ++ (recorded_of i ∷ [])) (rows_in i.1) (suc zones0) (rows0 + rows_in i.1) ended table zones rows
      (ap (λ y. kept_columns (zone_columns n) y) (append_assoc records (recorded_of i ∷ []) (zone_records s n.type (zone_columns n) is)) ∙ a)
      (omega (arith, b)) (omega (arith, c)))

  -- what the end refuses: the table's start
  end_flags : (records : List (List ValueData)) (last zones rows : ℕ) (ended : Bool) → first_refusal (S records last zones rows [] ended) ≡ told (first_start (table_duties s n zones (once ended (kept_columns (zone_columns n) records)))) []
  end_flags records last zones rows false = refl
  end_flags records last zones rows true = go (kept_columns (zone_columns n) records)
    where
      by : (x : Option What) → told x [] ≡ told (or_else x None) []
      by None = refl
      by (Some w) = refl

      go : (table : Option (List Filled)) → first_refusal (at_end zones rows table) ≡ told (first_start (table_duties s n zones table)) []
      go None = refl
      go (Some cs) = by (start_fault s (n.table (table_type cs)) false)

  all_flags : (items : List Item) (records : List (List ValueData)) (last zones0 rows : ℕ) (ended : Bool) (table : Option (List Filled)) (zones : ℕ)
      → kept_columns (zone_columns n) (records ++ zone_records s n.type (zone_columns n) items) ≡ table → zones0 + length items ≡ zones
      → first_refusal (S records last zones0 rows items ended) ≡ flags n.options.zone_len (zone_columns n) last items (told (first_start (table_duties s n zones (once ended table))) [])
  all_flags [] records last zones0 rows ended table zones a b =
      end_flags records last zones0 rows ended ∙ ap₂ (λ x y. told (first_start (table_duties s n x (once ended y))) []) (omega (arith, b)) (ap (λ y. kept_columns (zone_columns n) y) (sym (append-nil records)) ∙ a)
  all_flags (i ∷ is) records last zones0 rows ended table zones a b =
      ap (λ x. told (zone_fault n.options.zone_len (zone_columns n) last (rows_in i.1)) x)
      (all_flags is (records ++ (recorded_of i ∷ [])) (rows_in i.1) (suc zones0) (rows + rows_in i.1) ended table zones
      (ap (λ y. kept_columns (zone_columns n) y) (append_assoc records (recorded_of i ∷ []) (zone_records s n.type (zone_columns n) is)) ∙ a) (omega (arith, b)))

-- ---- words on faults

in_told : (w : What) (fs : List Fault) (ws : List What) → In w (told (first_what fs) ws) → Has w fs ⊎ In w ws
in_told w [] ws h = inr h
in_told w (f ∷ fs) ws (inl q) = inl (has_here w f fs q)
in_told w (f ∷ fs) ws (inr q) = absurd q

told_both : (fs : List Fault) (x : Option What) → told (first_what fs) (told x []) ≡ [] → (fs ≡ []) × (x ≡ None)
told_both [] None h = (refl, refl)
told_both [] (Some w) h = cc
told_both (f ∷ fs) x h = cc

first_none : (fs : List Fault) → first_what fs ≡ None → fs ≡ []
first_none [] h = refl
first_none (f ∷ fs) h = cc

start_of : (c : Duty) (w : What) (forbidden cut : List Fault) (x : Option What) (cs : List Duty) → x ≡ c.start → or_else (first_what forbidden) x ≡ Some w → Has w (forbidden ++ cut) ⊎ AnyStart w (c ∷ cs)
start_of c w [] cut x cs q i = inr (inl (sym q ∙ i))
start_of c w (f ∷ fs) cut x cs q i = inl (has_here w f (fs ++ cut) (sym (some_same f.what w i)))

-- ---- the plan's parts, by its table

abbrev table_plans : (Ty → Node) → List Item → Eof → Option (List Filled) → List Plan
table_plans stats items e None = []
table_plans stats items e (Some cs) = stats (table_type cs) false (table_items cs (length items) e) true (next (next e)) ∷ []

record Parts (items : List Item) (e : Eof) (p q : Plan) (table : Option (List Filled)) (ps : List Plan) : Type 0 where
  pairs : q.pairs ≡ p.pairs ++ all_pairs ps
  faults : q.faults ≡ p.faults ++ all_faults ps
  numbers : q.numbers ≡ own_numbers items e table ++ (p.numbers ++ all_numbers ps)
  reserved : q.reserved ≡ p.reserved + all_reserved ps

parts_of : (s : Setting) (o : ZonedOptions) (t : Ty) (stats : Ty → Node) (items : List Item) (e : Eof) (p : Plan) (table : Option (List Filled)) → Parts items e p (with_table s o t stats false items e p table) table (table_plans stats items e table)
parts_of s o t stats items e p None = record {
  pairs = sym (append-nil p.pairs);
  faults = sym (append-nil p.faults);
  numbers = ap (λ z. data_numbers items e ++ z) (sym (append-nil p.numbers));
  reserved = omega arith;
}
parts_of s o t stats items e p (Some cs) =
    let q : Plan = stats (table_type cs) false (table_items cs (length items) e) true (next (next e)) in
    record {
      pairs = ap (λ z. p.pairs ++ z) (sym (append-nil q.pairs));
      faults = ap (λ z. p.faults ++ z) (sym (append-nil q.faults));
      numbers = ap (λ z. zone_numbers items e ++ (p.numbers ++ z)) (sym (append-nil q.numbers));
      reserved = omega arith;
    }

table_ends : (s : Setting) (n : ZonedNode) (zones : ℕ) (table : Option (List Filled)) → AllEnded (table_duties s n zones table)
table_ends s n zones None = tt
table_ends s n zones (Some cs) = (refl, tt)

shape_of : (s : Setting) (n : ZonedNode) (stats : Ty → Node) (items : List Item) (p : Plan) (x table : Option (List Filled)) (b : Bool) → b ≡ true → once b x ≡ table
    → shaped (Some (table_shape n (row_total items) x)) (all_layouts (p ∷ table_plans stats items n.eof table)) ≡ (with_table s n.options n.type stats false items n.eof p table).layout ∷ []
shape_of s n stats items p x table false i q = cc
shape_of s n stats items p x table true i q = subst (λ y. shaped (Some (table_shape n (row_total items) x)) (all_layouts (p ∷ table_plans stats items n.eof y)) ≡ (with_table s n.options n.type stats false items n.eof p y).layout ∷ []) q (go x)
  where
    go : (y : Option (List Filled)) → shaped (Some (table_shape n (row_total items) y)) (all_layouts (p ∷ table_plans stats items n.eof y)) ≡ (with_table s n.options n.type stats false items n.eof p y).layout ∷ []
    go None = refl
    go (Some cs) = refl

-- what is counted is among the node's own numbers
counts_own : (items : List Item) (e : Eof) (table : Option (List Filled)) (x : ℕ) → In x (totals rows_in 0 items ++ zone_count (length items) table) → In x (own_numbers items e table)
counts_own items e None x i = in_left x (row_totals items) ((e.last + 1) ∷ []) (subst (λ z. In x z) (append-nil (row_totals items)) i)
counts_own items e (Some cs) x i = ⊎_elim (λ a. in_left x (row_totals items) (length items ∷ (e.last + 2) ∷ []) a) (λ a. in_right x (row_totals items) (length items ∷ (e.last + 2) ∷ []) (last a)) (in_cases x (row_totals items) (length items ∷ []) i)
  where
    last : In x (length items ∷ []) → In x (length items ∷ (e.last + 2) ∷ [])
    last (inl q) = inl q
    last (inr q) = absurd q

moves_own : (items : List Item) (e : Eof) (table : Option (List Filled)) (x : ℕ) → In x (table_index e table) → AtMost x (own_numbers items e table)
moves_own items e None x i = absurd i
moves_own items e (Some cs) x (inl q) = most_right x (row_totals items) (length items ∷ (e.last + 2) ∷ []) (most_later x (length items) ((e.last + 2) ∷ []) (most_here x (e.last + 2) [] (omega (arith, q))))
moves_own items e (Some cs) x (inr q) = absurd q

places_own : (items : List Item) (e : Eof) (table : Option (List Filled)) (x : ℕ) → In x ((e.last + 1) ∷ []) → AtMost x (own_numbers items e table)
places_own items e None x (inl q) = most_right x (row_totals items) ((e.last + 1) ∷ []) (most_here x (e.last + 1) [] (omega (arith, q)))
places_own items e (Some cs) x (inl q) = most_right x (row_totals items) (length items ∷ (e.last + 2) ∷ []) (most_later x (length items) ((e.last + 2) ∷ []) (most_here x (e.last + 2) [] (omega (arith, q))))
places_own items e table x (inr q) = absurd q

is_once : (s : Setting) (n : ZonedNode) (items : List Item) (b : Bool) → once b (kept_columns (zone_columns n) (zone_records s n.type (zone_columns n) items)) ≡ table_of s n.options n.type items b
is_once s n items true = refl
is_once s n items false = refl

same_not_less : (z : ℕ) → nat_lt z z ≡ false
same_not_less z = grind (arith, nat_tests)

-- ---- the node

-- the streams of its children
pub zoned_streams : (s : Setting) (n : ZonedNode) (items : List Item) (b : Bool)
    → (seed_of n.child false (under n.name 0) (inside n.eof) ∷ births (S s n [] n.options.zone_len 0 0 items b) ≡ seeds (zoned_duties s n items b (table_of s n.options n.type items b)))
    × Given (S s n [] n.options.zone_len 0 0 items b) 0 (zoned_duties s n items b (table_of s n.options n.type items b))
zoned_streams s n items b =
    let h = facts s n items [] n.options.zone_len 0 0 b (kept_columns (zone_columns n) (zone_records s n.type (zone_columns n) items)) (length items) (row_total items) refl (omega arith) (omega arith) in
    let q = is_once s n items b in (
      ap (λ x. seed_of n.child false (under n.name 0) (inside n.eof) ∷ x) (subst (λ x. births (S s n [] n.options.zone_len 0 0 items b) ≡ seeds (table_duties s n (length items) x)) q h.born),
      (h.given, h.closes, subst (λ x. Given (S s n [] n.options.zone_len 0 0 items b) 1 (table_duties s n (length items) x)) q h.table_given),
    )

module _ (s : Setting) (n : ZonedNode) (k : Node) (stats : Ty → Node) (items : List Item) (b : Bool) where
  abbrev whole_table : Option (List Filled)
  whole_table = kept_columns (zone_columns n) (zone_records s n.type (zone_columns n) items)

  abbrev data_plan : Plan
  data_plan = k false items b (inside n.eof)

  abbrev forbidden : List Fault
  forbidden = forbidden_faults s.allowed (zone_columns n)

  abbrev cut : List Fault
  cut = zone_faults n.options.zone_len (zone_columns n) items

  at_table : (table : Option (List Filled)) → once b whole_table ≡ table → Facts s n (S s n [] n.options.zone_len 0 0 items b) 0 items b whole_table (length items) (row_total items)
      → first_refusal (S s n [] n.options.zone_len 0 0 items b) ≡ told (first_what cut) (told (first_start (table_duties s n (length items) (once b whole_table))) [])
      → Parent s (duty_of s (zoned_form n.options n.type n.child n.table) false n.name items b n.eof) (zoned_duties s n items b table)
      (with_faults (forbidden ++ cut) (with_table s n.options n.type stats false items n.eof data_plan table)) (data_plan ∷ table_plans stats items n.eof table) (forbidden ++ cut) (own_numbers items n.eof table)
  at_table table q h g =
      let parts = parts_of s n.options n.type stats items n.eof data_plan table in
      let cs : List Duty = table_duties s n (length items) table in
      let g' : first_refusal (S s n [] n.options.zone_len 0 0 items b) ≡ told (first_what cut) (told (first_start cs) []) =
      subst (λ x. first_refusal (S s n [] n.options.zone_len 0 0 items b) ≡ told (first_what cut) (told (first_start (table_duties s n (length items) x)) [])) q g in
      record {
        seeds_are = ap (λ x. seed_of n.child false (under n.name 0) (inside n.eof) ∷ x) (subst (λ x. births (S s n [] n.options.zone_len 0 0 items b) ≡ seeds (table_duties s n (length items) x)) q h.born);
        given_are = (h.given, h.closes, subst (λ x. Given (S s n [] n.options.zone_len 0 0 items b) 1 (table_duties s n (length items) x)) q h.table_given);
        silent = h.silent;
        pairs = parts.pairs;
        faults = ap (λ z. (forbidden ++ cut) ++ z) parts.faults;
        numbers = parts.numbers;
        reserved = parts.reserved ∙ unraised h.raises;
        flagged = λ w i. ⊎_elim (λ a. inl (has_right w forbidden cut a)) (λ a. inr (inr (first_any w cs (told_one w (first_start cs) a)))) (in_told w cut (told (first_start cs) []) (subst (λ z. In w z) g' i));
        unflagged = λ i x.
            let y : (cut ≡ []) × (first_start cs ≡ None) = told_both cut (first_start cs) (sym g' ∙ i) in
            let z : (first_what forbidden ≡ None) × (start_fault s n.child false ≡ None) = else_none (first_what forbidden) (start_fault s n.child false) x in
            (nil_both forbidden cut (first_none forbidden z.0) y.0, ap₂ (λ u v. or_else u v) z.1 y.1);
        starts = λ w i. start_of (duty_of s n.child false (under n.name 0) items b (inside n.eof)) w forbidden cut (start_fault s n.child false) cs refl i;
        ends = λ i. (i, table_ends s n (length items) table);
        shapes = λ i. ap (λ z. shaped z (all_layouts (data_plan ∷ table_plans stats items n.eof table))) (h.shape i) ∙ shape_of s n stats items data_plan whole_table table b i q;
        counts = λ x i. subst (λ y. In x (own_numbers items n.eof y)) q (counts_own items n.eof (once b whole_table) x (subst (λ z. In x z) h.numbers i));
        moves = λ x i. subst (λ y. AtMost x (own_numbers items n.eof y)) q (moves_own items n.eof (once b whole_table) x (subst (λ z. In x z) h.indices i));
        places = λ x i. places_own items n.eof table x i;
        lowers = λ i. h.lowers ∙ sym h.raises;
      }

  parent : Parent s (duty_of s (zoned_form n.options n.type n.child n.table) false n.name items b n.eof) (zoned_duties s n items b (table_of s n.options n.type items b)) (zoned_node s n.options n.type k stats false items b n.eof)
      (data_plan ∷ table_plans stats items n.eof (table_of s n.options n.type items b)) (forbidden ++ cut) (own_numbers items n.eof (table_of s n.options n.type items b))
  parent = at_table (table_of s n.options n.type items b) (is_once s n items b)
      (facts s n items [] n.options.zone_len 0 0 b whole_table (length items) (row_total items) refl (omega arith) (omega arith))
      (all_flags s n items [] n.options.zone_len 0 0 b whole_table (length items) refl (omega arith)
      ∙ flags_are n.options.zone_len (zone_columns n) n.options.zone_len items (told (first_start (table_duties s n (length items) (once b whole_table))) []) (same_not_less n.options.zone_len))

pub zoned_fair : (s : Setting) (o : ZonedOptions) (t : Ty) (k : Node) (f : Form) (stats : Ty → Node) (forms : Ty → Form) → Fair s k f → ((u : Ty) → Fair s (stats u) (forms u))
    → Fair s (zoned_node s o t k stats) (zoned_form o t f forms)
zoned_fair s o t k f stats forms h hs = record { fair = go }
  where
    tables : (g : Ty → Fuel) → ((u : Ty) → Enough (g (form_type (forms u))) (forms u)) → (name : List ℕ) (items : List Item) (e : Eof) (table : Option (List Filled))
        → AllMeet s g (table_duties s (record { name = name; options = o; type = t; child = f; table = forms; eof = e }) (length items) table) (table_plans stats items e table)
    tables g enough name items e None = tt
    tables g enough name items e (Some cs) =
        ((hs (table_type cs)).fair false (under name 1) (table_items cs (length items) e) true (next (next e)) (g (form_type (forms (table_type cs)))) (enough (table_type cs)), tt)

    go : (m : Bool) (name : List ℕ) (items : List Item) (ended : Bool) (e : Eof) (d : Fuel) → Enough d (zoned_form o t f forms) → Meets s d (duty_of s (zoned_form o t f forms) m name items ended e) (zoned_node s o t k stats m items ended e)
    go m name items ended e spent enough = absurd enough
    go true name items ended e (fuel g) enough = h.fair true name items ended e (fuel g) enough.0
    go false name items ended e (fuel g) enough =
        let n : ZonedNode = record { name = name; options = o; type = t; child = f; table = forms; eof = e } in
        spread s g (duty_of s (zoned_form o t f forms) false name items ended e) (zoned_duties s n items ended (table_of s o t items ended)) (zoned_node s o t k stats false items ended e)
        (k false items ended (inside e) ∷ table_plans stats items e (table_of s o t items ended)) (forbidden_faults s.allowed (recorded o t) ++ zone_faults o.zone_len (recorded o t) items)
        (own_numbers items e (table_of s o t items ended)) (parent s n k stats items ended)
        (h.fair false (under name 0) items ended (inside e) (g (form_type f)) enough.1, tables g enough.2 name items e (table_of s o t items ended))
