-- The laws of a zoned node.
use Rattle.std.proofs.Common.{◌≡◌, ℕ, suc, ◌+◌, ◌<◌, ◌≤◌, ◌^◌, Bool, true, false, List, [], ◌∷◌, ◌++◌, map, length, Option, Some, None, refl, sym, ap, ◌∙◌, subst, inl, inr, ⊎_elim, arith}
use Rattle.std.specs.Prelude.{if◌then◌else◌, ◌&&◌, ◌||◌, nat_lt}
use Rattle.std.specs.Str.{is_utf8}
use Rattle.std.proofs.lemmas.Bool.Decides.{nat_tests}
use Rattle.std.proofs.lemmas.List.{append-nil}
use Rattle.std.proofs.lemmas.Bool.{and_from, and_parts}
use Rattle.vx_model.specs.Words.{all_by, tail}
use Rattle.vx_model.specs.Ty.{Ty, boolean, primitive, utf8, binary, list, struct, extension}
use Rattle.vx_model.specs.CellData.{CellData, null_cell, bool_cell, int_cell, text_cell, bytes_cell, list_cell, struct_cell, fits}
use Rattle.vx_model.specs.ValueData.{ValueData, value, is_null_value, is_row_value, value_fits}
use Rattle.vx_model.specs.ChunkData.{cells, row_values}
use Rattle.vx_path.specs.Path.{Eof, Region, begins, meets, raised, inside, next, under}
use Rattle.vx_path.specs.Lists.{In}
use Rattle.vx_path.proofs.Lists.{in_left}
use Rattle.vx_path.proofs.Sort.{length-sort_by}
use Rattle.vx_path.proofs.Path.{begins-refl, begins-trans, begins-under, raised_apart, raised-next, region_inside}
use Rattle.vx_layout_spec.specs.Rows.{and_then, counted}
use Rattle.vx_layout_spec.specs.LayoutTree.{layout_type}
use Rattle.vx_aggregate_spec.specs.Aggregate.{Aggregate, maximum, minimum, bounded_maximum, bounded_minimum, null_count, sum, bloom, Column, has_options, state_type, with_state, held_aggregates, default_aggregates}
use Rattle.vx_zone_spec.specs.Statements.{is_text, AllValues}
use Rattle.vx_bloom_spec.proofs.ValueFits.{value_fits-value}
use Rattle.vx_zone_spec.specs.ZoneTable.{Filled, name_of, filled, some_values, ordered, table_type, table_piece, kept_columns}
use Rattle.vx_plan.specs.ZonesHold.{zones_of, records_of, IsZoneCount}
use Rattle.vx_layout_spec.specs.Real.{Of, is_real_cell}
use Rattle.vx_zone_spec.specs.Record.{zone_record}
use Rattle.vx_zone_table_laws.specs.Statements.{Zones, SmallFilter, SmallFilters, records}
use Rattle.vx_zone_table_laws.proofs.WholeTables.{any_same, table_whole, columns_are}
use Rattle.vx_rules.proofs.CellLaws.{Fine, cells_fine}
use Rattle.vx_rules.proofs.ColumnStreams.{chunk_cells}
use Rattle.vx_plan.proofs.ZoneRecords.{zones_right, zones_count}
use Rattle.vx_strategy_spec.specs.Admitted.{are_admitted_aggregates, is_admitted_zoned}
use Rattle.vx_plan.proofs.Relate.{Given}
use Rattle.vx_plan.specs.PlanData.{Setting, Item, Plan, Node, Fault, paths, places, stream_values, rows_in, row_total}
use Rattle.vx_strategy_spec.specs.StrategyData.{ZonedOptions}
use Rattle.vx_plan.specs.ZonedNode.{asked, recorded, forbidden_faults, is_no_zone, cut_fault, cut_faults, zone_faults, zone_records, with_faults, table_items, data_numbers, zone_numbers, with_table, table_of, zoned_node}
use Rattle.vx_plan.specs.Valid.{Fit}
use Rattle.vx_plan.specs.Statements.{Within}
use Rattle.vx_plan.proofs.PlanLists.{ItemsOf, Holds, Gives, counted_same, nil_left, nil_right, fit_left, fit_right, fit_both, fit_total, fit_before, holds_left, holds_right, length-stream_values, in_joined, within}
use Rattle.vx_plan.proofs.Spots.{Apart, Lies, two_parts, apart_both, apart_inside}
use Rattle.vx_plan.proofs.FlatLaws.{Reads, Placed, Grows, Typed}
use Rattle.vx_plan.proofs.ChunkedLaws.{paths-append}

-- ---- rows: the data child's

-- the records, where a column is kept of them
of_zones : (s : Setting) (o : ZonedOptions) (t : Ty) (columns : List Column) (items : List Item) (cs : List Filled) → zone_faults o.zone_len columns items ≡ [] → kept_columns columns (zone_records s t columns items) ≡ Some cs
    → zone_records s t columns items ≡ records_of s t columns (zones_of (length items) o.zone_len (stream_values items))
of_zones s o t [] [] cs right kept = cc
of_zones s o t [] (i ∷ is) cs right kept = cc
of_zones s o t (a ∷ columns) items cs right kept = zones_right s t (a ∷ columns) o.zone_len items right

-- as many zones as chunks
count_zones : (s : Setting) (o : ZonedOptions) (t : Ty) (columns : List Column) (items : List Item) (cs : List Filled) → zone_faults o.zone_len columns items ≡ [] → kept_columns columns (zone_records s t columns items) ≡ Some cs
    → IsZoneCount (length (stream_values items)) o.zone_len (length items)
count_zones s o t [] [] cs right kept = absurd cc
count_zones s o t [] (i ∷ is) cs right kept = absurd cc
count_zones s o t (a ∷ columns) [] cs right kept = absurd cc
count_zones s o t (a ∷ columns) (i ∷ is) cs right kept =
    subst (λ n. IsZoneCount n o.zone_len (length (i ∷ is))) (sym (length-stream_values (i ∷ is))) (zones_count o.zone_len i is right)

-- the zones' cells
zones_cells : (t : Ty) (items : List Item) → ItemsOf t items → Zones t (chunk_cells items)
zones_cells t [] of = tt
zones_cells t (c ∷ cs) of = let f : Fine t (cells c.1) = cells_fine t c.1 of.0 in (record { fit = f.fit; real = f.real; short = f.short }, zones_cells t cs of.1)

records_cells : (s : Setting) (t : Ty) (columns : List Column) (items : List Item) → zone_records s t columns items ≡ records s.hash t columns (chunk_cells items)
records_cells s t columns [] = refl
records_cells s t columns (c ∷ cs) = ap (λ r. zone_record s.hash t (row_values c.1) columns ∷ r) (records_cells s t columns cs)

cells_count : (items : List Item) → length (chunk_cells items) ≡ length items
cells_count [] = refl
cells_count (c ∷ cs) = ap suc (cells_count cs)

-- what constructors make of a zoned node's options
default_options : (t : Ty) → all_by has_options (default_aggregates t) ≡ true
default_options (boolean n) = refl
default_options (primitive p n) = refl
default_options (utf8 n) = refl
default_options (binary n) = refl
default_options (list t n) = refl
default_options (struct fs n) = refl
default_options (extension tag t) = refl

asked_options : (aggregates : Option (List Aggregate)) (t : Ty) → are_admitted_aggregates aggregates ≡ true → all_by has_options (asked aggregates t) ≡ true
asked_options None t h = default_options t
asked_options (Some aggregates) t h = (and_parts (all_by has_options aggregates) (nat_lt (length aggregates) (2 ^ 32)) h).0

aggregates_of : (o : ZonedOptions) → is_admitted_zoned o ≡ true → are_admitted_aggregates o.aggregates ≡ true
aggregates_of o h =
    let a : (nat_lt o.zone_len (2 ^ 32) && (nat_lt 0 o.concurrency && are_admitted_aggregates o.aggregates)) ≡ true = (and_parts (nat_lt 0 o.zone_len) _ h).1 in
    let b : (nat_lt 0 o.concurrency && are_admitted_aggregates o.aggregates) ≡ true = (and_parts (nat_lt o.zone_len (2 ^ 32)) _ a).1 in
    (and_parts (nat_lt 0 o.concurrency) (are_admitted_aggregates o.aggregates) b).1

pub options_of : (o : ZonedOptions) (t : Ty) → is_admitted_zoned o ≡ true → all_by has_options (asked o.aggregates t) ≡ true
options_of o t h = asked_options o.aggregates t (aggregates_of o h)

-- ---- a table has no more columns than were asked for, fewer than 2^32

default_few : (t : Ty) → length (default_aggregates t) ≡ 3
default_few (boolean n) = refl
default_few (primitive p n) = refl
default_few (utf8 n) = refl
default_few (binary n) = refl
default_few (list t n) = refl
default_few (struct fs n) = refl
default_few (extension tag t) = refl

asked_few : (aggregates : Option (List Aggregate)) (t : Ty) → are_admitted_aggregates aggregates ≡ true → length (asked aggregates t) < 2 ^ 32
asked_few None t h = omega (arith, default_few t)
asked_few (Some aggregates) t h = below (length aggregates) (and_parts (all_by has_options aggregates) (nat_lt (length aggregates) (2 ^ 32)) h).1
  where
    below : (n : ℕ) → nat_lt n (2 ^ 32) ≡ true → n < 2 ^ 32
    below n h = grind (arith, nat_tests)

held_count : (aggregates : List Aggregate) (t : Ty) → length (held_aggregates aggregates t) ≤ length aggregates
held_count [] t = omega arith
held_count (a ∷ aggregates) t = by_state (state_type a t) (held_count aggregates t)
  where
    by_state : (o : Option Ty) → length (held_aggregates aggregates t) ≤ length aggregates → length (with_state a o ++ held_aggregates aggregates t) ≤ suc (length aggregates)
    by_state None h = omega arith
    by_state (Some u) h = omega arith

filled_count : (columns : List Column) (records : List (List ValueData)) → length (filled columns records) ≡ length columns
filled_count [] records = refl
filled_count (a ∷ columns) records = ap suc (filled_count columns (map tail records))

some_count : (cs : List Filled) → length (some_values cs) ≤ length cs
some_count [] = omega arith
some_count (c ∷ cs) = by_nulls (all_by is_null_value c.values) (some_count cs)
  where
    by_nulls : (b : Bool) → length (some_values cs) ≤ length cs → length (if b then some_values cs else c ∷ some_values cs) ≤ suc (length cs)
    by_nulls true h = omega arith
    by_nulls false h = omega arith

pub few_kept : (columns : List Column) (records : List (List ValueData)) (cs : List Filled) → kept_columns columns records ≡ Some cs → length cs ≤ length columns
few_kept columns [] cs e = absurd (cc e)
few_kept columns (r ∷ records) cs e =
    let kept : List Filled = some_values (filled columns (r ∷ records)) in
    let same : length (ordered kept) ≡ length cs = ap length (any_same (ordered kept) cs e) in
    omega (arith, same, length-sort_by name_of kept, some_count (filled columns (r ∷ records)), filled_count columns (r ∷ records))

pub few_columns : (o : ZonedOptions) (t : Ty) (records : List (List ValueData)) (cs : List Filled) → is_admitted_zoned o ≡ true → kept_columns (recorded o t) records ≡ Some cs → length cs < 2 ^ 32
few_columns o t records cs h kept = omega (arith, few_kept (recorded o t) records cs kept, held_count (asked o.aggregates t) t, asked_few o.aggregates t (aggregates_of o h))

small_filter : (a : Aggregate) → has_options a ≡ true → SmallFilter a
small_filter maximum h = tt
small_filter minimum h = tt
small_filter (bounded_maximum n) h = tt
small_filter (bounded_minimum n) h = tt
small_filter null_count h = tt
small_filter sum h = tt
small_filter (bloom n) h = few n (and_parts (nat_lt 0 n) (nat_lt n (2 ^ 32)) h).1
  where
    few : (n : ℕ) → nat_lt n (2 ^ 32) ≡ true → n < 2 ^ 32
    few n h = grind (arith, nat_tests)

small_filters : (aggregates : List Aggregate) → all_by has_options aggregates ≡ true → SmallFilters aggregates
small_filters [] h = tt
small_filters (a ∷ aggregates) h = (small_filter a (and_parts (has_options a) (all_by has_options aggregates) h).0, small_filters aggregates (and_parts (has_options a) (all_by has_options aggregates) h).1)

-- the table is a whole chunk
pub whole_table : (s : Setting) (o : ZonedOptions) (t : Ty) (items : List Item) (cs : List Filled) → ItemsOf t items → length items < 2 ^ 64 → kept_columns (recorded o t) (zone_records s t (recorded o t) items) ≡ Some cs
    → is_admitted_zoned o ≡ true → Of (table_type cs) (table_piece cs (length items))
whole_table s o t items cs of short kept h =
    subst (λ n. Of (table_type cs) (table_piece cs n)) (cells_count items)
    (table_whole s.hash t (recorded o t) (chunk_cells items) cs (columns_are t (asked o.aggregates t) (small_filters (asked o.aggregates t) (options_of o t h))) (zones_cells t items of)
    (let e : length (chunk_cells items) ≡ length items = cells_count items in omega arith)
    (ap (kept_columns (recorded o t)) (sym (records_cells s t (recorded o t) items)) ∙ kept))

-- ---- the rows are values of the type

text_of : (c : CellData) → is_real_cell c ≡ true → is_text (value c) ≡ true
text_of null_cell h = refl
text_of (bool_cell b) h = refl
text_of (int_cell b) h = refl
text_of (text_cell b) h = (and_parts (is_utf8 b) _ h).0
text_of (bytes_cell b) h = refl
text_of (list_cell true cs) h = refl
text_of (list_cell false cs) h = refl
text_of (struct_cell true cs) h = refl
text_of (struct_cell false cs) h = refl

or_fits : (a b : Bool) → b ≡ true → (a || b) ≡ true
or_fits true b e = refl
or_fits false b e = e

cells_values : (t : Ty) (cs : List CellData) → all_by (fits t) cs ≡ true → all_by is_real_cell cs ≡ true → AllValues t (map value cs)
cells_values t [] f r = tt
cells_values t (c ∷ cs) f r = (
  and_from (is_row_value t (value c)) (is_text (value c)) (or_fits (is_null_value (value c)) (value_fits t (value c)) (value_fits-value t c (and_parts (fits t c) (all_by (fits t) cs) f).0))
      (text_of c (and_parts (is_real_cell c) (all_by is_real_cell cs) r).0),
  cells_values t cs (and_parts (fits t c) (all_by (fits t) cs) f).1 (and_parts (is_real_cell c) (all_by is_real_cell cs) r).1,
)

values_append : (t : Ty) (vs ws : List ValueData) → AllValues t vs → AllValues t ws → AllValues t (vs ++ ws)
values_append t [] ws g h = h
values_append t (v ∷ vs) ws g h = (g.0, values_append t vs ws g.1 h)

items_values : (t : Ty) (items : List Item) → ItemsOf t items → AllValues t (stream_values items)
items_values t [] of = tt
items_values t (c ∷ cs) of =
    let f : Fine t (cells c.1) = cells_fine t c.1 of.0 in
    values_append t (row_values c.1) (stream_values cs) (cells_values t (cells c.1) f.fit f.real) (items_values t cs of.1)

-- what the numbers of a node with a table tell of its zones, and those of its children
pub zone_fits : (items : List Item) (e : Eof) (ns : List ℕ) → Fit (zone_numbers items e ++ ns) → (length items < 2 ^ 64) × Fit ns
zone_fits items e ns h = ((fit_total items (length items ∷ (e.last + 2) ∷ []) (fit_left (zone_numbers items e) ns h)).1.0, fit_right (zone_numbers items e) ns h)

table_reads : (admitted : Bool) (s : Setting) (o : ZonedOptions) → Given admitted (is_admitted_zoned o) → (t : Ty) (stats : Ty → Node) → ((u : Ty) → Reads admitted s u (stats u)) → ((u : Ty) → Typed u (stats u))
    → (items : List Item) (e : Eof) (p : Plan) (cs : Option (List Filled)) → ItemsOf t items
    → zone_faults o.zone_len (recorded o t) items ≡ [] → kept_columns (recorded o t) (zone_records s t (recorded o t) items) ≡ cs → (look : List ℕ → Option (List ℕ))
    → (p.faults ≡ [] → Fit p.numbers → Holds look p.pairs → Gives admitted s look p.layout (stream_values items))
    → (with_table s o t stats false items e p cs).faults ≡ [] → Fit (with_table s o t stats false items e p cs).numbers → Holds look (with_table s o t stats false items e p cs).pairs
    → Gives admitted s look (with_table s o t stats false items e p cs).layout (stream_values items)
table_reads admitted s o ok t stats rs ts items e p None of right kept look r clean fit held = r clean (fit_right (data_numbers items e) p.numbers fit) held
table_reads admitted s o ok t stats rs ts items e p (Some cs) of right kept look r clean fit held =
    let q : Plan = stats (table_type cs) false (table_items cs (length items) e) true (next (next e)) in
    let fits : (length items < 2 ^ 64) × Fit (p.numbers ++ q.numbers) = zone_fits items e (p.numbers ++ q.numbers) fit in
    let data_child : Gives admitted s look p.layout (stream_values items) = r (nil_left p.faults q.faults clean) (fit_left p.numbers q.numbers fits.1) (holds_left look p.pairs q.pairs held) in
    record {
      read = ap (and_then (counted (row_total items))) data_child.read ∙ counted_same (row_total items) (stream_values items) (length-stream_values items);
      zones = λ a.
          let zones_child : Gives admitted s look q.layout (row_values (table_piece cs (length items)) ++ []) =
          (rs (table_type cs)).reads false (table_items cs (length items) e) (next (next e)) (whole_table s o t items cs of fits.0 kept (ok a), tt) (nil_right p.faults q.faults clean) (fit_right p.numbers q.numbers fits.1) look
          (holds_right look p.pairs q.pairs held) in (
            record {
              aggregates = asked o.aggregates t;
              options = options_of o t (ok a);
              values = stream_values items;
              count = length items;
              table = cs;
              data_rows = data_child.read;
              row_count = length-stream_values items;
              of_type = items_values t items of;
              all_zones = count_zones s o t (recorded o t) items cs right kept;
              kept = ap (kept_columns (recorded o t)) (sym (of_zones s o t (recorded o t) items cs right kept)) ∙ kept;
              specs_are = refl;
              zones_type = (ts (table_type cs)).typed false (table_items cs (length items) e) true (next (next e));
              zones_rows = zones_child.read ∙ ap Some (append-nil (row_values (table_piece cs (length items))));
            },
            (data_child.zones a, (zones_child.zones a, tt)),
          );
    }

pub zoned_reads : (admitted : Bool) (s : Setting) (o : ZonedOptions) → Given admitted (is_admitted_zoned o) → (t : Ty) (k : Node) (stats : Ty → Node) → Reads admitted s t k → ((u : Ty) → Reads admitted s u (stats u)) → ((u : Ty) → Typed u (stats u)) → Reads admitted s t (zoned_node s o t k stats)
zoned_reads admitted s o ok t k stats r rs ts = record { reads = go }
  where
    go : (m : Bool) (items : List Item) (e : Eof) → ItemsOf t items → (zoned_node s o t k stats m items true e).faults ≡ [] → Fit (zoned_node s o t k stats m items true e).numbers
        → (look : List ℕ → Option (List ℕ)) → Holds look (zoned_node s o t k stats m items true e).pairs
        → Gives admitted s look (zoned_node s o t k stats m items true e).layout (stream_values items)
    go true items e of clean fit look held = r.reads true items e of clean fit look held
    go false items e of clean fit look held =
        table_reads admitted s o ok t stats rs ts items e (k false items true (inside e)) (table_of s o t items true) of
        (nil_right (forbidden_faults s.allowed (recorded o t)) (zone_faults o.zone_len (recorded o t) items)
        (nil_left (forbidden_faults s.allowed (recorded o t) ++ zone_faults o.zone_len (recorded o t) items) (with_table s o t stats false items e (k false items true (inside e)) (table_of s o t items true)).faults clean))
        refl look
        (λ c f h. r.reads false items (inside e) of c f look h)
        (nil_right (forbidden_faults s.allowed (recorded o t) ++ zone_faults o.zone_len (recorded o t) items) (with_table s o t stats false items e (k false items true (inside e)) (table_of s o t items true)).faults clean)
        fit held

-- ---- paths

nil_apart : (e : Eof) (ps : List (List ℕ)) → Apart ps e → Apart (ps ++ []) e
nil_apart e ps a = subst (λ z. Apart z e) (sym (append-nil ps)) a

table_apart : (e : Eof) → Apart (under (raised e 1) 0 ∷ []) (next (next e))
table_apart e = record {
  scattered = (λ q h. absurd h, tt);
  off = λ p i j. ⊎_elim (λ s. subst (λ z. meets z (raised (next (next e)) j) ≡ false) (sym s)
      (apart_both (raised e 1) (raised e (j + 1 + 1)) (under (raised e 1) 0) (raised (next (next e)) j)
      (raised_apart e 1 (j + 1 + 1) (omega arith)) (begins-under (raised e 1) 0) (same j))) (λ n. absurd n) i;
}
  where
    same : (j : ℕ) → begins (raised e (j + 1 + 1)) (raised (next (next e)) j) ≡ true
    same j = subst (λ z. begins z (raised (next (next e)) j) ≡ true) (raised-next (next e) j ∙ raised-next e (j + 1)) (begins-refl (raised (next (next e)) j))

table_region : (e : Eof) (x : List ℕ) → Region (under (raised e 1) 0 ∷ []) (next (next e)) x → Region [] (next e) x
table_region e x (inl h) = inr (
  0,
  subst (λ z. begins z x ≡ true) (sym (raised-next e 0))
      (begins-trans (raised e 1) h.0 x (⊎_elim (λ s. subst (λ z. begins (raised e 1) z ≡ true) (sym s) (begins-under (raised e 1) 0)) (λ n. absurd n) h.1) h.2),
)
table_region e x (inr h) = inr (h.0 + 1, subst (λ z. begins z x ≡ true) (raised-next (next e) h.0) h.1)

table_placed : (s : Setting) (o : ZonedOptions) (t : Ty) (stats : Ty → Node) → ((u : Ty) → Placed u (stats u)) → (m : Bool) (items : List Item) (e : Eof) (p : Plan) (cs : Option (List Filled))
    → Apart (places items) e → Lies (Region (places items) (inside e)) (paths p.pairs) → Lies (Region (places items) e) (paths (with_table s o t stats m items e p cs).pairs)
table_placed s o t stats c m items e p None a l = record { scattered = l.scattered; within = λ x i. region_inside (places items) e x (l.within x i) }
table_placed s o t stats c m items e p (Some cs) a l =
    let q : Plan = stats (table_type cs) m (table_items cs (length items) e) true (next (next e)) in
    let lq : Lies (Region (under (raised e 1) 0 ∷ []) (next (next e))) (paths q.pairs) = (c (table_type cs)).placed m (table_items cs (length items) e) true (next (next e)) (table_apart e) in
    subst (Lies (Region (places items) e)) (sym (paths-append p.pairs q.pairs))
    (subst (λ z. Lies (Region z e) (paths p.pairs ++ paths q.pairs)) (append-nil (places items))
    (two_parts (places items) [] e (paths p.pairs) (paths q.pairs) (nil_apart e (places items) a) l
    (record { scattered = lq.scattered; within = λ x i. table_region e x (lq.within x i) })))

pub zoned_placed : (s : Setting) (o : ZonedOptions) (t : Ty) (k : Node) (stats : Ty → Node) → Placed t k → ((u : Ty) → Placed u (stats u)) → Placed t (zoned_node s o t k stats)
zoned_placed s o t k stats c cs = record { placed = go }
  where
    go : (m : Bool) (items : List Item) (ended : Bool) (e : Eof) → Apart (places items) e → Lies (Region (places items) e) (paths (zoned_node s o t k stats m items ended e).pairs)
    go true items ended e a = c.placed true items ended e a
    go false items ended e a =
        table_placed s o t stats cs false items e (k false items ended (inside e)) (table_of s o t items ended) a (c.placed false items ended (inside e) (apart_inside (places items) e a))

-- ---- prefixes

in_choice : (f : Fault) (b : Bool) (fs gs hs : List Fault) → (In f gs → In f hs) → In f (if b then fs else gs) → In f (if b then fs else hs)
in_choice f true fs gs hs g i = i
in_choice f false fs gs hs g i = g i

cut_grow : (zone : ℕ) (xs ys : List Item) (f : Fault) → In f (cut_faults zone xs) → In f (cut_faults zone (xs ++ ys))
cut_grow zone [] ys f i = absurd i
cut_grow zone (x ∷ []) [] f i = i
cut_grow zone (x ∷ []) (y ∷ ys) f i =
    in_choice f (is_no_zone zone (length (cells x.1))) (cut_fault (length (cells x.1)) x.0) []
    (if nat_lt (length (cells x.1)) zone then cut_fault (length (cells x.1)) y.0 else cut_faults zone (y ∷ ys)) (λ n. absurd n) i
cut_grow zone (x ∷ z ∷ xs) ys f i =
    in_choice f (is_no_zone zone (length (cells x.1))) (cut_fault (length (cells x.1)) x.0)
    (if nat_lt (length (cells x.1)) zone then cut_fault (length (cells x.1)) z.0 else cut_faults zone (z ∷ xs))
    (if nat_lt (length (cells x.1)) zone then cut_fault (length (cells x.1)) z.0 else cut_faults zone (z ∷ xs ++ ys))
    (λ j. in_choice f (nat_lt (length (cells x.1)) zone) (cut_fault (length (cells x.1)) z.0) (cut_faults zone (z ∷ xs)) (cut_faults zone (z ∷ xs ++ ys)) (cut_grow zone (z ∷ xs) ys f) j) i

zones_grow : (zone : ℕ) (columns : List Column) (xs ys : List Item) (f : Fault) → In f (zone_faults zone columns xs) → In f (zone_faults zone columns (xs ++ ys))
zones_grow zone [] xs ys f i = absurd i
zones_grow zone (c ∷ cs) xs ys f i = cut_grow zone xs ys f i

-- an open plan has no table
open_table : (s : Setting) (o : ZonedOptions) (t : Ty) (stats : Ty → Node) (m : Bool) (xs ys : List Item) (e : Eof) (p q : Plan) (cs : Option (List Filled)) → Within p q
    → Within (with_table s o t stats m xs e p None) (with_table s o t stats m (xs ++ ys) e q cs)
open_table s o t stats m xs ys e p q None h =
    within h.pairs h.faults
    (λ f g. fit_both (data_numbers xs e) p.numbers
    (fit_before rows_in 0 xs ys ((e.last + 1) ∷ []) ((e.last + 1) ∷ []) (λ i. i) (fit_left (data_numbers (xs ++ ys) e) q.numbers g))
    (h.fit f (fit_right (data_numbers (xs ++ ys) e) q.numbers g)))
    (let l : p.reserved ≤ q.reserved = h.reserved in omega arith)
open_table s o t stats m xs ys e p q (Some cs) h =
    let r : Plan = stats (table_type cs) m (table_items cs (length (xs ++ ys)) e) true (next (next e)) in
    within (λ x i. in_left x q.pairs r.pairs (h.pairs x i)) (λ f i. in_left f q.faults r.faults (h.faults f i))
    (λ f g. fit_both (data_numbers xs e) p.numbers
    (fit_before rows_in 0 xs ys (length (xs ++ ys) ∷ (e.last + 2) ∷ []) ((e.last + 1) ∷ []) (λ i. ((let b : e.last + 2 < 2 ^ 64 = i.1.0 in omega arith), tt))
    (fit_left (zone_numbers (xs ++ ys) e) (q.numbers ++ r.numbers) g))
    (h.fit (nil_left q.faults r.faults f) (fit_left q.numbers r.numbers (fit_right (zone_numbers (xs ++ ys) e) (q.numbers ++ r.numbers) g))))
    (let l : p.reserved ≤ q.reserved = h.reserved in omega arith)

faults_within : (fs gs : List Fault) (p q : Plan) → ((f : Fault) → In f fs → In f gs) → Within p q → Within (with_faults fs p) (with_faults gs q)
faults_within fs gs p q f h = within h.pairs (in_joined fs p.faults gs q.faults f h.faults) (λ e g. h.fit (nil_right gs q.faults e) g) h.reserved

pub zoned_grows : (s : Setting) (o : ZonedOptions) (t : Ty) (k : Node) (stats : Ty → Node) → Grows t k → Grows t (zoned_node s o t k stats)
zoned_grows s o t k stats c = record { grows = go; quiet = silent; still = nothing; steady = same }
  where
    go : (m : Bool) (xs ys : List Item) (ended : Bool) (e : Eof) → Within (zoned_node s o t k stats m xs false e) (zoned_node s o t k stats m (xs ++ ys) ended e)
    go true xs ys ended e = c.grows true xs ys ended e
    go false xs ys ended e =
        faults_within (forbidden_faults s.allowed (recorded o t) ++ zone_faults o.zone_len (recorded o t) xs) (forbidden_faults s.allowed (recorded o t) ++ zone_faults o.zone_len (recorded o t) (xs ++ ys))
        (with_table s o t stats false xs e (k false xs false (inside e)) None) (with_table s o t stats false (xs ++ ys) e (k false (xs ++ ys) ended (inside e)) (table_of s o t (xs ++ ys) ended))
        (in_joined (forbidden_faults s.allowed (recorded o t)) (zone_faults o.zone_len (recorded o t) xs) (forbidden_faults s.allowed (recorded o t)) (zone_faults o.zone_len (recorded o t) (xs ++ ys))
        (λ f i. i) (zones_grow o.zone_len (recorded o t) xs ys))
        (open_table s o t stats false xs ys e (k false xs false (inside e)) (k false (xs ++ ys) ended (inside e)) (table_of s o t (xs ++ ys) ended) (c.grows false xs ys ended (inside e)))

    silent : (m : Bool) (e : Eof) → (zoned_node s o t k stats m [] false e).pairs ≡ []
    silent true e = c.quiet true e
    silent false e = c.quiet false (inside e)

    nothing : (m : Bool) (e : Eof) → (zoned_node s o t k stats m [] false e).reserved ≡ 0
    nothing true e = c.still true e
    nothing false e = let z : (k false [] false (inside e)).reserved ≡ 0 = c.still false (inside e) in omega arith

    same : (m : Bool) (d e : Eof) → (zoned_node s o t k stats m [] false d).faults ≡ (zoned_node s o t k stats m [] false e).faults
    same true d e = c.steady true d e
    same false d e = ap (λ fs. (forbidden_faults s.allowed (recorded o t) ++ zone_faults o.zone_len (recorded o t) []) ++ fs) (c.steady false (inside d) (inside e))

-- ---- type

table_typed : (s : Setting) (o : ZonedOptions) (t : Ty) (stats : Ty → Node) (m : Bool) (items : List Item) (e : Eof) (p : Plan) (cs : Option (List Filled))
    → layout_type p.layout ≡ t → layout_type (with_table s o t stats m items e p cs).layout ≡ t
table_typed s o t stats m items e p None h = h
table_typed s o t stats m items e p (Some cs) h = refl

pub zoned_typed : (s : Setting) (o : ZonedOptions) (t : Ty) (k : Node) (stats : Ty → Node) → Typed t k → Typed t (zoned_node s o t k stats)
zoned_typed s o t k stats c = record { typed = go }
  where
    go : (m : Bool) (items : List Item) (ended : Bool) (e : Eof) → layout_type (zoned_node s o t k stats m items ended e).layout ≡ t
    go true items ended e = c.typed true items ended e
    go false items ended e = table_typed s o t stats false items e (k false items ended (inside e)) (table_of s o t items ended) (c.typed false items ended (inside e))
