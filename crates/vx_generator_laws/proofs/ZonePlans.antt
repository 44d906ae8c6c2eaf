-- Zones of exactly the zone's rows, the last one of some: no chunk is refused, and the table of their records is small.
use Rattle.std.proofs.Common.{◌≡◌, ℕ, ◌+◌, ◌*◌, ◌<◌, ◌≤◌, Bool, true, false, List, [], ◌∷◌, ◌++◌, map, length, Option, Some, None, refl, sym, ap, ◌∙◌, subst, inl, inr, arith, length-append}
use Rattle.std.specs.Prelude.{if◌then◌else◌, nat_lt}
use Rattle.std.proofs.lemmas.Bool.Decides.{nat_tests}
use Rattle.vx_model.specs.Words.{total_by, all_by, head_or, tail}
use Rattle.vx_model.specs.Ty.{Ty}
use Rattle.vx_model.specs.CellData.{cell_size}
use Rattle.vx_model.specs.ValueData.{ValueData, null_value, is_null_value}
use Rattle.vx_model.specs.ChunkData.{cells, row_values, is_dict_type}
use Rattle.vx_path.specs.Lists.{In}
use Rattle.vx_path.proofs.Sort.{from_sorted}
use Rattle.vx_path.specs.Path.{Eof, inside, next, under, raised}
use Rattle.vx_aggregate_spec.specs.Aggregate.{Column}
use Rattle.vx_zone_spec.specs.Record.{aggregate_value, zone_record}
use Rattle.vx_zone_spec.specs.ZoneTable.{Filled, name_of, filled, some_values, ordered, state_cell, any_columns, kept_columns, table_type, table_piece}
use Rattle.vx_strategy_spec.specs.StrategyData.{FlatOptions, ZonedOptions}
use Rattle.vx_plan.specs.PlanData.{Setting, Item, Plan, Node, row_totals}
use Rattle.vx_plan.specs.FlatNode.{flat_node}
use Rattle.vx_plan.specs.ZonedNode.{recorded, forbidden_faults, is_no_zone, cut_fault, cut_faults, zone_faults, zone_records, data_numbers, zone_numbers, with_table, table_of, zoned_node}
use Rattle.vx_plan.proofs.PlanLists.{nil_both}
use Rattle.vx_plan.proofs.ZonedLaws.{few_kept}
use Rattle.vx_generator_laws.proofs.RunSums.{in_all}
use Rattle.vx_generator_laws.proofs.BlockStreams.{Zones}
use Rattle.vx_generator_laws.proofs.Tame.{most_append, most_up, Tame, bulk, most_totals}
use Rattle.vx_generator_laws.proofs.SegmentPlans.{flat_tame}
use Rattle.vx_generator_laws.proofs.DictPlans.{Ample}

-- ---- faults

no_forbidden : (allowed : Option (List (List ℕ))) (columns : List Column) → allowed ≡ None → forbidden_faults allowed columns ≡ []
no_forbidden allowed columns e = ap (λ a. forbidden_faults a columns) e ∙ go columns
  where
    go : (cs : List Column) → forbidden_faults None cs ≡ []
    go [] = refl
    go (a ∷ cs) = go cs

is_zone : (len n : ℕ) → 0 < n → n ≤ len → is_no_zone len n ≡ false
is_zone len n h k = grind (arith, nat_tests)

not_less : (len n : ℕ) → n ≡ len → nat_lt n len ≡ false
not_less len n e = grind (arith, nat_tests)

unless : {A : Type 0} (b : Bool) (x y : A) → b ≡ false → (if b then x else y) ≡ y
unless b x y e = ap (λ z. if z then x else y) e

zones_uncut : (len : ℕ) (items : List Item) → 0 < len → Zones len items → cut_faults len items ≡ []
zones_uncut len [] positive h = refl
zones_uncut len (c ∷ []) positive h = unless (is_no_zone len (length (cells c.1))) (cut_fault (length (cells c.1)) c.0) [] (is_zone len (length (cells c.1)) h.0 h.1)
zones_uncut len (c ∷ d ∷ cs) positive h =
    let e : length (cells c.1) ≡ len = h.0 in
    unless (is_no_zone len (length (cells c.1))) (cut_fault (length (cells c.1)) c.0) _ (is_zone len (length (cells c.1)) (omega arith) (omega arith))
    ∙ unless (nat_lt (length (cells c.1)) len) (cut_fault (length (cells c.1)) d.0) (cut_faults len (d ∷ cs)) (not_less len (length (cells c.1)) e)
    ∙ zones_uncut len (d ∷ cs) positive h.1

zones_faultless : (len : ℕ) (columns : List Column) (items : List Item) → 0 < len → Zones len items → zone_faults len columns items ≡ []
zones_faultless len [] items positive h = refl
zones_faultless len (a ∷ columns) items positive h = zones_uncut len items positive h

-- ---- the table

-- a column of integers, texts or bytes whose cells have at most 81 bytes each on average
pub record Narrow (zones : ℕ) (c : Filled) : Type 0 where
  pub kind : is_dict_type c.state ≡ true
  pub sizes : total_by (cell_size c.state) (map state_cell c.values) ≤ 81 * zones

-- an aggregate has such values of each chunk
pub record Bounded (s : Setting) (t : Ty) (items : List Item) (a : Column) : Type 0 where
  pub kind : is_dict_type a.1 ≡ true
  pub sizes : (c : Item) → In c items → cell_size a.1 (state_cell (aggregate_value s.hash t (row_values c.1) a.0)) ≤ 81

abbrev pub AllBounded : Setting → Ty → List Item → List Column → Type 0
AllBounded s t items [] = Unit {0}
AllBounded s t items (a ∷ columns) = Bounded s t items a × AllBounded s t items columns

module _ (s : Setting) (t : Ty) where
  other_records : (a : Column) (columns : List Column) (items : List Item) → map tail (zone_records s t (a ∷ columns) items) ≡ zone_records s t columns items
  other_records a columns [] = refl
  other_records a columns (c ∷ cs) = ap (λ r. zone_record s.hash t (row_values c.1) columns ∷ r) (other_records a columns cs)

  column_size : (a : Column) (columns : List Column) (items : List Item) → ((c : Item) → In c items → cell_size a.1 (state_cell (aggregate_value s.hash t (row_values c.1) a.0)) ≤ 81)
      → total_by (cell_size a.1) (map state_cell (map (head_or null_value) (zone_records s t (a ∷ columns) items))) ≤ 81 * length items
  column_size a columns [] h = omega arith
  column_size a columns (c ∷ cs) h =
      let k : cell_size a.1 (state_cell (aggregate_value s.hash t (row_values c.1) a.0)) ≤ 81 = h c (inl refl) in
      let r : total_by (cell_size a.1) (map state_cell (map (head_or null_value) (zone_records s t (a ∷ columns) cs))) ≤ 81 * length cs = column_size a columns cs (λ d i. h d (inr i)) in omega arith

  filled_narrow : (columns : List Column) (items : List Item) → AllBounded s t items columns → (c : Filled) → In c (filled columns (zone_records s t columns items)) → Narrow (length items) c
  filled_narrow [] items h c i = absurd i
  filled_narrow (a ∷ columns) items h c (inl e) =
      subst (Narrow (length items)) (sym e) (record { kind = h.0.kind; sizes = column_size a columns items h.0.sizes })
  filled_narrow (a ∷ columns) items h c (inr i) =
      filled_narrow columns items h.1 c (subst (λ rs. In c (filled columns rs)) (other_records a columns items) i)

some_from : (c : Filled) (cs : List Filled) → In c (some_values cs) → In c cs
some_from c [] h = h
some_from c (d ∷ cs) h = go (all_by is_null_value d.values) (some_from c cs) h
  where
    go : (b : Bool) → (In c (some_values cs) → In c cs) → In c (if b then some_values cs else d ∷ some_values cs) → In c (d ∷ cs)
    go true r i = inr (r i)
    go false r (inl e) = inl e
    go false r (inr i) = inr (r i)

any_is : (ds cs : List Filled) → any_columns ds ≡ Some cs → ds ≡ cs
any_is [] cs e = cc
any_is (d ∷ ds) cs e = cc

kept_from : (columns : List Column) (records : List (List ValueData)) (cs : List Filled) → kept_columns columns records ≡ Some cs → (c : Filled) → In c cs → In c (filled columns records)
kept_from columns [] cs e c i = cc
kept_from columns (r ∷ records) cs e c i =
    let same : ordered (some_values (filled columns (r ∷ records))) ≡ cs = any_is (ordered (some_values (filled columns (r ∷ records)))) cs e in
    some_from c (filled columns (r ∷ records)) (from_sorted name_of c (some_values (filled columns (r ∷ records))) (subst (In c) (sym same) i))

-- ---- the node

-- what is known of the chunk of a table
pub record SmallTables (s : Setting) (o : FlatOptions) : Type 0 where
  pub table : (cs : List Filled) (zones : ℕ) → length cs ≤ 3 → ((c : Filled) → In c cs → Narrow zones c) → bulk s o (table_piece cs zones) ≤ 200 + 500 * zones

module _ (s : Setting) (o : FlatOptions) (ample : Ample s o) (small : SmallTables s o) (zo : ZonedOptions) (positive : 0 < zo.zone_len) (t : Ty) where
  with_tame : (m : Bool) (items : List Item) (e : Eof) (q n : ℕ) (p : Plan) (found : Option (List Filled)) → Tame 0 q n p → length items + in_all (λ p. length (cells p)) items ≤ n
      → ((cs : List Filled) → found ≡ Some cs → (length cs ≤ 3) × ((c : Filled) → In c cs → Narrow (length items) c))
      → Tame e.last (q + 1) (n + (500 * length items + 300)) (with_table s zo t (flat_node s o) m items e p found)
  with_tame m items e q n p None h l k =
      let last : ℕ = e.last + (n + (500 * length items + 300)) in
      let a : length p.pairs ≤ q = h.pairs in
      let b : p.reserved ≤ n = h.reserved in
      record {
        faultless = h.faultless;
        pairs = omega arith;
        numbers = most_append last (data_numbers items e) p.numbers
            (most_append last (row_totals items) ((e.last + 1) ∷ []) (most_totals (λ c. length (cells c)) 0 last items (omega arith)) (omega arith, tt))
            (most_up (0 + n) last p.numbers (omega arith) h.numbers);
        reserved = omega arith;
      }
  with_tame m items e q n p (Some cs) h l k =
      let last : ℕ = e.last + (n + (500 * length items + 300)) in
      let z : Item = (under (raised e 1) 0, table_piece cs (length items)) in
      let f : Plan = flat_node s o (table_type cs) m (z ∷ []) true (next (next e)) in
      let g : Tame (e.last + 1 + 1) 1 (bulk s o z.1) f = flat_tame s o ample.accepts (table_type cs) m z (next (next e)) in
      let w : (length cs ≤ 3) × ((c : Filled) → In c cs → Narrow (length items) c) = k cs refl in
      let v : bulk s o (table_piece cs (length items)) ≤ 200 + 500 * length items = small.table cs (length items) w.0 w.1 in
      let a : length p.pairs ≤ q = h.pairs in
      let b : p.reserved ≤ n = h.reserved in
      let c : length f.pairs ≤ 1 = g.pairs in
      let d : f.reserved ≤ bulk s o z.1 = g.reserved in
      let u : length (p.pairs ++ f.pairs) ≡ length p.pairs + length f.pairs = length-append p.pairs f.pairs in
      record {
        faultless = nil_both p.faults f.faults h.faultless g.faultless;
        pairs = omega arith;
        numbers = most_append last (zone_numbers items e) (p.numbers ++ f.numbers)
            (most_append last (row_totals items) (length items ∷ (e.last + 2) ∷ []) (most_totals (λ c. length (cells c)) 0 last items (omega arith)) (omega arith, (omega arith, tt)))
            (most_append last p.numbers f.numbers (most_up (0 + n) last p.numbers (omega arith) h.numbers) (most_up (e.last + 1 + 1 + bulk s o z.1) last f.numbers (omega arith) g.numbers));
        reserved = omega arith;
      }

  pub zoned_tame : (k : Node) (items : List Item) (e : Eof) (q n : ℕ) → Tame 0 q n (k false items true (inside e)) → length items + in_all (λ p. length (cells p)) items ≤ n
      → Zones zo.zone_len items → AllBounded s t items (recorded zo t) → length (recorded zo t) ≤ 3
      → Tame e.last (q + 1) (n + (500 * length items + 300)) (zoned_node s zo t k (flat_node s o) false items true e)
  zoned_tame k items e q n h l zones bounded few =
      let p : Plan = k false items true (inside e) in
      let w : Tame e.last (q + 1) (n + (500 * length items + 300)) (with_table s zo t (flat_node s o) false items e p (table_of s zo t items true)) =
      with_tame false items e q n p (table_of s zo t items true) h l
      (λ cs f. (
        (let a : length cs ≤ length (recorded zo t) = few_kept (recorded zo t) (zone_records s t (recorded zo t) items) cs f in omega arith),
        λ c i. filled_narrow s t (recorded zo t) items bounded c (kept_from (recorded zo t) (zone_records s t (recorded zo t) items) cs f c i),
      )) in
      record {
        faultless = nil_both _ _ (nil_both (forbidden_faults s.allowed (recorded zo t)) _ (no_forbidden s.allowed (recorded zo t) ample.allows) (zones_faultless zo.zone_len (recorded zo t) items positive zones)) w.faultless;
        pairs = w.pairs;
        numbers = w.numbers;
        reserved = w.reserved;
      }
