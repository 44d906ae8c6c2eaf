-- The tables that a builder finishes have their type, and tell of each zone what was pushed.
use Rattle.std.proofs.Common.{◌≡◌, ℕ, zero, suc, Bool, true, false, List, [], ◌∷◌, ◌++◌, length, map, Option, Some, None, refl, sym, ap, ap₂, ◌∙◌, subst, inl, inr, ⊎_elim}
use Rattle.std.specs.Prelude.{◌≢◌, if◌then◌else◌, slice_get}
use Rattle.std.specs.Option.{option_map}
use Rattle.std.proofs.lemmas.Bool.{true≢false, and_parts}
use Rattle.std.proofs.lemmas.Option.{none-some}
use Rattle.vx_path.specs.Lists.{In}
use Rattle.vx_path.proofs.Lists.{in_map, from_map}
use Rattle.vx_path.proofs.Sort.{in_sorted, from_sorted}
use Rattle.vx_model.specs.Words.{all_by, head_or, tail}
use Rattle.vx_model.specs.Ty.{Ty, struct, field, tys_of}
use Rattle.vx_model.specs.CellData.{null_cell, trees_of}
use Rattle.vx_model.specs.ValueData.{ValueData, null_value, bool_value, int_value, text_value, bytes_value, list_value, struct_value, one_value, vals_of, value, values_in, is_null_value}
use Rattle.vx_model.specs.ChunkData.{ChunkData, pieces_of, each_cells, struct_rows, row_values}
use Rattle.vx_rules.proofs.CellLaws.{length-struct_rows}
use Rattle.vx_aggregate_spec.specs.Aggregate.{Aggregate, Column, state_type, with_state, held_aggregates}
use Rattle.vx_aggregate_spec.specs.Tables.{column_field, stats_table}
use Rattle.vx_zone_spec.specs.Pruning.{ZoneRecord}
use Rattle.vx_zone_spec.specs.ZoneTable.{Filled, name_of, filled, some_values, ordered, kept_columns, state_cell, table_fields, table_type, table_columns, table_piece}
use Rattle.vx_zone_spec.specs.ZoneMap.{ZoneMap, names_of, paired, fields_of, record_of}
use Rattle.vx_zone_table_laws.proofs.WholeTables.{from_some, any_same}
use Rattle.vx_zone_table.specs.Gathered.{Gathered, aggregates_in}
use Rattle.vx_zone_map.specs.Columns.{value_at}
use Rattle.vx_zone_map.specs.Statements.{kept_value, kept_entries, pushed_record, TellsAs, IsTaken, FinishedTablesAreTaken}
use Rattle.vx_zone_map.proofs.ZoneRows.{back_in}
use Rattle.vx_zone_map.proofs.TellLaws.{tells}

-- ---- columns that the type can hold

abbrev States : Ty → List Column → Type 0
States t columns = (a : Column) → In a columns → state_type a.0 t ≡ Some a.1

held_states : (t : Ty) (aggregates : List Aggregate) → States t (held_aggregates aggregates t)
held_states t [] a i = absurd i
held_states t (g ∷ aggregates) a i = go (state_type g t) refl (λ j. held_states t aggregates a j) i
  where
    go : (o : Option Ty) → state_type g t ≡ o → (In a (held_aggregates aggregates t) → state_type a.0 t ≡ Some a.1) → In a (with_state g o ++ held_aggregates aggregates t) → state_type a.0 t ≡ Some a.1
    go None e rest j = rest j
    go (Some u) e rest j = ⊎_elim (λ k. subst (λ (c : Column). state_type c.0 t ≡ Some c.1) (sym k) e) rest j

filled_states : (t : Ty) (columns : List Column) (rs : List (List ValueData)) → States t columns → (f : Filled) → In f (filled columns rs) → state_type f.aggregate t ≡ Some f.state
filled_states t [] rs h f i = absurd i
filled_states t (a ∷ columns) rs h f i = ⊎_elim
    (λ k. subst (λ (g : Filled). state_type g.aggregate t ≡ Some g.state) (sym k) (h a (inl refl)))
    (λ j. filled_states t columns (map tail rs) (λ b k. h b (inr k)) f j) i

abbrev Typed : Ty → List Filled → Type 0
Typed t cs = (f : Filled) → In f cs → state_type f.aggregate t ≡ Some f.state

fields_are : (t : Ty) (cs : List Filled) → Typed t cs → table_fields cs ≡ tys_of (map column_field (held_aggregates (aggregates_in cs) t))
fields_are t [] h = refl
fields_are t (c ∷ cs) h =
    ap (field (name_of c) c.state) (fields_are t cs (λ f i. h f (inr i)))
    ∙ sym (ap (λ (o : Option Ty). tys_of (map column_field (with_state c.aggregate o ++ held_aggregates (aggregates_in cs) t))) (h c (inl refl)))

type_is : (t : Ty) (cs : List Filled) → Typed t cs → table_type cs ≡ stats_table t (aggregates_in cs)
type_is t cs h = ap (λ fs. struct fs false) (fields_are t cs h)

names_are : (t : Ty) (cs : List Filled) → Typed t cs → names_of (held_aggregates (aggregates_in cs) t) ≡ aggregates_in cs
names_are t [] h = refl
names_are t (c ∷ cs) h =
    ap (λ (o : Option Ty). names_of (with_state c.aggregate o ++ held_aggregates (aggregates_in cs) t)) (h c (inl refl))
    ∙ ap (λ names. c.aggregate ∷ names) (names_are t cs (λ f i. h f (inr i)))

-- ---- a row of the table

heads_are : (vss : List (List ValueData)) → map (head_or null_cell) (map (map state_cell) vss) ≡ map (λ vs. state_cell (value_at 0 vs)) vss
heads_are [] = refl
heads_are ([] ∷ vss) = ap (λ cs. null_cell ∷ cs) (heads_are vss)
heads_are ((v ∷ vs) ∷ vss) = ap (λ cs. state_cell v ∷ cs) (heads_are vss)

tails_are : (vss : List (List ValueData)) → map tail (map (map state_cell) vss) ≡ map (map state_cell) (map tail vss)
tails_are [] = refl
tails_are ([] ∷ vss) = ap (λ cs. [] ∷ cs) (tails_are vss)
tails_are ((v ∷ vs) ∷ vss) = ap (λ cs. map state_cell vs ∷ cs) (tails_are vss)

later_are : (z : ℕ) (vss : List (List ValueData)) → map (λ vs. kept_value (value_at z vs)) (map tail vss) ≡ map (λ vs. kept_value (value_at (suc z) vs)) vss
later_are z [] = refl
later_are z ([] ∷ vss) = ap (λ us. null_value ∷ us) (later_are z vss)
later_are z ((v ∷ vs) ∷ vss) = ap (λ us. kept_value (value_at z vs) ∷ us) (later_are z vss)

cells_seen : (vss : List (List ValueData)) → values_in (trees_of (map (λ vs. state_cell (value_at 0 vs)) vss)) ≡ vals_of (map (λ vs. kept_value (value_at 0 vs)) vss)
cells_seen [] = refl
cells_seen (vs ∷ vss) = ap (one_value (kept_value (value_at 0 vs))) (cells_seen vss)

row_is : (n : ℕ) (vss : List (List ValueData)) (z : ℕ) (row : ValueData) → slice_get (map value (struct_rows n (map (map state_cell) vss) [])) z ≡ Some row
    → row ≡ struct_value (vals_of (map (λ vs. kept_value (value_at z vs)) vss))
row_is zero vss z row e = absurd (none-some row e)
row_is (suc n) vss zero row e =
    let first : struct_value (values_in (trees_of (map (head_or null_cell) (map (map state_cell) vss)))) ≡ row = cc in
    sym first ∙ ap (λ cs. struct_value (values_in (trees_of cs))) (heads_are vss) ∙ ap struct_value (cells_seen vss)
row_is (suc n) vss (suc z) row e =
    row_is n (map tail vss) z row (ap (λ cols. slice_get (map value (struct_rows n cols [])) z) (sym (tails_are vss)) ∙ e)
    ∙ ap (λ us. struct_value (vals_of us)) (later_are z vss)

-- ---- entries

abbrev told_entry : ℕ → Filled → Aggregate × ValueData
told_entry z f = (f.aggregate, kept_value (value_at z f.values))

abbrev values_in_columns : List Filled → List (List ValueData)
values_in_columns cs = map (λ (f : Filled). f.values) cs

cells_are : (cs : List Filled) → each_cells (pieces_of (table_columns cs)) ≡ map (map state_cell) (values_in_columns cs)
cells_are [] = refl
cells_are (c ∷ cs) = ap (λ cols. map state_cell c.values ∷ cols) (cells_are cs)

paired_are : (z : ℕ) (cs : List Filled) → paired (aggregates_in cs) (map (λ vs. kept_value (value_at z vs)) (values_in_columns cs)) ≡ map (told_entry z) cs
paired_are z [] = refl
paired_are z (c ∷ cs) = ap (λ es. told_entry z c ∷ es) (paired_are z cs)

value_of : (f : List ValueData → ValueData) (rs : List (List ValueData)) (z : ℕ) (r : List ValueData) → slice_get rs z ≡ Some r → value_at z (map f rs) ≡ f r
value_of f [] z r e = absurd (none-some r e)
value_of f (q ∷ rs) zero r e = let same : q ≡ r = cc in ap f same
value_of f (q ∷ rs) (suc z) r e = value_of f rs z r e

tail_of : (rs : List (List ValueData)) (z : ℕ) (r : List ValueData) → slice_get rs z ≡ Some r → slice_get (map tail rs) z ≡ Some (tail r)
tail_of [] z r e = absurd (none-some r e)
tail_of (q ∷ rs) zero r e = let same : q ≡ r = cc in ap (λ x. Some (tail x)) same
tail_of (q ∷ rs) (suc z) r e = tail_of rs z r e

pushed_are : (columns : List Column) (rs : List (List ValueData)) (z : ℕ) (r : List ValueData) → slice_get rs z ≡ Some r → map (told_entry z) (filled columns rs) ≡ kept_entries (paired (names_of columns) r)
pushed_are [] rs z r e = refl
pushed_are (a ∷ columns) rs z r e =
    ap₂ (λ (v : ValueData) (es : ZoneRecord). (a.0, kept_value v) ∷ es) (value_of (head_or null_value) rs z r e) (pushed_are columns (map tail rs) z (tail r) (tail_of rs z r e))

-- ---- columns that are left out are null

is_null : (v : ValueData) → is_null_value v ≡ true → v ≡ null_value
is_null null_value h = refl
is_null (bool_value b) h = cc
is_null (int_value n) h = cc
is_null (text_value s) h = cc
is_null (bytes_value s) h = cc
is_null (list_value vs) h = cc
is_null (struct_value vs) h = cc

null_at : (vs : List ValueData) (z : ℕ) → all_by is_null_value vs ≡ true → value_at z vs ≡ null_value
null_at [] z h = refl
null_at (v ∷ vs) zero h = is_null v (and_parts (is_null_value v) (all_by is_null_value vs) h).0
null_at (v ∷ vs) (suc z) h = null_at vs z (and_parts (is_null_value v) (all_by is_null_value vs) h).1

in_some : (f : Filled) (cs : List Filled) → In f cs → all_by is_null_value f.values ≡ false → In f (some_values cs)
in_some f [] i e = absurd i
in_some f (c ∷ cs) i e = go (all_by is_null_value c.values) refl (λ j. in_some f cs j e)
  where
    go : (b : Bool) → all_by is_null_value c.values ≡ b → (In f cs → In f (some_values cs)) → In f (if b then some_values cs else c ∷ some_values cs)
    go true k rest = ⊎_elim (λ same. absurd (true≢false (sym k ∙ ap (λ (g : Filled). all_by is_null_value g.values) (sym same) ∙ e))) rest i
    go false k rest = ⊎_elim (λ same. inl same) (λ j. inr (rest j)) i

module _ (fs : List Filled) (z : ℕ) where
  from_left : (e : Aggregate × ValueData) → In e (map (told_entry z) (ordered (some_values fs))) → In e (map (told_entry z) fs)
  from_left e i =
      let r : (f : Filled) × In f (ordered (some_values fs)) × (e ≡ told_entry z f) = from_map (told_entry z) e (ordered (some_values fs)) i in
      subst (λ x. In x (map (told_entry z) fs)) (sym r.2) (in_map (told_entry z) r.0 fs (from_some r.0 fs (from_sorted name_of r.0 (some_values fs) r.1)))

  to_left : (e : Aggregate × ValueData) → In e (map (told_entry z) fs) → e.1 ≢ null_value → In e (map (told_entry z) (ordered (some_values fs)))
  to_left e i n =
      let r : (f : Filled) × In f fs × (e ≡ told_entry z f) = from_map (told_entry z) e fs i in
      subst (λ x. In x (map (told_entry z) (ordered (some_values fs)))) (sym r.2)
      (in_map (told_entry z) r.0 (ordered (some_values fs)) (in_sorted name_of r.0 (some_values fs) (in_some r.0 fs r.1 (go r.0 r.2 (all_by is_null_value r.0.values) refl))))
    where
      go : (f : Filled) → e ≡ told_entry z f → (b : Bool) → all_by is_null_value f.values ≡ b → all_by is_null_value f.values ≡ false
      go f k true h = absurd (n (ap (λ (x : Aggregate × ValueData). x.1) k ∙ ap kept_value (null_at f.values z h)))
      go f k false h = h

-- ---- the table

left_are : (columns : List Column) (rs : List (List ValueData)) (cs : List Filled) → kept_columns columns rs ≡ Some cs → ordered (some_values (filled columns rs)) ≡ cs
left_are columns [] cs e = absurd (none-some cs e)
left_are columns (r ∷ rs) cs e = any_same (ordered (some_values (filled columns (r ∷ rs)))) cs e

module _ (t : Ty) (listed : List Aggregate) (g : Gathered) (held : g.columns ≡ held_aggregates listed t) (cs : List Filled) (kept : kept_columns g.columns g.records ≡ Some cs) where
  left : ordered (some_values (filled g.columns g.records)) ≡ cs
  left = left_are g.columns g.records cs kept

  typed : Typed t cs
  typed f i =
      filled_states t g.columns g.records (subst (States t) (sym held) (held_states t listed)) f
      (from_some f (filled g.columns g.records) (from_sorted name_of f (some_values (filled g.columns g.records)) (subst (In f) (sym left) i)))

  told_are : (m : ZoneMap) → m.column ≡ t → m.aggregates ≡ aggregates_in cs → m.zones ≡ row_values (table_piece cs (length g.records)) → (z : ℕ) (row : ValueData) → slice_get m.zones z ≡ Some row
      → record_of m row ≡ map (told_entry z) cs
  told_are m c a zones z row e =
      let row_of : row ≡ struct_value (vals_of (map (λ vs. kept_value (value_at z vs)) (values_in_columns cs))) =
      row_is (length g.records) (values_in_columns cs) z row
      (ap (λ cols. slice_get (map value (struct_rows (length g.records) cols [])) z) (sym (cells_are cs)) ∙ ap (λ vs. slice_get vs z) (sym zones) ∙ e) in
      let names : names_of (held_aggregates m.aggregates m.column) ≡ aggregates_in cs = ap₂ (λ (gs : List Aggregate) (u : Ty). names_of (held_aggregates gs u)) a c ∙ names_are t cs typed in
      ap₂ (λ (gs : List Aggregate) (r : ValueData). paired gs (fields_of r)) names row_of
      ∙ ap (paired (aggregates_in cs)) (back_in (map (λ vs. kept_value (value_at z vs)) (values_in_columns cs)))
      ∙ paired_are z cs

  taken : IsTaken t g (table_piece cs (length g.records)) (aggregates_in cs)
  taken = record {
    typed = type_is t cs typed;
    rows = length-struct_rows (length g.records) (each_cells (pieces_of (table_columns cs))) [];
    records = λ m c a zones z r row e f.
        let told : record_of m row ≡ map (told_entry z) cs = told_are m c a zones z row f in
        let pushed : map (told_entry z) (filled g.columns g.records) ≡ pushed_record g r = pushed_are g.columns g.records z r e in
        subst (λ x. TellsAs (pushed_record g r) x) (sym told)
        (subst (λ x. TellsAs x (map (told_entry z) cs)) pushed
        (subst (λ x. TellsAs (map (told_entry z) (filled g.columns g.records)) (map (told_entry z) x)) left
        (tells (map (told_entry z) (filled g.columns g.records)) (map (told_entry z) (ordered (some_values (filled g.columns g.records))))
        (from_left (filled g.columns g.records) z) (to_left (filled g.columns g.records) z))));
  }

pub finished_tables_are_taken : FinishedTablesAreTaken
finished_tables_are_taken t listed g table aggregates held e = go (kept_columns g.columns g.records) refl e
  where
    go : (o : Option (List Filled)) → kept_columns g.columns g.records ≡ o → option_map {U = ChunkData × List Aggregate} (λ cs. (table_piece cs (length g.records), aggregates_in cs)) o ≡ Some (table, aggregates) → IsTaken t g table aggregates
    go None k e = absurd (none-some (table, aggregates) e)
    go (Some cs) k e =
        let same : (table_piece cs (length g.records), aggregates_in cs) ≡ (table, aggregates) = cc in
        subst (λ (x : ChunkData × List Aggregate). IsTaken t g x.0 x.1) same (taken t listed g held cs k)
