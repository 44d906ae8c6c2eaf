-- The rows of a zone table are the records of the zones.
use Rattle.std.proofs.Common.{◌≡◌, ℕ, suc, ◌<◌, ◌&&◌, Bool, true, false, List, [], ◌∷◌, ◌++◌, map, length, take, Option, Some, None, refl, sym, ap, ap₂, ◌∙◌, subst, inl, inr, ⊎_elim, arith}
use Rattle.std.specs.Prelude.{if◌then◌else◌, nat_le, nat_lt, ◌^◌, ℤ}
use Rattle.std.specs.Str.{chars}
use Rattle.std.proofs.lemmas.Bool.{true≢false, and_parts}
use Rattle.std.proofs.lemmas.Bool.Decides.{nat_tests}
use Rattle.std.proofs.lemmas.Option.{none-some}
use Rattle.vx_model.specs.declared.ptype.PType.{PType}
use Rattle.vx_model.specs.Numbers.{int_fits}
use Rattle.vx_model.specs.Words.{all_by, head_or, tail}
use Rattle.vx_model.specs.Ty.{Ty, boolean, primitive, utf8, binary, list, struct, extension, has_order}
use Rattle.vx_model.specs.CellData.{CellData, null_cell, trees_of}
use Rattle.vx_model.specs.ValueData.{ValueData, ValueList, null_value, bool_value, int_value, text_value, bytes_value, list_value, struct_value, vals_of, vals_in, value, values_in, value_fits}
use Rattle.vx_model.specs.ChunkData.{pieces_of, each_cells, struct_rows, row_values}
use Rattle.vx_path.specs.Lists.{In}
use Rattle.vx_path.proofs.Sort.{from_sorted}
use Rattle.vx_bloom_spec.specs.Values.{value_hash, may_contain_hash}
use Rattle.vx_bloom_spec.specs.Bytes.{filter_at}
use Rattle.vx_zone_spec.specs.Pruning.{ZoneRecord}
use Rattle.vx_aggregate_spec.specs.Aggregate.{Aggregate, maximum, minimum, bounded_maximum, bounded_minimum, null_count, sum, bloom, Column, has_options, bound_state, byte_bound_state, filter_state, sum_of_type, state_type, with_state, held_aggregates, one_more, aggregates_of}
use Rattle.vx_zone_spec.specs.ValueOrder.{greatest, least}
use Rattle.vx_zone_spec.specs.Bounds.{upper_bound, lower_bound, bytes_or_null, text_or_null, raised_last, byte_rises, char_rises, next_char, front_chars}
use Rattle.vx_zone_spec.specs.Record.{aggregate_value, zone_record, sum_value, exact_sum}
use Rattle.vx_zone_spec.specs.ZoneTable.{Filled, name_of, filled, some_values, ordered, kept_columns, state_cell, table_type, table_columns, table_specs, table_piece}
use Rattle.vx_zone_spec.specs.ZoneMap.{names_of, paired, fields_of}
use Rattle.vx_zone_spec.specs.Statements.{is_value_of, AllValues, IsRecord, SmallHash}
use Rattle.vx_zone_spec.proofs.FilterLaws.{stored_filter_contains}
use Rattle.vx_aggregate_spec.proofs.SpecLaws.{specs_are_read}
use Rattle.vx_zone_table_laws.proofs.StateCells.{greater_among, lesser_among}
use Rattle.vx_zone_table_laws.proofs.WholeTables.{from_some, any_same}
use Rattle.vx_zone_table_laws.proofs.TableTypes.{IsColumn, column_of, AreColumns, table_aggregates, type_is as table_type_is, names_held}
use Rattle.vx_aggregate_spec.specs.Tables.{stats_table}
use Rattle.vx_plan.specs.PlanData.{Setting}
use Rattle.vx_plan.specs.ZonesHold.{records_of}

-- ---- values of aggregates are no lists and no structs

abbrev Flat : ValueData → Type 0
Flat (list_value vs) = ⊥
Flat (struct_value vs) = ⊥
Flat v = Unit {0}

flat_cell : (v : ValueData) → Flat v → value (state_cell v) ≡ v
flat_cell null_value f = refl
flat_cell (bool_value b) f = refl
flat_cell (int_value b) f = refl
flat_cell (text_value b) f = refl
flat_cell (bytes_value b) f = refl
flat_cell (list_value b) f = absurd f
flat_cell (struct_value b) f = absurd f

fits_flat : (t u : Ty) (v : ValueData) → bound_state t ≡ Some u → value_fits t v ≡ true → Flat v
fits_flat t u null_value e f = tt
fits_flat t u (bool_value b) e f = tt
fits_flat t u (int_value b) e f = tt
fits_flat t u (text_value b) e f = tt
fits_flat t u (bytes_value b) e f = tt
fits_flat (list t n) u v e f = absurd (none-some u e)
fits_flat (struct fs n) u v e f = absurd (none-some u e)
fits_flat (extension tag t) u v e f = fits_flat t u v e f
fits_flat t u v e f = absurd (true≢false (sym f))

value_flat : (t u : Ty) (v : ValueData) → bound_state t ≡ Some u → is_value_of t v ≡ true → Flat v
value_flat t u null_value e h = tt
value_flat t u (bool_value b) e h = tt
value_flat t u (int_value b) e h = tt
value_flat t u (text_value b) e h = tt
value_flat t u (bytes_value b) e h = tt
value_flat t u (list_value b) e h = fits_flat t u (list_value b) e (and_parts (value_fits t (list_value b)) true h).0
value_flat t u (struct_value b) e h = fits_flat t u (struct_value b) e (and_parts (value_fits t (struct_value b)) true h).0

greatest_flat : (t u : Ty) → bound_state t ≡ Some u → (vs : List ValueData) → AllValues t vs → Flat (greatest vs)
greatest_flat t u e [] h = tt
greatest_flat t u e (v ∷ vs) h = ⊎_elim (λ k. subst Flat (sym k) (value_flat t u v e h.0)) (λ k. subst Flat (sym k) (greatest_flat t u e vs h.1)) (greater_among v (greatest vs))

least_flat : (t u : Ty) → bound_state t ≡ Some u → (vs : List ValueData) → AllValues t vs → Flat (least vs)
least_flat t u e [] h = tt
least_flat t u e (v ∷ vs) h = ⊎_elim (λ k. subst Flat (sym k) (value_flat t u v e h.0)) (λ k. subst Flat (sym k) (least_flat t u e vs h.1)) (lesser_among v (least vs))

either_flat : (b : Bool) (v w : ValueData) → Flat v → Flat w → Flat (if b then v else w)
either_flat true v w f g = f
either_flat false v w f g = g

bytes_flat : (o : Option (List ℕ)) → Flat (bytes_or_null o)
bytes_flat None = tt
bytes_flat (Some s) = tt

text_flat : (o : Option (List ℕ)) → Flat (text_or_null o)
text_flat None = tt
text_flat (Some s) = tt

upper_flat : (n : ℕ) (v : ValueData) → Flat v → Flat (upper_bound n v)
upper_flat n (bytes_value s) f = either_flat (nat_le (length s) n) (bytes_value s) (bytes_or_null (raised_last byte_rises suc (take n s))) tt (bytes_flat (raised_last byte_rises suc (take n s)))
upper_flat n (text_value s) f =
    either_flat (nat_le (length s) n) (text_value s) (text_or_null (raised_last char_rises next_char (front_chars n (chars s)))) tt (text_flat (raised_last char_rises next_char (front_chars n (chars s))))
upper_flat n null_value f = tt
upper_flat n (bool_value b) f = tt
upper_flat n (int_value b) f = tt
upper_flat n (list_value b) f = f
upper_flat n (struct_value b) f = f

lower_flat : (n : ℕ) (v : ValueData) → Flat v → Flat (lower_bound n v)
lower_flat n (bytes_value s) f = tt
lower_flat n (text_value s) f = either_flat (nat_le (length s) n) (text_value s) (text_value (Rattle.std.specs.Str.encode_utf8_all (front_chars n (chars s)))) tt tt
lower_flat n null_value f = tt
lower_flat n (bool_value b) f = tt
lower_flat n (int_value b) f = tt
lower_flat n (list_value b) f = f
lower_flat n (struct_value b) f = f

bound_of_bytes : (t u : Ty) → byte_bound_state t ≡ Some u → bound_state t ≡ Some u
bound_of_bytes (utf8 n) u e = e
bound_of_bytes (binary n) u e = e
bound_of_bytes (extension tag t) u e = bound_of_bytes t u e
bound_of_bytes t u e = absurd (none-some u e)

sum_flat : (o : Option PType) (n : ℤ) → Flat (sum_value o n)
sum_flat None n = tt
sum_flat (Some p) n = either_flat (int_fits p n) (int_value n) null_value tt tt

aggregate_flat : (hash : List ℕ → ℕ) (t u : Ty) (vs : List ValueData) (a : Aggregate) → state_type a t ≡ Some u → AllValues t vs → Flat (aggregate_value hash t vs a)
aggregate_flat hash t u vs maximum e h = greatest_flat t u e vs h
aggregate_flat hash t u vs minimum e h = least_flat t u e vs h
aggregate_flat hash t u vs (bounded_maximum n) e h = upper_flat n (greatest vs) (greatest_flat t u (bound_of_bytes t u e) vs h)
aggregate_flat hash t u vs (bounded_minimum n) e h = lower_flat n (least vs) (least_flat t u (bound_of_bytes t u e) vs h)
aggregate_flat hash t u vs null_count e h = tt
aggregate_flat hash t u vs sum e h = sum_flat (sum_of_type t) (exact_sum vs)
aggregate_flat hash t u vs (bloom n) e h = tt

-- ---- the columns that are kept

-- a column's aggregate has the state and the options, and its values are those of the zones
pub record Kept (s : Setting) (t : Ty) (zs : List (List ValueData)) (f : Filled) : Type 0 where
  pub state : state_type f.aggregate t ≡ Some f.state
  pub options : has_options f.aggregate ≡ true
  pub values : f.values ≡ map (λ vs. aggregate_value s.hash t vs f.aggregate) zs

abbrev pub AllKept : Setting → Ty → List (List ValueData) → List Filled → Type 0
AllKept s t zs [] = Unit {0}
AllKept s t zs (f ∷ fs) = Kept s t zs f × AllKept s t zs fs

-- columns that the type can hold
abbrev Held : Ty → List Column → Type 0
Held t [] = Unit {0}
Held t (a ∷ columns) = (state_type a.0 t ≡ Some a.1) × (has_options a.0 ≡ true) × Held t columns

held_are : (t : Ty) (aggregates : List Aggregate) → all_by has_options aggregates ≡ true → Held t (held_aggregates aggregates t)
held_are t [] h = tt
held_are t (a ∷ aggregates) h = go (state_type a t) refl (held_are t aggregates (and_parts (has_options a) (all_by has_options aggregates) h).1)
  where
    go : (o : Option Ty) → state_type a t ≡ o → Held t (held_aggregates aggregates t) → Held t (with_state a o ++ held_aggregates aggregates t)
    go None e rest = rest
    go (Some u) e rest = (e, (and_parts (has_options a) (all_by has_options aggregates) h).0, rest)

heads_are : (s : Setting) (t : Ty) (a : Column) (columns : List Column) (zs : List (List ValueData)) → map (head_or null_value) (records_of s t (a ∷ columns) zs) ≡ map (λ vs. aggregate_value s.hash t vs a.0) zs
heads_are s t a columns [] = refl
heads_are s t a columns (z ∷ zs) = ap (λ r. aggregate_value s.hash t z a.0 ∷ r) (heads_are s t a columns zs)

tails_are : (s : Setting) (t : Ty) (a : Column) (columns : List Column) (zs : List (List ValueData)) → map tail (records_of s t (a ∷ columns) zs) ≡ records_of s t columns zs
tails_are s t a columns [] = refl
tails_are s t a columns (z ∷ zs) = ap (λ r. zone_record s.hash t z columns ∷ r) (tails_are s t a columns zs)

filled_kept : (s : Setting) (t : Ty) (columns : List Column) (zs : List (List ValueData)) → Held t columns → (f : Filled) → In f (filled columns (records_of s t columns zs)) → Kept s t zs f
filled_kept s t [] zs h f i = absurd i
filled_kept s t (a ∷ columns) zs h f i = ⊎_elim
    (λ e. subst (Kept s t zs) (sym e) (record { state = h.0; options = h.1; values = heads_are s t a columns zs }))
    (λ j. filled_kept s t columns zs h.2 f (subst (λ r. In f (filled columns r)) (tails_are s t a columns zs) j)) i

all_kept : (s : Setting) (t : Ty) (zs : List (List ValueData)) (table : List Filled) → ((f : Filled) → In f table → Kept s t zs f) → AllKept s t zs table
all_kept s t zs [] h = tt
all_kept s t zs (f ∷ fs) h = (h f (inl refl), all_kept s t zs fs (λ g i. h g (inr i)))

pub table_kept : (s : Setting) (t : Ty) (aggregates : List Aggregate) (zs : List (List ValueData)) (table : List Filled) → all_by has_options aggregates ≡ true
    → kept_columns (held_aggregates aggregates t) (records_of s t (held_aggregates aggregates t) zs) ≡ Some table → AllKept s t zs table
table_kept s t aggregates [] table o e = absurd (none-some table e)
table_kept s t aggregates (z ∷ zs) table o e =
    let columns : List Column = held_aggregates aggregates t in
    let fs : List Filled = filled columns (records_of s t columns (z ∷ zs)) in
    let same : ordered (some_values fs) ≡ table = any_same (ordered (some_values fs)) table e in
    all_kept s t (z ∷ zs) table (λ f i. filled_kept s t columns (z ∷ zs) (held_are t aggregates o) f
    (from_some f fs (from_sorted name_of f (some_values fs) (subst (In f) (sym same) i))))

-- ---- the aggregates that the specs name

columns_kept : (s : Setting) (t : Ty) (zs : List (List ValueData)) (table : List Filled) → AllKept s t zs table → AreColumns t table
columns_kept s t zs [] h f i = absurd i
columns_kept s t zs (g ∷ fs) h f (inl e) = subst (λ z. IsColumn t (column_of z)) (sym e) (record { state = h.0.state; options = h.0.options })
columns_kept s t zs (g ∷ fs) h f (inr i) = columns_kept s t zs fs h.1 f i

pub specs_read : (s : Setting) (t : Ty) (zs : List (List ValueData)) (table : List Filled) → AllKept s t zs table → aggregates_of (table_specs table) ≡ Some (table_aggregates table)
specs_read s t zs [] h = refl
specs_read s t zs (f ∷ fs) h = ap₂ one_more (specs_are_read f.aggregate h.0.options) (specs_read s t zs fs h.1)

pub type_is : (s : Setting) (t : Ty) (zs : List (List ValueData)) (table : List Filled) → AllKept s t zs table → table_type table ≡ stats_table t (table_aggregates table)
type_is s t zs table h = table_type_is t table (columns_kept s t zs table h)

pub names_are : (s : Setting) (t : Ty) (zs : List (List ValueData)) (table : List Filled) → AllKept s t zs table → names_of (held_aggregates (table_aggregates table) t) ≡ table_aggregates table
names_are s t zs table h = names_held t table (columns_kept s t zs table h)

-- ---- the rows of the table

-- a zone's values, one a column
abbrev pub zone_values : Setting → Ty → List Filled → List ValueData → List ValueData
zone_values s t [] vs = []
zone_values s t (f ∷ fs) vs = aggregate_value s.hash t vs f.aggregate ∷ zone_values s t fs vs

abbrev pub table_rows : Setting → Ty → List Filled → List (List ValueData) → List ValueData
table_rows s t fs [] = []
table_rows s t fs (z ∷ zs) = struct_value (vals_of (zone_values s t fs z)) ∷ table_rows s t fs zs

-- the cells of each column
abbrev grid : Setting → Ty → List Filled → List (List ValueData) → List (List CellData)
grid s t [] zs = []
grid s t (f ∷ fs) zs = map (λ vs. state_cell (aggregate_value s.hash t vs f.aggregate)) zs ∷ grid s t fs zs

cells_over : (s : Setting) (t : Ty) (a : Aggregate) (zs : List (List ValueData)) → map state_cell (map (λ vs. aggregate_value s.hash t vs a) zs) ≡ map (λ vs. state_cell (aggregate_value s.hash t vs a)) zs
cells_over s t a [] = refl
cells_over s t a (z ∷ zs) = ap (λ r. state_cell (aggregate_value s.hash t z a) ∷ r) (cells_over s t a zs)

grid_is : (s : Setting) (t : Ty) (zs : List (List ValueData)) (table : List Filled) → AllKept s t zs table → each_cells (pieces_of (table_columns table)) ≡ grid s t table zs
grid_is s t zs [] h = refl
grid_is s t zs (f ∷ fs) h = ap₂ (λ x y. x ∷ y) (ap (map state_cell) h.0.values ∙ cells_over s t f.aggregate zs) (grid_is s t zs fs h.1)

grid_heads : (s : Setting) (t : Ty) (fs : List Filled) (z : List ValueData) (zs : List (List ValueData)) → map (head_or null_cell) (grid s t fs (z ∷ zs)) ≡ map state_cell (zone_values s t fs z)
grid_heads s t [] z zs = refl
grid_heads s t (f ∷ fs) z zs = ap (λ r. state_cell (aggregate_value s.hash t z f.aggregate) ∷ r) (grid_heads s t fs z zs)

grid_tails : (s : Setting) (t : Ty) (fs : List Filled) (z : List ValueData) (zs : List (List ValueData)) → map tail (grid s t fs (z ∷ zs)) ≡ grid s t fs zs
grid_tails s t [] z zs = refl
grid_tails s t (f ∷ fs) z zs = ap (λ r. map (λ vs. state_cell (aggregate_value s.hash t vs f.aggregate)) zs ∷ r) (grid_tails s t fs z zs)

-- values of cells of flat values
abbrev AllFlat : List ValueData → Type 0
AllFlat [] = Unit {0}
AllFlat (v ∷ vs) = Flat v × AllFlat vs

values_back : (vs : List ValueData) → AllFlat vs → values_in (trees_of (map state_cell vs)) ≡ vals_of vs
values_back [] h = refl
values_back (v ∷ vs) h = ap₂ Rattle.vx_model.specs.ValueData.one_value (flat_cell v h.0) (values_back vs h.1)

zone_flat : (s : Setting) (t : Ty) (zs : List (List ValueData)) (fs : List Filled) → AllKept s t zs fs → (z : List ValueData) → AllValues t z → AllFlat (zone_values s t fs z)
zone_flat s t zs [] h z v = tt
zone_flat s t zs (f ∷ fs) h z v = (aggregate_flat s.hash t f.state z f.aggregate h.0.state v, zone_flat s t zs fs h.1 z v)

abbrev pub AllZones : Ty → List (List ValueData) → Type 0
AllZones t [] = Unit {0}
AllZones t (z ∷ zs) = AllValues t z × AllZones t zs

rows_from : (s : Setting) (t : Ty) (fs : List Filled) (zs : List (List ValueData)) → ((z : List ValueData) → AllValues t z → AllFlat (zone_values s t fs z)) → AllZones t zs
    → map value (struct_rows (length zs) (grid s t fs zs) []) ≡ table_rows s t fs zs
rows_from s t fs [] flat h = refl
rows_from s t fs (z ∷ zs) flat h =
    ap₂ (λ (x : List CellData) (y : List (List CellData)). struct_value (values_in (trees_of x)) ∷ map value (struct_rows (length zs) y [])) (grid_heads s t fs z zs) (grid_tails s t fs z zs)
    ∙ ap₂ (λ x y. struct_value x ∷ y) (values_back (zone_values s t fs z) (flat z h.0)) (rows_from s t fs zs flat h.1)

-- the table's rows are the zones' values
pub rows_are : (s : Setting) (t : Ty) (table : List Filled) (zs : List (List ValueData)) → AllKept s t zs table → AllZones t zs → row_values (table_piece table (length zs)) ≡ table_rows s t table zs
rows_are s t table zs kept h =
    ap (λ g. map value (struct_rows (length zs) g [])) (grid_is s t zs table kept)
    ∙ rows_from s t table zs (λ z v. zone_flat s t zs table kept z v) h

-- ---- a row is the record of its zone

back_in : (vs : List ValueData) → vals_in (vals_of vs) ≡ vs
back_in [] = refl
back_in (v ∷ vs) = ap (λ r. v ∷ r) (back_in vs)

paired_is : (s : Setting) (t : Ty) (fs : List Filled) (z : List ValueData) → IsRecord s.hash t z (paired (table_aggregates fs) (zone_values s t fs z))
paired_is s t [] z = tt
paired_is s t (f ∷ fs) z = (refl, paired_is s t fs z)

pub record_is : (s : Setting) (t : Ty) (fs : List Filled) (z : List ValueData) → IsRecord s.hash t z (paired (table_aggregates fs) (fields_of (struct_value (vals_of (zone_values s t fs z)))))
record_is s t fs z = subst (λ r. IsRecord s.hash t z (paired (table_aggregates fs) r)) (sym (back_in (zone_values s t fs z))) (paired_is s t fs z)

pub length-table_rows : (s : Setting) (t : Ty) (fs : List Filled) (zs : List (List ValueData)) → length (table_rows s t fs zs) ≡ length zs
length-table_rows s t fs [] = refl
length-table_rows s t fs (z ∷ zs) = ap suc (length-table_rows s t fs zs)

-- ---- the filters of a record

-- an entry of a record is of a column that is kept
listed_kept : (s : Setting) (t : Ty) (zs : List (List ValueData)) (fs : List Filled) → AllKept s t zs fs → (a : Aggregate) (u : ValueData) (vs : List ValueData) → In (a, u) (paired (table_aggregates fs) vs)
    → (f : Filled) × Kept s t zs f × (a ≡ f.aggregate)
listed_kept s t zs [] h a u vs i = absurd i
listed_kept s t zs (f ∷ fs) h a u vs i = ⊎_elim (λ (e : (a, u) ≡ (f.aggregate, head_or null_value vs)). (f, h.0, ap (λ (z : Aggregate × ValueData). z.0) e)) (λ j. listed_kept s t zs fs h.1 a u (tail vs) j) i

value_in : (hash : List ℕ → ℕ) (t : Ty) (vs : List ValueData) (r : ZoneRecord) → IsRecord hash t vs r → (a : Aggregate) (u : ValueData) → In (a, u) r → u ≡ aggregate_value hash t vs a
value_in hash t vs [] h a u i = absurd i
value_in hash t vs (x ∷ r) h a u i = ⊎_elim
    (λ (e : (a, u) ≡ x). ap (λ (z : Aggregate × ValueData). z.1) e ∙ h.0 ∙ ap (λ (z : Aggregate × ValueData). aggregate_value hash t vs z.0) (sym e))
    (λ j. value_in hash t vs r h.1 a u j) i

filter_order : (t u : Ty) → filter_state t ≡ Some u → has_order t ≡ true
filter_order (boolean n) u e = refl
filter_order (primitive p n) u e = refl
filter_order (utf8 n) u e = refl
filter_order (binary n) u e = refl
filter_order (list t n) u e = absurd (none-some u e)
filter_order (struct fs n) u e = absurd (none-some u e)
filter_order (extension tag t) u e = filter_order t u e

few : (n : ℕ) → nat_lt n (2 ^ 32) ≡ true → n < 2 ^ 32
few n h = grind (arith, nat_tests)

some : (n : ℕ) → nat_lt 0 n ≡ true → 0 < n
some n h = grind (arith, nat_tests)

-- a filter that a record stores contains each value of its zone that isn't null
pub filter_holds : (s : Setting) → SmallHash s.hash → (t : Ty) (zs : List (List ValueData)) (fs : List Filled) → AllKept s t zs fs → (z : List ValueData) → AllValues t z → (vs : List ValueData)
    → IsRecord s.hash t z (paired (table_aggregates fs) vs) → (blocks : ℕ) (stored : List ℕ) → In (bloom blocks, bytes_value stored) (paired (table_aggregates fs) vs)
    → (v : ValueData) → In v z → (v ≡ null_value → ⊥) → may_contain_hash (filter_at stored) (value_hash s.hash t v) ≡ true
filter_holds s small t zs fs h z all vs rec blocks stored i v j n =
    let k : (f : Filled) × Kept s t zs f × (bloom blocks ≡ f.aggregate) = listed_kept s t zs fs h (bloom blocks) (bytes_value stored) vs i in
    let options : has_options (bloom blocks) ≡ true = ap has_options k.2 ∙ k.1.options in
    let state : state_type (bloom blocks) t ≡ Some k.0.state = ap (λ a. state_type a t) k.2 ∙ k.1.state in
    (stored_filter_contains s.hash t blocks z stored small (filter_order t k.0.state state) all (some blocks (and_parts (nat_lt 0 blocks) (nat_lt blocks (2 ^ 32)) options).0)
    (few blocks (and_parts (nat_lt 0 blocks) (nat_lt blocks (2 ^ 32)) options).1) (value_in s.hash t z (paired (table_aggregates fs) vs) rec (bloom blocks) (bytes_value stored) i)).contains v j n
