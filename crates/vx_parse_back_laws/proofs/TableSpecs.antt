-- The aggregates of a written zone table are read from its specs.
use Rattle.std.proofs.Common.{◌≡◌, ℕ, ◌<◌, ◌^◌, ◌&&◌, Bool, true, false, List, [], ◌∷◌, ◌++◌, length, map, Option, Some, None, Result, Ok, refl, sym, ap, ◌∙◌, subst, inl, inr, arith}
use Rattle.std.specs.Prelude.{if◌then◌else◌, nat_lt}
use Rattle.std.specs.Str.{chars, is_utf8}
use Rattle.std.specs.Char.{encode_utf8}
use Rattle.std.proofs.lemmas.Bool.Decides.{nat_tests}
use Rattle.std.proofs.lemmas.Bool.{and_from, and_parts}
use Rattle.vx_model.specs.Words.{all_by, tail}
use Rattle.vx_model.specs.Ty.{Ty}
use Rattle.vx_model.specs.ValueData.{ValueData}
use Rattle.vx_path.specs.Lists.{In}
use Rattle.vx_path.proofs.Sort.{from_sorted}
use Rattle.vx_layout_spec.specs.Refusal.{Refusal}
use Rattle.vx_aggregate_spec.specs.Aggregate.{Aggregate, maximum, minimum, bounded_maximum, bounded_minimum, null_count, sum, bloom, aggregate_id, spec, has_options, aggregate_of, Column, state_type, with_state, held_aggregates}
use Rattle.vx_zone_spec.specs.ZoneTable.{Filled, name_of, filled, some_values, ordered, kept_columns, table_specs}
use Rattle.vx_aggregate_spec.proofs.SpecLaws.{specs_are_read}
use Rattle.vx_zone_table_laws.proofs.WholeTables.{from_some, any_same}
use Rattle.vx_zone_table_laws.proofs.TableTypes.{IsColumn, column_of, AreColumns, table_aggregates}
use Rattle.vx_metadata.specs.Values.{is_short_spec, has_text_id, IsZoned}
use Rattle.vx_session.specs.Ids.{is_listed}
use Rattle.vx_session.specs.Scope.{Context, Scope}
use Rattle.vx_session.specs.Made.{◌>>=◌}
use Rattle.vx_session.proofs.Named.{known as named}
use Rattle.vx_session.specs.Kinds.{names_aggregate, with_options, let_through, read_spec, in_front, read_on, read_specs}
use Rattle.vx_strategy_spec.specs.Admitted.{is_admitted_zoned}
use Rattle.vx_strategy_spec.specs.StrategyData.{ZonedOptions}
use Rattle.vx_plan.specs.ZonedNode.{asked, recorded}
use Rattle.vx_plan.proofs.ZonedLaws.{options_of}
use Rattle.vx_parse_back_laws.specs.Knowing.{is_known}

-- ---- the columns of a table

abbrev IsHeld : List Aggregate → Ty → Column → Type 0
IsHeld aggregates t c = In c.0 aggregates × (state_type c.0 t ≡ Some c.1)

held : (aggregates : List Aggregate) (t : Ty) (c : Column) → In c (held_aggregates aggregates t) → IsHeld aggregates t c
held [] t c i = absurd i
held (a ∷ aggregates) t c i = go (state_type a t) refl (λ j. held aggregates t c j) i
  where
    later : IsHeld aggregates t c → IsHeld (a ∷ aggregates) t c
    later r = (inr r.0, r.1)

    go : (o : Option Ty) → state_type a t ≡ o → (In c (held_aggregates aggregates t) → IsHeld aggregates t c) → In c (with_state a o ++ held_aggregates aggregates t) → IsHeld (a ∷ aggregates) t c
    go None e r j = later (r j)
    go (Some u) e r (inl q) = (inl (ap (λ (z : Column). z.0) q), subst (λ (z : Column). state_type z.0 t ≡ Some z.1) (sym q) e)
    go (Some u) e r (inr j) = later (r j)

options_in : (aggregates : List Aggregate) → all_by has_options aggregates ≡ true → (a : Aggregate) → In a aggregates → has_options a ≡ true
options_in [] h a i = absurd i
options_in (b ∷ aggregates) h a (inl q) = ap has_options q ∙ (and_parts (has_options b) (all_by has_options aggregates) h).0
options_in (b ∷ aggregates) h a (inr i) = options_in aggregates (and_parts (has_options b) (all_by has_options aggregates) h).1 a i

filled_from : (columns : List Column) (records : List (List ValueData)) (f : Filled) → In f (filled columns records) → In (column_of f) columns
filled_from [] records f i = absurd i
filled_from (a ∷ columns) records f (inl q) = inl (ap column_of q)
filled_from (a ∷ columns) records f (inr i) = inr (filled_from columns (map tail records) f i)

kept_from : (columns : List Column) (records : List (List ValueData)) (cs : List Filled) → kept_columns columns records ≡ Some cs → (f : Filled) → In f cs → In (column_of f) columns
kept_from columns [] cs e f i = absurd (cc e)
kept_from columns (r ∷ records) cs e f i =
    let some : List Filled = some_values (filled columns (r ∷ records)) in
    filled_from columns (r ∷ records) f
    (from_some f (filled columns (r ∷ records))
    (from_sorted name_of f some (subst (In f) (sym (any_same (ordered some) cs e)) i)))

pub are_columns : (o : ZonedOptions) (t : Ty) (records : List (List ValueData)) (cs : List Filled) → is_admitted_zoned o ≡ true → kept_columns (recorded o t) records ≡ Some cs → AreColumns t cs
are_columns o t records cs ok kept f i =
    let j : In (column_of f) (recorded o t) = kept_from (recorded o t) records cs kept f i in
    let h : IsHeld (asked o.aggregates t) t (column_of f) = held (asked o.aggregates t) t (column_of f) j in
    record { state = h.1; options = options_in (asked o.aggregates t) (options_of o t ok) f.aggregate h.0 }

-- ---- the specs

pub specs_named : (cs : List Filled) → map spec (table_aggregates cs) ≡ table_specs cs
specs_named [] = refl
specs_named (c ∷ cs) = ap (λ specs. spec c.aggregate ∷ specs) (specs_named cs)

spec_read : (c : Context) (a : Aggregate) → is_listed (aggregate_id a) c.aggregates ≡ true → has_options a ≡ true → read_spec c (spec a) ≡ Ok (Some a)
unfolding read_spec
spec_read c a known options = go (is_listed (aggregate_id a) c.aggregates) (names_aggregate (aggregate_id a)) (aggregate_of (spec a)) known (named a) (specs_are_read a options)
  where
    go : (b d : Bool) (o : Option Aggregate) → b ≡ true → d ≡ true → o ≡ Some a → (if b && d then with_options (spec a) o else let_through c (spec a)) ≡ Ok (Some a)
    go b d o e f g = rw (e, f, g) refl

pub specs_read : (s : Scope) (t : Ty) (cs : List Filled) → all_by (is_known s.context) (table_specs cs) ≡ true → AreColumns t cs → read_specs s.context (table_specs cs) ≡ Ok (Some (table_aggregates cs))
specs_read s t [] known are = refl
specs_read s t (c ∷ cs) known are =
    let column : IsColumn t (column_of c) = are c (inl refl) in
    let one : read_spec s.context (spec c.aggregate) ≡ Ok (Some c.aggregate) = spec_read s.context c.aggregate (and_parts (is_known s.context (spec c.aggregate)) (all_by (is_known s.context) (table_specs cs)) known).0 column.options in
    let others : read_specs s.context (table_specs cs) ≡ Ok (Some (table_aggregates cs)) =
    specs_read s t cs (and_parts (is_known s.context (spec c.aggregate)) (all_by (is_known s.context) (table_specs cs)) known).1 (λ f i. are f (inr i)) in
    ap (λ (r : Result (Option Aggregate) Refusal). r >>= λ o. read_on o (read_specs s.context (table_specs cs))) one
    ∙ ap (λ (r : Result (Option (List Aggregate)) Refusal). r >>= in_front c.aggregate) others

-- ---- metadata

spec_short : (a : Aggregate) → is_short_spec (spec a) ≡ true
spec_short maximum = refl
spec_short minimum = refl
spec_short (bounded_maximum n) = refl
spec_short (bounded_minimum n) = refl
spec_short null_count = refl
spec_short sum = refl
spec_short (bloom n) = refl

all_short : (cs : List Filled) → all_by is_short_spec (table_specs cs) ≡ true
all_short [] = refl
all_short (c ∷ cs) = and_from (is_short_spec (spec c.aggregate)) (all_by is_short_spec (table_specs cs)) (spec_short c.aggregate) (all_short cs)

spec_text : (a : Aggregate) → has_text_id (spec a) ≡ true
unfolding is_utf8 chars encode_utf8
spec_text maximum = refl
spec_text minimum = refl
spec_text (bounded_maximum n) = refl
spec_text (bounded_minimum n) = refl
spec_text null_count = refl
spec_text sum = refl
spec_text (bloom n) = refl

all_text : (cs : List Filled) → all_by has_text_id (table_specs cs) ≡ true
all_text [] = refl
all_text (c ∷ cs) = and_from (has_text_id (spec c.aggregate)) (all_by has_text_id (table_specs cs)) (spec_text c.aggregate) (all_text cs)

below : (n m : ℕ) → n < m → nat_lt n m ≡ true
below n m h = grind (arith, nat_tests)

above : (n m : ℕ) → nat_lt n m ≡ true → n < m
above n m h = grind (arith, nat_tests)

zone_short : (o : ZonedOptions) → is_admitted_zoned o ≡ true → o.zone_len < 2 ^ 32
zone_short o h = above o.zone_len (2 ^ 32) (and_parts (nat_lt o.zone_len (2 ^ 32)) _ (and_parts (nat_lt 0 o.zone_len) _ h).1).0

pub metadata_fits : (o : ZonedOptions) (cs : List Filled) → is_admitted_zoned o ≡ true → length (table_specs cs) < 2 ^ 32 → IsZoned (record { zone_len = o.zone_len; specs = table_specs cs })
metadata_fits o cs ok few = record {
  zone_len = zone_short o ok;
  short = and_from (nat_lt (length (table_specs cs)) (2 ^ 32)) (all_by is_short_spec (table_specs cs)) (below (length (table_specs cs)) (2 ^ 32) few) (all_short cs);
  ids = all_text cs;
}
