-- The table of the records of zones is a whole chunk.
use Rattle.std.proofs.Common.{◌≡◌, ℕ, suc, ◌<◌, ◌^◌, ◌&&◌, Bool, true, false, List, [], ◌∷◌, ◌++◌, map, length, Option, Some, None, refl, sym, ap, ◌∙◌, subst, inl, inr, ⊎_elim, arith, eq-eqb}
use Rattle.std.specs.Prelude.{if◌then◌else◌, nat_lt, ◌==◌}
use Rattle.std.proofs.lemmas.List.{length-map}
use Rattle.std.proofs.lemmas.Bool.Decides.{nat_tests}
use Rattle.std.proofs.lemmas.Option.{none-some, same_Some}
use Rattle.std.proofs.lemmas.Bool.{and_from}
use Rattle.vx_model.specs.Words.{all_by, head_or, tail}
use Rattle.vx_model.specs.Ty.{Ty, ty_eq}
use Rattle.vx_model.specs.TyLaws.{ty_eq_decides}
use Rattle.vx_model.specs.CellData.{CellData, fits}
use Rattle.vx_model.specs.ValueData.{ValueData, value, null_value, is_null_value}
use Rattle.vx_model.specs.ChunkData.{plain_piece, pieces_of, pieces_in, is_sound, are_sound, match_fields, are_flags}
use Rattle.vx_path.specs.Lists.{In}
use Rattle.vx_path.proofs.Sort.{from_sorted}
use Rattle.vx_layout_spec.specs.Real.{Of, is_real_cell, are_real}
use Rattle.vx_aggregate_spec.specs.Aggregate.{Aggregate, Column, with_state, held_aggregates, state_type}
use Rattle.vx_zone_spec.specs.Record.{zone_record}
use Rattle.vx_zone_spec.specs.ZoneTable.{Filled, name_of, filled, some_values, ordered, state_cell, table_fields, table_type, table_columns, any_columns, kept_columns, table_piece}
use Rattle.vx_zone_table_laws.specs.Statements.{Zones, SmallFilter, SmallFilters, records, TablesAreWhole}
use Rattle.vx_zone_table_laws.proofs.StateCells.{AllHold, aggregate_held}

-- a column of so many values that its type can hold
pub record Good (n : ℕ) (f : Filled) : Type 0 where
  pub held : AllHold f.state f.values
  pub count : length f.values ≡ n

-- each aggregate with its type, and a filter of few blocks
abbrev pub Columns : Ty → List Column → Type 0
Columns t [] = Unit {0}
Columns t (a ∷ columns) = (state_type a.0 t ≡ Some a.1) × SmallFilter a.0 × Columns t columns

pub columns_are : (t : Ty) (aggregates : List Aggregate) → SmallFilters aggregates → Columns t (held_aggregates aggregates t)
columns_are t [] h = tt
columns_are t (a ∷ aggregates) h = go (state_type a t) refl (columns_are t aggregates h.1)
  where
    go : (o : Option Ty) → state_type a t ≡ o → Columns t (held_aggregates aggregates t) → Columns t (with_state a o ++ held_aggregates aggregates t)
    go None e rest = rest
    go (Some u) e rest = (e, h.0, rest)

-- ---- the columns of the records

heads_are : (hash : List ℕ → ℕ) (t : Ty) (a : Column) (columns : List Column) (zs : List (List CellData)) → state_type a.0 t ≡ Some a.1 → SmallFilter a.0 → Zones t zs
    → AllHold a.1 (map (head_or null_value) (records hash t (a ∷ columns) zs))
heads_are hash t a columns [] e s h = tt
heads_are hash t a columns (z ∷ zs) e s h = (aggregate_held hash t z h.0 a.0 a.1 s e, heads_are hash t a columns zs e s h.1)

tails_are : (hash : List ℕ → ℕ) (t : Ty) (a : Column) (columns : List Column) (zs : List (List CellData)) → map tail (records hash t (a ∷ columns) zs) ≡ records hash t columns zs
tails_are hash t a columns [] = refl
tails_are hash t a columns (z ∷ zs) = ap (λ r. zone_record hash t (map value z) columns ∷ r) (tails_are hash t a columns zs)

length-records : (hash : List ℕ → ℕ) (t : Ty) (columns : List Column) (zs : List (List CellData)) → length (records hash t columns zs) ≡ length zs
length-records hash t columns [] = refl
length-records hash t columns (z ∷ zs) = ap suc (length-records hash t columns zs)

filled_good : (hash : List ℕ → ℕ) (t : Ty) (columns : List Column) (zs : List (List CellData)) → Columns t columns → Zones t zs → (f : Filled) → In f (filled columns (records hash t columns zs)) → Good (length zs) f
filled_good hash t [] zs c z f i = absurd i
filled_good hash t (a ∷ columns) zs c z f i = ⊎_elim
    (λ e. subst (Good (length zs)) (sym e) (record {
      held = heads_are hash t a columns zs c.0 c.1 z;
      count = length-map (records hash t (a ∷ columns) zs) (head_or null_value) ∙ length-records hash t (a ∷ columns) zs;
    }))
    (λ j. filled_good hash t columns zs c.2 z f (subst (λ r. In f (filled columns r)) (tails_are hash t a columns zs) j)) i

pub from_some : (f : Filled) (cs : List Filled) → In f (some_values cs) → In f cs
from_some f [] i = i
from_some f (c ∷ cs) i = go (all_by is_null_value c.values) (from_some f cs) i
  where
    go : (b : Bool) → (In f (some_values cs) → In f cs) → In f (if b then some_values cs else c ∷ some_values cs) → In f (c ∷ cs)
    go true r j = inr (r j)
    go false r j = ⊎_elim (λ e. inl e) (λ k. inr (r k)) j

pub any_same : (cs : List Filled) (table : List Filled) → any_columns cs ≡ Some table → cs ≡ table
any_same [] table e = absurd (none-some table e)
any_same (c ∷ cs) table e = same_Some (c ∷ cs) table e

kept_good : (hash : List ℕ → ℕ) (t : Ty) (columns : List Column) (zs : List (List CellData)) (table : List Filled) → Columns t columns → Zones t zs → kept_columns columns (records hash t columns zs) ≡ Some table
    → (f : Filled) → In f table → Good (length zs) f
kept_good hash t columns [] table c z e f i = absurd (none-some table e)
kept_good hash t columns (y ∷ zs) table c z e f i =
    let same : ordered (some_values (filled columns (records hash t columns (y ∷ zs)))) ≡ table = any_same (ordered (some_values (filled columns (records hash t columns (y ∷ zs))))) table e in
    filled_good hash t columns (y ∷ zs) c z f
    (from_some f (filled columns (records hash t columns (y ∷ zs)))
    (from_sorted name_of f (some_values (filled columns (records hash t columns (y ∷ zs)))) (subst (In f) (sym same) i)))

-- ---- the chunk

cells_held : (u : Ty) (vs : List ValueData) → AllHold u vs → (all_by (fits u) (map state_cell vs) ≡ true) × (all_by is_real_cell (map state_cell vs) ≡ true)
cells_held u [] h = (refl, refl)
cells_held u (v ∷ vs) h =
    let r : (all_by (fits u) (map state_cell vs) ≡ true) × (all_by is_real_cell (map state_cell vs) ≡ true) = cells_held u vs h.1 in
    (and_from (fits u (state_cell v)) (all_by (fits u) (map state_cell vs)) h.0.fit r.0, and_from (is_real_cell (state_cell v)) (all_by is_real_cell (map state_cell vs)) h.0.real r.1)

below : (n : ℕ) → n < 2 ^ 64 → nat_lt n (2 ^ 64) ≡ true
below n h = grind (arith, nat_tests)

-- the columns, and that they are those of the type
record Columned (n : ℕ) (cs : List Filled) : Type 0 where
  sound : are_sound (pieces_of (table_columns cs)) ≡ true
  real : are_real (pieces_of (table_columns cs)) ≡ true
  fields : match_fields (table_fields cs) (pieces_in (pieces_of (table_columns cs))) n ≡ true

columned : (n : ℕ) (cs : List Filled) → n < 2 ^ 64 → ((f : Filled) → In f cs → Good n f) → Columned n cs
columned n [] small h = record { sound = refl; real = refl; fields = refl }
columned n (c ∷ cs) small h =
    let rest : Columned n cs = columned n cs small (λ f i. h f (inr i)) in
    let g : Good n c = h c (inl refl) in
    let held : (all_by (fits c.state) (map state_cell c.values) ≡ true) × (all_by is_real_cell (map state_cell c.values) ≡ true) = cells_held c.state c.values g.held in
    let count : length (map state_cell c.values) ≡ n = length-map c.values state_cell ∙ g.count in
    record {
      sound = and_from (is_sound (plain_piece c.state (map state_cell c.values))) (are_sound (pieces_of (table_columns cs)))
          (and_from (all_by (fits c.state) (map state_cell c.values)) (nat_lt (length (map state_cell c.values)) (2 ^ 64)) held.0 (below (length (map state_cell c.values)) (omega arith))) rest.sound;
      real = and_from (all_by is_real_cell (map state_cell c.values)) (are_real (pieces_of (table_columns cs))) held.1 rest.real;
      fields = and_from (ty_eq c.state c.state) _ ((ty_eq_decides c.state c.state).1 refl)
          (and_from (length (map state_cell c.values) == n) (match_fields (table_fields cs) (pieces_in (pieces_of (table_columns cs))) n) (eq-eqb (length (map state_cell c.values)) n count) rest.fields);
    }

pub table_whole : (hash : List ℕ → ℕ) (t : Ty) (columns : List Column) (zs : List (List CellData)) (table : List Filled) → Columns t columns → Zones t zs → length zs < 2 ^ 64
    → kept_columns columns (records hash t columns zs) ≡ Some table → Of (table_type table) (table_piece table (length zs))
table_whole hash t columns zs table are z short e =
    let c : Columned (length zs) table = columned (length zs) table short (kept_good hash t columns zs table are z e) in
    record {
      typed = refl;
      whole = record {
        sound = and_from (are_sound (pieces_of (table_columns table))) _ c.sound
            (and_from (match_fields (table_fields table) (pieces_in (pieces_of (table_columns table))) (length zs)) _ c.fields
            (and_from (nat_lt (length zs) (2 ^ 64)) (are_flags (table_type table) (length zs) []) (below (length zs) short) refl));
        real = c.real;
      };
    }

pub tables_are_whole : TablesAreWhole
tables_are_whole hash t aggregates zs table small z short e = table_whole hash t (held_aggregates aggregates t) zs table (columns_are t aggregates small) z short e
