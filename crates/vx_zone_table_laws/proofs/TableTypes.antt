-- The type of a table whose columns the type can hold.
use Rattle.std.proofs.Common.{◌≡◌, true, false, List, [], ◌∷◌, ◌++◌, map, Option, Some, refl, sym, ap, ◌∙◌, inl, inr}
use Rattle.vx_model.specs.Ty.{Ty, struct, field, tys_of}
use Rattle.vx_path.specs.Lists.{In}
use Rattle.vx_aggregate_spec.specs.Aggregate.{Aggregate, Column, has_options, state_type, with_state, held_aggregates}
use Rattle.vx_aggregate_spec.specs.Tables.{column_field, stats_table}
use Rattle.vx_zone_spec.specs.ZoneTable.{Filled, name_of, table_fields, table_type}
use Rattle.vx_zone_spec.specs.ZoneMap.{names_of}

-- Of a column of the table at a type: it has the aggregate's type, and options that a spec keeps.
pub record IsColumn (t : Ty) (c : Column) : Type 0 where
  pub state : state_type c.0 t ≡ Some c.1
  pub options : has_options c.0 ≡ true

abbrev pub column_of : Filled → Column
column_of f = (f.aggregate, f.state)

-- each of them
abbrev pub AreColumns : Ty → List Filled → Type 0
AreColumns t cs = (f : Filled) → In f cs → IsColumn t (column_of f)

abbrev pub table_aggregates : List Filled → List Aggregate
table_aggregates [] = []
table_aggregates (c ∷ cs) = c.aggregate ∷ table_aggregates cs

fields_are : (t : Ty) (cs : List Filled) → AreColumns t cs → table_fields cs ≡ tys_of (map column_field (held_aggregates (table_aggregates cs) t))
fields_are t [] are = refl
fields_are t (c ∷ cs) are =
    ap (field (name_of c) c.state) (fields_are t cs (λ f i. are f (inr i)))
    ∙ sym (ap (λ (o : Option Ty). tys_of (map column_field (with_state c.aggregate o ++ held_aggregates (table_aggregates cs) t))) (are c (inl refl)).state)

pub type_is : (t : Ty) (cs : List Filled) → AreColumns t cs → table_type cs ≡ stats_table t (table_aggregates cs)
type_is t cs are = ap (λ fs. struct fs false) (fields_are t cs are)

-- the type can hold each of them
pub names_held : (t : Ty) (cs : List Filled) → AreColumns t cs → names_of (held_aggregates (table_aggregates cs) t) ≡ table_aggregates cs
names_held t [] are = refl
names_held t (c ∷ cs) are =
    ap (λ (o : Option Ty). names_of (with_state c.aggregate o ++ held_aggregates (table_aggregates cs) t)) (are c (inl refl)).state
    ∙ ap (λ names. c.aggregate ∷ names) (names_held t cs (λ f i. are f (inr i)))
