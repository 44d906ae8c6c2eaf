-- The zone table of a column as a reader has it, and which zones a predicate skips.
use Rattle.std.specs.Prelude.{ℕ, zero, suc, ◌-◌, ◌*◌, ◌^◌, min, nat_lt, nat_le, Bool, true, if◌then◌else◌, List, [], ◌∷◌, length}
use Rattle.vx_model.specs.Words.{head_or, tail}
use Rattle.vx_model.specs.Ty.{Ty}
use Rattle.vx_model.specs.ValueData.{ValueData, null_value, struct_value, vals_in}
use Rattle.vx_aggregate_spec.specs.Aggregate.{Aggregate, Column, held_aggregates}
use Rattle.vx_zone_spec.specs.Pruning.{Predicate, ZoneRecord, falsified}

pub record ZoneMap : Type 0 where
  pub column : Ty
  -- one a column of the table, and maybe some that the column's type can't hold
  pub aggregates : List Aggregate
  pub zone_len : ℕ
  -- rows of the column
  pub row_count : ℕ
  -- the table's rows: a struct a zone
  pub zones : List ValueData

-- ---- which tables are taken

-- all zones but the last lie within the rows; the product stops at the greatest 64-bit number
abbrev pub zones_fit : ℕ → ℕ → ℕ → Bool
zones_fit zone_len row_count zero = true
zones_fit zone_len row_count (suc n) = nat_le (min (zone_len * n) (2 ^ 64 - 1)) row_count

-- ---- pruning

-- rows of zone z: each but the last has the zone length, the last has the rest
abbrev pub zone_rows : ZoneMap → ℕ → ℕ
zone_rows m z = if nat_lt (suc z) (length m.zones) then m.zone_len else m.row_count - m.zone_len * z

-- the aggregates of the table's columns: those that the column's type can hold
abbrev pub names_of : List Column → List Aggregate
names_of [] = []
names_of (c ∷ columns) = c.0 ∷ names_of columns

-- each aggregate with its value
abbrev pub paired : List Aggregate → List ValueData → ZoneRecord
paired [] vs = []
paired (a ∷ aggregates) vs = (a, head_or null_value vs) ∷ paired aggregates (tail vs)

abbrev pub fields_of : ValueData → List ValueData
fields_of (struct_value vs) = vals_in vs
fields_of v = []

-- the record of a zone, from its row in the table
abbrev pub record_of : ZoneMap → ValueData → ZoneRecord
record_of m row = paired (names_of (held_aggregates m.aggregates m.column)) (fields_of row)

abbrev pub skips_from : (List ℕ → ℕ) → ZoneMap → Predicate → ℕ → List ValueData → List Bool
skips_from hash m p z [] = []
skips_from hash m p z (row ∷ rows) = falsified hash m.column p (record_of m row) (zone_rows m z) ∷ skips_from hash m p (suc z) rows

-- whether each zone is skipped: exactly where its record rules the predicate out
abbrev pub skips : (List ℕ → ℕ) → ZoneMap → Predicate → List Bool
skips hash m p = skips_from hash m p 0 m.zones
