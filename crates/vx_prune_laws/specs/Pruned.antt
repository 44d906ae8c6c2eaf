-- What a reader has of a zoned layout, and what pruning keeps.
use Rattle.std.specs.Prelude.{ℕ, ◌*◌, Bool, true, false, if◌then◌else◌, List, [], ◌∷◌, ◌++◌, take, drop, Option, Some}
use Rattle.vx_model.specs.Ty.{Ty}
use Rattle.vx_model.specs.ValueData.{ValueData}
use Rattle.vx_layout_spec.specs.Codec.{Codec}
use Rattle.vx_layout_spec.specs.LayoutTree.{LayoutData, Spec}
use Rattle.vx_layout_spec.specs.Rows.{rows, and_then}
use Rattle.vx_aggregate_spec.specs.Aggregate.{aggregates_of}
use Rattle.vx_zone_spec.specs.Pruning.{Predicate, says}
use Rattle.vx_zone_spec.specs.ZoneMap.{ZoneMap}

-- The zone map of a zoned layout of n rows: its specs name the aggregates, and its zones child gives the table's rows.
abbrev pub zone_map : {A : Type 0} → Codec → (A → Option (List ℕ)) → ℕ → List Spec → Ty → ℕ → LayoutData A → Option ZoneMap
zone_map c look zone_len specs t n zones =
    and_then (λ aggregates. and_then (λ table. Some (record { column = t; aggregates = aggregates; zone_len = zone_len; row_count = n; zones = table })) (rows c look zones)) (aggregates_of specs)

-- the rows from z * zone_len to the next zone or the end
abbrev pub zone_at : ℕ → List ValueData → ℕ → List ValueData
zone_at zone_len vs z = take zone_len (drop (zone_len * z) vs)

-- the rows of the zones that aren't skipped
abbrev pub unskipped : ℕ → List Bool → List ValueData → List ValueData
unskipped zone_len [] vs = []
unskipped zone_len (skip ∷ skips) vs = if skip then unskipped zone_len skips (drop zone_len vs) else take zone_len vs ++ unskipped zone_len skips (drop zone_len vs)

-- a row matches where the predicate is true of it
abbrev pub is_true : Option Bool → Bool
is_true (Some true) = true
is_true b = false

abbrev pub matching : Predicate → List ValueData → List ValueData
matching p [] = []
matching p (v ∷ vs) = if is_true (says p v) then v ∷ matching p vs else matching p vs
