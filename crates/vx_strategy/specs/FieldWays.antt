-- Writers of fields by name.
use Rattle.std.specs.Prelude.{ℕ, bytes_eq, Bool, if◌then◌else◌, List, [], ◌∷◌, Option}
use Rattle.vx_strategy_spec.specs.StrategyData.{StrategyData, StrategyList, no_ways, way_at}
use Rattle.vx_strategy_spec.specs.Walk.{same_names}
use Rattle.vx_strategy.specs.Places.{first_place}
use Rattle.vx_strategy.specs.declared.field_writer.FieldWriter.{FieldWriter}

abbrev pub field_ways : List FieldWriter → StrategyList
field_ways [] = no_ways
field_ways (w ∷ ws) = way_at (w.name ∷ []) w.writer.item (field_ways ws)

-- the writer of a name takes the place of the one before, or stands behind all
abbrev pub with_writer : StrategyList → List ℕ → StrategyData → StrategyList
with_writer no_ways name w = way_at (name ∷ []) w no_ways
with_writer (way_at path v ws) name w = if same_names path (name ∷ []) then way_at path w ws else way_at path v (with_writer ws name w)

abbrev pub is_named : List ℕ → FieldWriter → Bool
is_named name w = bytes_eq w.name name

-- the place of the first writer of a name
abbrev pub place_of : List ℕ → List FieldWriter → Option ℕ
place_of name ws = first_place (is_named name) ws
