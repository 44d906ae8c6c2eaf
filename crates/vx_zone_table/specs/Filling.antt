-- Columns filled with one zone after the other.
use Rattle.std.specs.Prelude.{List, [], ◌∷◌, ◌++◌}
use Rattle.vx_model.specs.Words.{head_or, tail}
use Rattle.vx_model.specs.ValueData.{ValueData, null_value}
use Rattle.vx_aggregate_spec.specs.Aggregate.{Column}
use Rattle.vx_zone_spec.specs.ZoneTable.{Filled}

abbrev pub no_values : Column → Filled
no_values c = record { aggregate = c.0; state = c.1; values = [] }

abbrev pub with_value : Filled → ValueData → Filled
with_value c v = record { aggregate = c.aggregate; state = c.state; values = c.values ++ v ∷ [] }

-- a zone's values behind the columns, one each
abbrev pub pushed : List Filled → List ValueData → List Filled
pushed [] vs = []
pushed (c ∷ cs) vs = with_value c (head_or null_value vs) ∷ pushed cs (tail vs)

-- those of several zones
abbrev pub all_pushed : List Filled → List (List ValueData) → List Filled
all_pushed cs [] = cs
all_pushed cs (r ∷ rs) = all_pushed (pushed cs r) rs
