-- What makes a table's chunk of its columns.
use Rattle.std.specs.Prelude.{ℕ, ◌&&◌, ◌==◌, Bool, List, [], ◌∷◌, length, map}
use Rattle.vx_model.specs.Words.{all_by}
use Rattle.vx_model.specs.Ty.{Named}
use Rattle.vx_model.specs.CellData.{fits}
use Rattle.vx_zone_spec.specs.ZoneTable.{Filled, name_of, state_cell}

-- the cells are of the column's type
abbrev pub column_fits : Filled → Bool
column_fits c = all_by (fits c.state) (map state_cell c.values)

-- and there are so many in each column
abbrev pub has_zones : ℕ → Filled → Bool
has_zones n c = length c.values == n

abbrev pub are_whole : ℕ → List Filled → Bool
are_whole n cs = all_by column_fits cs && all_by (has_zones n) cs

-- the fields of the table's type
abbrev pub column_names : List Filled → List Named
column_names [] = []
column_names (c ∷ cs) = (name_of c, c.state) ∷ column_names cs
