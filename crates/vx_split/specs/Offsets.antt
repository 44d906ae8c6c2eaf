-- Offsets behind a base.
use Rattle.std.specs.Prelude.{ℕ, ◌+◌, Bool, if◌then◌else◌, List, drop}
use Rattle.vx_model.specs.CellData.{CellData}
use Rattle.vx_rules.specs.Columns.{offset_cell}

abbrev pub cell_behind : ℕ → ℕ → CellData
cell_behind base n = offset_cell (base + n)

-- one entry more for the first chunk
abbrev pub entries : Bool → List ℕ → List ℕ
entries first os = if first then os else drop 1 os
