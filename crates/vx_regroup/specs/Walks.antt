-- A walk over a chunk's check points.
use Rattle.std.specs.Prelude.{◌≡◌, ℕ, ◌-◌, ◌≤◌, List, ◌++◌, take, drop, length, sum, Option}
use Rattle.vx_model.specs.Words.{total_by}
use Rattle.vx_model.specs.CellData.{CellData, cell_size}
use Rattle.vx_model.specs.Ty.{Ty}
use Rattle.vx_rules.specs.Blocks.{block_sizes, tested_sizes}
use Rattle.vx_regroup.specs.Refusals.{first_past}

-- The sizes of the rows from the last cut to the last check point are summed up; the cut is what was cut off.
pub record Stands (t : Ty) (rows : List CellData) (sizes : List ℕ) (cut seen total : ℕ) : Type 0 where
  pub order : cut ≤ seen
  pub within : seen ≤ length rows
  pub summed : total ≡ total_by (cell_size t) (take (seen - cut) (drop cut rows))
  pub cut_is : sum sizes ≡ cut

-- the sizes found, and those that the check points still to come give
abbrev pub sizes_with : ℕ → ℕ → Ty → List CellData → List ℕ → ℕ → List ℕ → List ℕ
sizes_with len minimum t rows sizes cut ps = sizes ++ block_sizes len minimum t cut (drop cut rows) ps

-- the first row size that is too large at the check points still to come
abbrev pub past_with : ℕ → ℕ → Ty → List CellData → ℕ → List ℕ → Option ℕ
past_with len minimum t rows cut ps = first_past (tested_sizes len minimum t cut (drop cut rows) ps)
