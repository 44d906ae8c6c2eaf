-- A chunk's rows, cut as far as they were looked at.
use Rattle.std.specs.Prelude.{◌≡◌, ℕ, ◌<◌, ◌+◌, ◌^◌, Bool, true, List, [], ◌∷◌, map, length}
use Rattle.vx_model.specs.Words.{total_by, all_by}
use Rattle.vx_model.specs.Ty.{Ty}
use Rattle.vx_model.specs.CellData.{CellData, text_cell, bytes_cell, fits}
use Rattle.vx_model.specs.ChunkData.{is_dict_type}
use Rattle.vx_model.specs.TreeView.{tree}
use Rattle.vx_rules.specs.Columns.{offset_cell}
use Rattle.vx_rules.specs.Runs.{DictOptions, Cut, behind, stretches, cells_fit, cell_cost, code_type}
use Rattle.vx_runs.specs.declared.rows.Closed.{Closed}

-- options with a probe that isn't read
abbrev pub limited : ℕ → ℕ → DictOptions
limited max_bytes max_len = record { max_bytes = max_bytes; max_len = max_len; probe = 0 }

-- the cost of a cell of a type that isn't primitive
abbrev pub other_cost : CellData → ℕ
other_cost (text_cell s) = length s + 16
other_cost (bytes_cell s) = length s + 16
other_cost c = 16

-- ---- rows that were looked at

abbrev pub pair_of : Closed → List ℕ × List CellData
pair_of x = (x.codes.items, map tree x.distinct.items)

abbrev pub pairs : List Closed → List (List ℕ × List CellData)
pairs xs = map pair_of xs

abbrev pub cut_of : List Closed → List ℕ → List CellData → Cut
cut_of closed codes ds = record { closed = pairs closed; codes = codes; distinct = ds }

-- the runs that have ended, before the rest
abbrev pub behind_all : List Closed → Cut → Cut
behind_all [] cut = cut
behind_all (x ∷ xs) cut = behind x.codes.items (map tree x.distinct.items) (behind_all xs cut)

-- what is cut once the rows still to come are
abbrev pub cut_with : DictOptions → Ty → List Closed → List CellData → List ℕ → List CellData → Cut
cut_with o t closed ds codes rows = behind_all closed (stretches o t ds codes rows)

-- ---- the run that goes on

-- its distinct cells fit, and their costs are summed up
pub record Running (o : DictOptions) (t : Ty) (ds : List CellData) (cost : ℕ) : Type 0 where
  pub fit : cells_fit o t ds ≡ true
  pub summed : cost ≡ total_by (cell_cost t) ds
  -- so sums don't overflow
  pub small : cost < 2 ^ 65

-- and they are cells that a dictionary can hold
pub record Standing (o : DictOptions) (t : Ty) (ds : List CellData) (cost : ℕ) : Type 0 where
  pub dict : is_dict_type t ≡ true
  pub fit : all_by (fits t) ds ≡ true
  pub running : Running o t ds cost

-- ---- what makes chunks

abbrev pub is_code_of : DictOptions → ℕ → Bool
is_code_of o n = fits (code_type o) (offset_cell n)

-- the codes and cells of each run that has ended make chunks
abbrev pub ClosedFit : DictOptions → Ty → List (List ℕ × List CellData) → Type 0
ClosedFit o t [] = Unit {0}
ClosedFit o t (x ∷ xs) = (all_by (is_code_of o) x.0 ≡ true) × (all_by (fits t) x.1 ≡ true) × ClosedFit o t xs
