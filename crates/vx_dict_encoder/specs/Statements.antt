-- The laws of fronts.
use Rattle.std.specs.Prelude.{◌≡◌, ℕ, ◌<◌, true, false, List, [], ◌∷◌, ◌++◌, length, map, take, drop}
use Rattle.vx_model.specs.Words.{all_by}
use Rattle.vx_model.specs.Ty.{Ty}
use Rattle.vx_model.specs.CellData.{CellData, fits}
use Rattle.vx_model.specs.ChunkData.{is_dict_type, is_code, picked}
use Rattle.vx_rules.specs.Columns.{offset_cell}
use Rattle.vx_rules.specs.Runs.{DictOptions, Cut, behind, stretches, with_cell, cells_fit}
use Rattle.vx_dict_encoder.specs.Front.{front}

-- ---- rows and codes

-- codes with the cells behind them, of a batch behind the cells `ds`
pub record FrontHolds (o : DictOptions) (t : Ty) (ds batch : List CellData) (codes : List ℕ) (es : List CellData) : Type 0 where
  -- the cells that were there keep their places
  pub kept : (more : List CellData) × (es ≡ ds ++ more)
  pub fits : cells_fit o t es ≡ true
  -- with the next row they don't fit
  pub longest : (c : CellData) (later : List CellData) → drop (length codes) batch ≡ c ∷ later → cells_fit o t (with_cell es c) ≡ false
  -- each code is the place of a cell, and there stands its row's
  pub within : all_by (is_code (length es)) (map offset_cell codes) ≡ true
  pub rows : map (picked es) (map offset_cell codes) ≡ take (length codes) batch

abbrev pub FrontsGiveRows : Type 0
FrontsGiveRows = (o : DictOptions) (t : Ty) (ds rows : List CellData) → is_dict_type t ≡ true → cells_fit o t ds ≡ true → all_by (fits t) rows ≡ true
    → FrontHolds o t ds rows (front o t ds rows).0 (front o t ds rows).1

-- ---- rows in several batches

-- The front `q` of two batches is that of the first, `p`, and where it has all of the first, then that of the second.
pub record FrontJoins (o : DictOptions) (t : Ty) (first second : List CellData) (p q : List ℕ × List CellData) : Type 0 where
  pub whole : drop (length p.0) first ≡ [] → q ≡ (p.0 ++ (front o t p.1 second).0, (front o t p.1 second).1)
  pub part : (c : CellData) (later : List CellData) → drop (length p.0) first ≡ c ∷ later → q ≡ p

abbrev pub FrontsJoin : Type 0
FrontsJoin = (o : DictOptions) (t : Ty) (ds first second : List CellData) → FrontJoins o t first second (front o t ds first) (front o t ds (first ++ second))

-- ---- fronts and runs

-- Rows are cut into runs by fronts: behind each one the dictionary is emptied, and the rows that are left follow.
pub record FrontCuts (o : DictOptions) (t : Ty) (rows : List CellData) (codes : List ℕ) (es : List CellData) (cut : Cut) : Type 0 where
  pub whole : drop (length codes) rows ≡ [] → cut ≡ record { closed = []; codes = codes; distinct = es }
  pub part : (c : CellData) (later : List CellData) → drop (length codes) rows ≡ c ∷ later → cut ≡ behind codes es (stretches o t [] [] (c ∷ later))

abbrev pub FrontsCutRuns : Type 0
FrontsCutRuns = (o : DictOptions) (t : Ty) (ds rows : List CellData) → is_dict_type t ≡ true → all_by (fits t) rows ≡ true
    → FrontCuts o t rows (front o t ds rows).0 (front o t ds rows).1 (stretches o t ds [] rows)

-- Of a dictionary without cells at least one row fits.
abbrev pub FrontsBegin : Type 0
FrontsBegin = (o : DictOptions) (t : Ty) (c : CellData) (rows : List CellData) → 0 < length (front o t [] (c ∷ rows)).0
