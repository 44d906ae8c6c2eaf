-- A row's code, and what follows from it for the rows behind.
use Rattle.std.specs.Prelude.{◌≡◌, ℕ, List, [], ◌∷◌, ◌++◌}
use Rattle.vx_model.specs.Ty.{Ty}
use Rattle.vx_model.specs.CellData.{CellData}
use Rattle.vx_rules.specs.Runs.{DictOptions, stretches}
use Rattle.vx_dict_encoder.specs.Front.{first_run}

-- the cell has the code among the cells `es`, so the rows behind it follow these
abbrev pub GoesOn : DictOptions → Ty → List CellData → CellData → List CellData → ℕ → Type 0
GoesOn o t ds c es code = (codes : List ℕ) (more : List CellData) → stretches o t es (codes ++ code ∷ []) more ≡ stretches o t ds codes (c ∷ more)

-- the run ends before the cell
abbrev pub Ends : DictOptions → Ty → List CellData → CellData → Type 0
Ends o t ds c = (codes : List ℕ) (more : List CellData) → first_run (stretches o t ds codes (c ∷ more)) ≡ (codes, ds)
