-- The longest front of rows with which a dictionary's cells fit.
use Rattle.std.specs.Prelude.{ℕ, List, [], ◌∷◌}
use Rattle.vx_model.specs.Ty.{Ty}
use Rattle.vx_model.specs.CellData.{CellData}
use Rattle.vx_rules.specs.Runs.{DictOptions, Cut, stretches}

abbrev pub first_of : List (List ℕ × List CellData) → List ℕ × List CellData → List ℕ × List CellData
first_of [] x = x
first_of (y ∷ ys) x = y

-- the codes and the distinct cells of the first run of what is cut, as far as it goes
abbrev pub first_run : Cut → List ℕ × List CellData
first_run cut = first_of cut.closed (cut.codes, cut.distinct)

-- Rows behind a dictionary's cells: the codes of the rows of the run that goes on, and the run's cells behind them.
abbrev pub front : DictOptions → Ty → List CellData → List CellData → List ℕ × List CellData
front o t ds rows = first_run (stretches o t ds [] rows)
