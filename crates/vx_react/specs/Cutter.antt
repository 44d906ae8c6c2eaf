-- The cutter of runs: the codes and the values of each run go to the places of its number.
use Rattle.std.specs.Prelude.{ℕ, suc, Bool, false, if◌then◌else◌, List, [], ◌∷◌}
use Rattle.vx_model.specs.Ty.{Ty}
use Rattle.vx_model.specs.CellData.{CellData}
use Rattle.vx_model.specs.ChunkData.{ChunkData, plain_piece, cells}
use Rattle.vx_rules.specs.Runs.{DictOptions, Cut, stretches, codes_piece, Run}
use Rattle.vx_react.specs.declared.place.Place.TheVariants.{Codes, Values}
use Rattle.vx_react.specs.Reactor.{Output, Reactor}

-- the run that goes on: its number, the first run having 0, and its distinct cells so far
pub record Cutting : Type 0 where
  pub number : ℕ
  pub distinct : List CellData

-- what a chunk's rows are cut into
abbrev pub cut_by : DictOptions → Ty → Cutting → ChunkData → Cut
cut_by o t s c = stretches o t s.distinct [] (cells c)

-- the number behind the runs that end
abbrev pub next_number : ℕ → List (List ℕ × List CellData) → ℕ
next_number n [] = n
next_number n (x ∷ xs) = next_number (suc n) xs

-- codes and values of the runs that end, the first having number n, then what comes behind them
abbrev pub closed_outputs : DictOptions → Ty → ℕ → List (List ℕ × List CellData) → List Output → List Output
closed_outputs o t n [] more = more
closed_outputs o t n (x ∷ xs) more = (Codes n, codes_piece o x.0) ∷ (Values n, plain_piece t x.1) ∷ closed_outputs o t (suc n) xs more

-- the codes of the run that goes on, and its values too where it ends with the stream
abbrev pub open_outputs : DictOptions → Ty → ℕ → List ℕ → List CellData → Bool → List Output
open_outputs o t n codes ds last = (Codes n, codes_piece o codes) ∷ (if last then (Values n, plain_piece t ds) ∷ [] else [])

abbrev pub cut_outputs : DictOptions → Ty → ℕ → Cut → Bool → List Output
cut_outputs o t n cut last = closed_outputs o t n cut.closed (open_outputs o t (next_number n cut.closed) cut.codes cut.distinct last)

abbrev pub cutter : DictOptions → Ty → Reactor Cutting
cutter o t = record {
  start = record { number = 0; distinct = [] };
  gives = λ s c last. cut_outputs o t s.number (cut_by o t s c) last;
  holds = λ s c. record { number = next_number s.number (cut_by o t s c).closed; distinct = (cut_by o t s c).distinct };
}

-- past the last run
abbrev pub no_run : Run
no_run = record { codes = []; values = []; closed = false }
