-- A cutter as contracts see it.
use Rattle.std.specs.Prelude.{ℕ, Bool, List, [], refl}
use Rattle.std.specs.Coded.{Coded, code_by, coded×, coded_ℕ}
use denote.Struct.Codes.{itself}
use base.Stored.{Gv}
use Rattle.vx_model.specs.Ty.{Ty}
use Rattle.vx_model.specs.CellData.{CellData}
use Rattle.vx_model.specs.ChunkData.{ChunkData}
use Rattle.vx_model.specs.Codes.{ty_code, ty_of, ty_back}
use Rattle.vx_model.specs.declared.dtype.DType.{DType}
use Rattle.vx_model.specs.TyView.{ty}
use Rattle.vx_rules.specs.Runs.{DictOptions}
use Rattle.vx_react.specs.Reactor.{Output}
use Rattle.vx_slots.specs.Slots.{listed_code}
use Rattle.vx_react.specs.Cutter.{Cutting, cutter}
use Rattle.vx_strategy_options.specs.declared.options.DictLayoutConstraints.{DictLayoutConstraints}

-- the type of its rows, its constraints, and the run that goes on
pub record CutterData : Type 0 where
  pub typed : Ty
  pub max_bytes : ℕ
  pub max_len : ℕ
  pub number : ℕ
  pub distinct : List CellData

abbrev pub cutter_view : DType → DictLayoutConstraints → ℕ → List CellData → CutterData
cutter_view dtype constraints number ds = record { typed = ty dtype; max_bytes = constraints.max_bytes; max_len = constraints.max_len; number = number; distinct = ds }

-- at the first run
abbrev pub started : DType → DictLayoutConstraints → CutterData
started dtype constraints = cutter_view dtype constraints 0 []

-- ---- what the rule says

-- the probe is the compressor's number, which the cutter doesn't read
abbrev pub options_of : CutterData → ℕ → DictOptions
options_of c probe = record { max_bytes = c.max_bytes; max_len = c.max_len; probe = probe }

abbrev pub cutting_of : CutterData → Cutting
cutting_of c = record { number = c.number; distinct = c.distinct }

abbrev pub gives_at : ℕ → CutterData → ChunkData → Bool → List Output
gives_at probe c p last = (cutter (options_of c probe) c.typed).gives (cutting_of c) p last

abbrev pub held_at : ℕ → CutterData → ChunkData → Cutting
held_at probe c p = (cutter (options_of c probe) c.typed).holds (cutting_of c) p

abbrev pub with_cutting : CutterData → Cutting → CutterData
with_cutting c s = record { typed = c.typed; max_bytes = c.max_bytes; max_len = c.max_len; number = s.number; distinct = s.distinct }

-- ---- as trees of numbers

abbrev pub type_code : Coded Ty
type_code = code_by Gv itself ty_code ty_of ty_back

abbrev pub cutter_code : Coded CutterData
cutter_code =
    code_by (Ty × (ℕ × (ℕ × (ℕ × List CellData)))) (coded× type_code (coded× coded_ℕ (coded× coded_ℕ (coded× coded_ℕ listed_code))))
    (λ c. (c.typed, (c.max_bytes, (c.max_len, (c.number, c.distinct)))))
    (λ p. record { typed = p.0; max_bytes = p.1.0; max_len = p.1.1.0; number = p.1.1.1.0; distinct = p.1.1.1.1 }) (λ _. refl)
