-- An encoder as contracts see it.
use Rattle.std.specs.Prelude.{◌≡◌, ℕ, true, List, []}
use Rattle.std.proofs.Common.{ap, ◌∙◌}
use Rattle.std.specs.Coded.{Coded, code_by}
use denote.Struct.Codes.{itself}
use base.Stored.{Gv, gnum, gcons}
use Rattle.vx_model.specs.Ty.{Ty, boolean}
use Rattle.vx_model.specs.CellData.{CellData}
use Rattle.vx_model.specs.ChunkData.{ChunkData, cells}
use Rattle.vx_model.specs.Codes.{number_of, ty_code, ty_of, ty_back}
use Rattle.vx_model.specs.declared.dtype.DType.{DType}
use Rattle.vx_model.specs.TyView.{ty}
use Rattle.vx_typed.specs.CellCode.{cells_code, cells_of, cells_back}
use Rattle.vx_rules.specs.Runs.{DictOptions}
use Rattle.vx_strategy_options.specs.declared.options.DictLayoutConstraints.{DictLayoutConstraints}
use Rattle.vx_runs.specs.Cutting.{limited}
use Rattle.vx_dict_encoder.specs.Front.{front}

-- the type of its rows, its constraints, and its distinct cells
pub record EncoderData : Type 0 where
  pub typed : Ty
  pub max_bytes : ℕ
  pub max_len : ℕ
  pub distinct : List CellData

abbrev pub encoder_view : DType → DictLayoutConstraints → List CellData → EncoderData
encoder_view dtype constraints ds = record { typed = ty dtype; max_bytes = constraints.max_bytes; max_len = constraints.max_len; distinct = ds }

abbrev pub with_distinct : EncoderData → List CellData → EncoderData
with_distinct e ds = record { typed = e.typed; max_bytes = e.max_bytes; max_len = e.max_len; distinct = ds }

-- ---- what the rules say

abbrev pub options_of : EncoderData → DictOptions
options_of e = limited e.max_bytes e.max_len

-- the front of a chunk's rows that the dictionary takes
abbrev pub front_at : EncoderData → ChunkData → List ℕ × List CellData
front_at e p = front (options_of e) e.typed e.distinct (cells p)

-- ---- as a tree of numbers

abbrev pub encoder_gv : EncoderData → Gv
encoder_gv e = gcons (ty_code e.typed) (gcons (gnum e.max_bytes) (gcons (gnum e.max_len) (cells_code e.distinct)))

abbrev pub encoder_of_gv : Gv → EncoderData
encoder_of_gv (gcons t (gcons a (gcons b ds))) = record { typed = ty_of t; max_bytes = number_of a; max_len = number_of b; distinct = cells_of ds }
encoder_of_gv g = record { typed = boolean true; max_bytes = 0; max_len = 0; distinct = [] }

pub encoder_back : (e : EncoderData) → encoder_of_gv (encoder_gv e) ≡ e
encoder_back e =
    ap (λ (t : Ty). with_distinct (record { typed = t; max_bytes = e.max_bytes; max_len = e.max_len; distinct = e.distinct }) (cells_of (cells_code e.distinct))) (ty_back e.typed)
    ∙ ap (with_distinct e) (cells_back e.distinct)

abbrev pub encoder_code : Coded EncoderData
encoder_code = code_by Gv itself encoder_gv encoder_of_gv encoder_back
