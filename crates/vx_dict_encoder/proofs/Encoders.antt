-- What an encoder gives, and holds behind it.
use Rattle.std.proofs.Common.{◌≡◌, ℕ, true, false, List, [], length, sym, ap, ap₂, ◌∙◌, subst}
use Rattle.std.specs.Prelude.{if◌then◌else◌, nat_le}
use Rattle.vx_model.specs.declared.ptype.PType.{PType}
use Rattle.vx_model.specs.declared.ptype.PType.TheVariants.{U8, U16}
use Rattle.vx_model.specs.declared.dtype.DType.{DType}
use Rattle.vx_model.specs.Words.{all_by}
use Rattle.vx_model.specs.Ty.{Ty, primitive}
use Rattle.vx_model.specs.TyView.{ty}
use Rattle.vx_model.specs.CellData.{CellData, fits}
use Rattle.vx_model.specs.ChunkData.{ChunkData, plain_piece, piece_type, cells, is_sound}
use Rattle.vx_chunk.proofs.CellsFit.{cells_fit}
use Rattle.vx_rules.specs.Runs.{code_type, codes_piece}
use Rattle.vx_strategy_options.specs.declared.options.DictLayoutConstraints.{DictLayoutConstraints}
use Rattle.vx_strategy_options.specs.OptionViews.{dict_options}
use Rattle.vx_dict_encoder.specs.Front.{front}
use Rattle.vx_dict_encoder.specs.EncoderData.{EncoderData, encoder_view, with_distinct, options_of, front_at}

-- the encoder's cells `ds` are those that were taken out of it, `es`
module _ (dtype : DType) (k : DictLayoutConstraints) (ds es : List CellData) (w : EncoderData) (p : ChunkData) (e : encoder_view dtype k ds ≡ w) where
  pub rows_fit : piece_type p ≡ w.typed → is_sound p ≡ true → all_by (fits (ty dtype)) (cells p) ≡ true
  rows_fit t s = subst (λ (u : Ty). all_by (fits u) (cells p) ≡ true) (t ∙ sym (ap (λ (z : EncoderData). z.typed) e)) (cells_fit p s)

  pub gives_codes : (x : ChunkData) → es ≡ ds → x ≡ codes_piece (dict_options k 0) (front (dict_options k 0) (ty dtype) es (cells p)).0 → x ≡ codes_piece (options_of w) (front_at w p).0
  gives_codes x d h = h ∙ ap (λ (z : List CellData). codes_piece (dict_options k 0) (front (dict_options k 0) (ty dtype) z (cells p)).0) d ∙ ap (λ (z : EncoderData). codes_piece (options_of z) (front_at z p).0) e

  pub gives_count : (n : ℕ) → es ≡ ds → n ≡ length (front (dict_options k 0) (ty dtype) es (cells p)).0 → n ≡ length (front_at w p).0
  gives_count n d h = h ∙ ap (λ (z : List CellData). length (front (dict_options k 0) (ty dtype) z (cells p)).0) d ∙ ap (λ (z : EncoderData). length (front_at z p).0) e

  pub holds_front : (fs : List CellData) → es ≡ ds → fs ≡ (front (dict_options k 0) (ty dtype) es (cells p)).1 → encoder_view dtype k fs ≡ with_distinct w (front_at w p).1
  holds_front fs d h =
      ap (encoder_view dtype k) (h ∙ ap (λ (z : List CellData). (front (dict_options k 0) (ty dtype) z (cells p)).1) d) ∙ ap (λ (z : EncoderData). with_distinct z (front_at z p).1) e

pub ruleset encode_rules = (rows_fit, gives_codes, gives_count, holds_front)

pub reset_values : (dtype : DType) (k : DictLayoutConstraints) (ds : List CellData) (w : EncoderData) (t : Ty) (cs : List CellData) (x : ChunkData) → encoder_view dtype k ds ≡ w → t ≡ ty dtype → cs ≡ ds → x ≡ plain_piece t cs
    → x ≡ plain_piece w.typed w.distinct
reset_values dtype k ds w t cs x e f g h = h ∙ ap₂ plain_piece f g ∙ ap (λ (z : EncoderData). plain_piece z.typed z.distinct) e

pub reset_empties : (dtype : DType) (k : DictLayoutConstraints) (ds es : List CellData) (w : EncoderData) → encoder_view dtype k ds ≡ w → es ≡ [] → encoder_view dtype k es ≡ with_distinct w []
reset_empties dtype k ds es w e h = ap (encoder_view dtype k) h ∙ ap (λ (z : EncoderData). with_distinct z []) e

pub reset_fit : (t u : Ty) (cs ds : List CellData) → u ≡ t → cs ≡ ds → all_by (fits t) ds ≡ true → all_by (fits u) cs ≡ true
reset_fit t u cs ds e g f = ap₂ (λ (v : Ty) (z : List CellData). all_by (fits v) z) e g ∙ f

pub ruleset reset_rules = (reset_values, reset_empties, reset_fit)

pub ptype_is : (dtype : DType) (k : DictLayoutConstraints) (ds : List CellData) (w : EncoderData) (p : PType) → encoder_view dtype k ds ≡ w → p ≡ (if nat_le k.max_len 255 then U8 else U16) → primitive p false ≡ code_type (options_of w)
ptype_is dtype k ds w p e h = ap (λ (q : PType). primitive q false) h ∙ ap (λ (z : EncoderData). code_type (options_of z)) e

pub ruleset ptype_rules = (ptype_is)
