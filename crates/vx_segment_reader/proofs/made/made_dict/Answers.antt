use Rattle.std.proofs.Common.{◌≡◌, length, sym, ◌∙◌}
use Rattle.std.specs.Prelude.{◌==◌}
use Rattle.std.proofs.lemmas.Bool.{and_parts}
use Rattle.vx_model.specs.Words.{all_by}
use Rattle.vx_model.specs.ChunkData.{cells, is_code}
use Rattle.vx_segment_spec.proofs.PieceTypes.{makes}
use Rattle.vx_segment_reader.proofs.made.made_dict.Goals as goal

pub dict-requires : goal.dict-requires
dict-requires c =
    let fit = and_parts (length (cells c.args.codes) == c.args.rows) (all_by (is_code (length (cells c.args.values))) (cells c.args.codes)) (sym c.fit_rows.ensures ∙ c.if-not-fit_rows.false) in
    makes c.args.codes c.args.values c.requires.codes c.requires.values c.requires.code_type c.requires.dict_type fit.1
