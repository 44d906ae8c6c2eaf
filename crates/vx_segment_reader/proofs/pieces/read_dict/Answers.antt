use Rattle.std.proofs.Common.{◌≡◌, true, length, sym, ◌∙◌}
use Rattle.std.specs.Prelude.{◌&&◌, ◌==◌}
use Rattle.std.proofs.lemmas.Bool.{and_parts}
use Rattle.vx_model.specs.TyView.{ty}
use Rattle.vx_model.specs.ChunkData.{piece_type, is_dict_type}
use Rattle.vx_segment_reader.specs.Views.{frame, head}
use Rattle.vx_segment_spec.proofs.PieceTypes.{simple_typed, codes_typed}
use Rattle.vx_segment_reader.proofs.pieces.read_dict.Goals as goal

pub made_dict-requires : goal.made_dict-requires
made_dict-requires c =
    let codes = simple_typed (frame c.args.frame.now) _ _ _ c.in_ok-codes.ensures in
    let values = simple_typed (frame c.args.frame.now) (ty c.args.dtype.now) _ _ c.in-Ok.ensures in
    let n = head c.args.node.now in
    let shape = and_parts (is_dict_type (ty c.args.dtype.now)) ((length n.lengths == 0) && (n.children == 2)) (sym c.is_dict.ensures ∙ c.if-not-is_dict.false) in
    let kind : is_dict_type (piece_type c.in-Ok.values) ≡ true = rw values.typed shape.0 in
    record {
      codes = codes.simple;
      values = values.simple;
      code_type = codes_typed n.extra c.in-Some.ptype c.in_ok-codes.codes (sym c.in-Some.ensures) codes.typed;
      dict_type = kind;
    }
