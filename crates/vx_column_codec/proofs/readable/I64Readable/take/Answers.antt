use Rattle.std.proofs.Common.{rules, ◌∙◌}
use Rattle.std.specs.Int.{w64}
use Rattle.std.proofs.lemmas.Int.{to_z-of_z}
use mir.Val.{SFits}
use Rattle.vx_model.specs.declared.ptype.PType.TheVariants as types
use Rattle.vx_column_codec.proofs.LeafSteps.{int_some}
use Rattle.vx_column_codec.proofs.readable.I64Readable.take.Goals as goal

pub returns : goal.returns
returns c =
    let fit : SFits w64 c.i64_of.result = search rules in
    int_some types.I64 c.args.bytes.now c.in_ok-s.s.now c.in_ok-s.rest.now _ (to_z-of_z w64 c.i64_of.result fit ∙ c.i64_of.ensures) c.in_ok-s.ensures.front
