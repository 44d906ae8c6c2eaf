use Rattle.vx_model.specs.declared.ptype.PType.TheVariants as types
use Rattle.vx_column_codec.proofs.LeafSteps.{int_some}
use Rattle.vx_column_codec.proofs.readable.U16Readable.take.Goals as goal

pub returns : goal.returns
returns c = int_some types.U16 c.args.bytes.now c.in_ok-s.s.now c.in_ok-s.rest.now _ c.u16_of.ensures c.in_ok-s.ensures.front
