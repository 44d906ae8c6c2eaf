use Rattle.std.proofs.Common.{arith}
use Rattle.vx_model.specs.TyView.{ty}
use Rattle.vx_chunk.proofs.Sound.{struct_sound}
use Rattle.vx_chunk.proofs.node.Chunk.strukt.Goals as goal

pub invariant_of-result : goal.invariant_of-result
invariant_of-result c =
    struct_sound (ty c.args.dtype) c.args.fields.items c.args.valid.items c.args.rows (rw c.deref.ensures.value at c.all_sound.ensures) c.requires (omega arith)
