use Rattle.std.proofs.Common.{arith}
use Rattle.vx_model.specs.TyView.{ty}
use Rattle.vx_chunk.proofs.Sound.{chunked_sound}
use Rattle.vx_chunk.proofs.node.Chunk.chunked.Goals as goal

pub invariant_of-result : goal.invariant_of-result
invariant_of-result c =
    let rows = rw c.deref.ensures.value at c.total_rows-rows.ensures in
    chunked_sound (ty c.args.dtype) c.args.parts.items (rw c.deref-2.ensures.value at c.all_sound.ensures) c.requires (omega arith)
