use Rattle.vx_chunk.proofs.NodeSound.{in_list}
use Rattle.vx_chunk.proofs.elements.keeps_elements.Goals as goal

pub cover-requires : goal.cover-requires
cover-requires c =
    rw c.deref-then-is_plain.ensures.value (in_list c.chunk.inside.node c.in-List.dtype c.in-List.elements c.in-List.offsets c.in-List.valid c.in-List.is c.chunk.invariant).some
