use Rattle.std.proofs.Common.{arith}
use Rattle.vx_chunk.proofs.NodeSound.{in_list}
use Rattle.vx_chunk.proofs.node.Chunk.+len.Goals as goal

pub overflow_sub-result : goal.overflow_sub-result
overflow_sub-result t c =
    let sound = in_list c.self.inside.node c.in-List.dtype c.in-List.elements c.in-List.offsets c.in-List.valid c.in-List.is c.self.invariant in
    omega arith
