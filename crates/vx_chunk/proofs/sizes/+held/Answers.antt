use Rattle.std.proofs.Common.{arith}
use Rattle.vx_chunk.proofs.SizeSteps.{list_held}
use Rattle.vx_chunk.proofs.sizes.+held.Goals as goal

pub held_bytes-returns-in-List : goal.held_bytes-returns-in-List
held_bytes-returns-in-List t c =
    let whole = list_held c.chunk.inside.node c.in-List.dtype c.in-List.elements c.in-List.offsets c.in-List.valid c.in-List.is c.chunk.invariant in
    rw (← c.chunk.view_is) (omega (arith, whole, c.saturating_add-in-List.ensures, rw c.deref-in-List.ensures at c.held_bytes-in-List.ensures, c.len-in-List.ensures, c.len-in-List-2.ensures))
