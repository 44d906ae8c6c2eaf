use Rattle.std.proofs.Common.{arith}
use Rattle.vx_slots.proofs.Kept.{some_empty}
use Rattle.vx_slots.proofs.slots.empty_slot.Goals as goal

pub unreachable-requires : goal.unreachable-requires
unreachable-requires c = some_empty c.args.slots.now c.args.from c.requires (λ j l m. c.loop-at.invariant j l (omega arith))
