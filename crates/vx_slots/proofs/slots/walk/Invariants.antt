use Rattle.std.proofs.Common.{◌≡◌, map, drop}
use Rattle.vx_model.specs.TreeView.{tree}
use Rattle.vx_typed.specs.Lent.{lent_cell}
use Rattle.vx_slots.specs.Slots.{looked}
use Rattle.vx_slots.proofs.slots.walk.Given as goal

abbrev pub invariant-loop-slot : goal.invariant-loop-slot
invariant-loop-slot l = looked (map tree l.cells) (lent_cell l.cell) l.slots ≡ looked (map tree l.cells) (lent_cell l.cell) (drop l.slot-index l.slots)
