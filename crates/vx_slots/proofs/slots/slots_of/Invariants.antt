use Rattle.std.proofs.Common.{◌≡◌, ◌+◌, ◌/◌, map, take, length}
use Rattle.vx_model.specs.TreeView.{tree}
use Rattle.vx_slots.specs.Slots.{Kept}
use Rattle.vx_slots.proofs.slots.slots_of.Given as goal

abbrev pub invariant-loop-k : goal.invariant-loop-k
invariant-loop-k l = record {
  kept : Kept (map tree (take l.k l.cells)) l.mask l.slots.items;
  len : length l.slots.items ≡ l.firsts + l.firsts / 2;
}
