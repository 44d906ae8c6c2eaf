use Rattle.std.proofs.Common.{◌≡◌, ◌-◌}
use Rattle.vx_layout_tree.specs.LayoutView.{layout_data}
use Rattle.vx_layout_slots.specs.SlotTypes.{types_from, chunk_row}
use Rattle.vx_layout_slots.proofs.slot_walk.next_place.Given as goal

abbrev pub invariant-loop-slot : goal.invariant-loop-slot
invariant-loop-slot l = record {
  types : types_from (layout_data l.layout) l.fn.from.slot (l.count - l.fn.from.slot) ≡ types_from (layout_data l.layout) l.slot (l.count - l.slot);
  row : l.row ≡ chunk_row (layout_data l.layout) l.slot;
}
