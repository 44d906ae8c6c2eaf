use Rattle.std.proofs.Common.{rules, ◌≡◌, ◌+◌, List, ℕ, length, map, set, sym, subst}
use Rattle.vx_model.specs.declared.cell.Cell.{Cell}
use Rattle.vx_model.specs.TreeView.{tree}
use Rattle.vx_slots.specs.Slots.{Kept, IsFree, first_slot}
use Rattle.vx_slots.proofs.Kept.{kept_pushed}
use Rattle.vx_slots.proofs.table.CellTable.push.Goals as goal

pub invariant_of-self-2 : goal.invariant_of-self-2
invariant_of-self-2 c =
    let count : c.len-place.result + 1 ≡ length c.self.inside.cells.items + 1 = search rules in
    subst (λ (z : List Cell). Kept (map tree z) c.make_room.new.slots.mask (set c.make_room.new.slots.slots.items c.slot_for-at.result (c.len-place.result + 1))) (sym c.in_ok-push.ensures.items)
    (kept_pushed c.self.inside.cells.items c.args.cell c.make_room.new.slots.mask c.make_room.new.slots.slots.items c.slot_for-at.result (c.len-place.result + 1) count
    (subst (λ (z : List Cell). Kept (map tree z) c.make_room.new.slots.mask c.make_room.new.slots.slots.items) c.deref.ensures.value c.make_room.ensures.kept)
    (subst (λ (z : List ℕ). IsFree (first_slot c.make_room.new.slots.mask (tree c.args.cell)) z c.slot_for-at.result) c.deref-2.ensures.value c.slot_for-at.ensures))
