use Rattle.std.proofs.Common.{◌<◌, sym, ◌∙◌, arith}
use Rattle.vx_layout_tree.specs.LayoutView.{layout_data}
use Rattle.vx_layout_slots.proofs.SlotSteps.{next_some}
use Rattle.vx_layout_slots.proofs.slot_walk.next_place.Goals as goal

pub returns-then-is_some : goal.returns-then-is_some
returns-then-is_some c =
    let lt : c.loop-slot.slot < c.args.count = omega arith in
    let p = next_some (layout_data c.args.layout.now) c.loop-slot.slot c.args.count c.place_of.result lt c.place_of.ensures (sym c.is_some.ensures ∙ c.if-is_some.true) in
    (p.0, c.loop-slot.invariant.types ∙ p.1, p.2, c.loop-slot.invariant.row, lt)
