use Rattle.std.proofs.Common.{◌+◌, ◌-◌, ◌/◌, ◌≤◌, ◌∙◌, List, ℕ, refl, subst, arith}
use Rattle.std.proofs.lemmas.List.{length-set}
use Rattle.vx_model.specs.TreeView.{tree}
use Rattle.vx_slots.specs.Slots.{IsFree, first_slot}
use Rattle.vx_slots.proofs.Kept.{kept_none, kept_next}
use Rattle.vx_slots.proofs.slots.slots_of.Goals as goal

pub loop-k-init : goal.loop-k-init
loop-k-init c =
    let n : c.max.result ≤ c.next_power_of_two-firsts.result = c.next_power_of_two-firsts.ensures.lower_bound in
    record {
      kept = kept_none (c.next_power_of_two-firsts.result - 1) (c.next_power_of_two-firsts.result + c.next_power_of_two-firsts.result / 2) c.in_ok-slots.slots.items
          (c.in_ok-slots.ensures.items_if_clones_equal (λ y h. h)) (omega arith);
      len = omega (arith, c.in_ok-slots.ensures.len);
    }

pub loop-k-preserved : goal.loop-k-preserved
loop-k-preserved c = record {
  kept = kept_next c.args.cells.now c.loop-k.k c.index-cells-k.result (c.next_power_of_two-firsts.result - 1) c.loop-k.slots.items c.slot_for-at.result (c.loop-k.k + 1) c.loop-k-test.true c.index-cells-k.is refl
      c.loop-k.invariant.kept (subst (λ (z : List ℕ). IsFree (first_slot (c.next_power_of_two-firsts.result - 1) (tree c.index-cells-k.result)) z c.slot_for-at.result) c.deref.ensures.value c.slot_for-at.ensures);
  len = length-set c.loop-k.slots.items c.slot_for-at.result (c.loop-k.k + 1) ∙ c.loop-k.invariant.len;
}
