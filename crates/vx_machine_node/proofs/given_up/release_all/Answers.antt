use Rattle.std.proofs.Common.{◌∙◌, refl, arith}
use Rattle.vx_machine_node.proofs.GroupSizes.{sum_is}
use Rattle.vx_machine_node.proofs.LedgerSteps.{told_same}
use Rattle.vx_machine_node.proofs.given_up.release_all.Goals as goal

pub reserved-init : goal.reserved-init
reserved-init c = record { few = c.requires; tracked = refl; context = refl }

pub release_buffered_bytes-requires : goal.release_buffered_bytes-requires
release_buffered_bytes-requires c = omega (arith, sum_is c.reserved.reserved.items c.pop_back.new.self.items c.in-Some.reservation c.in-Some.ensures.items, c.reserved.invariant.few)

pub reserved-preserved : goal.reserved-preserved
reserved-preserved c =
    let s = sum_is c.reserved.reserved.items c.pop_back.new.self.items c.in-Some.reservation c.in-Some.ensures.items in
    record {
      few = omega (arith, s, c.reserved.invariant.few, c.release_buffered_bytes.ensures.counted);
      tracked = omega (arith, s, c.reserved.invariant.few, c.reserved.invariant.tracked, c.release_buffered_bytes.ensures.counted);
      context = told_same c.reserved.ctx c.release_buffered_bytes.new.self c.release_buffered_bytes.ensures.listed c.release_buffered_bytes.ensures.allowed c.release_buffered_bytes.ensures.marked ∙ c.reserved.invariant.context;
    }
