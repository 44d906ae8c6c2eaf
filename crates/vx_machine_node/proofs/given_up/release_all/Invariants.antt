use Rattle.std.proofs.Common.{◌≡◌, ◌≤◌}
use Rattle.std.specs.VecDeque.{deque_len}
use Rattle.vx_sink.specs.ContextView.{counted}
use Rattle.vx_machine_node.specs.Ledger.{Paid, told_by}
use Rattle.vx_machine_node.specs.Sizes.{sum_of}
use Rattle.vx_machine_node.proofs.given_up.release_all.Given as goal

abbrev pub invariant-reserved : goal.invariant-reserved
invariant-reserved l = record {
  few : sum_of l.reserved.items ≤ counted l.ctx;
  tracked : Paid l.initial.ctx l.ctx (sum_of l.initial.reserved.items) (sum_of l.reserved.items);
  context : told_by l.ctx ≡ told_by l.initial.ctx;
}

abbrev pub decreases-reserved : goal.decreases-reserved
decreases-reserved l = deque_len l.reserved
