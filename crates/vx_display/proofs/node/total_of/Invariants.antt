use Rattle.std.proofs.Common.{◌≡◌, ◌+◌, ◌-◌, ◌*◌, ◌^◌, ◌≤◌, drop}
use Rattle.vx_display.specs.Text.{total}
use Rattle.vx_display.proofs.node.total_of.Given as goal

abbrev pub invariant-loop-length : goal.invariant-loop-length
invariant-loop-length l = record {
  sum : l.sum + total (drop l.length-index l.lengths) ≡ total l.lengths;
  most : l.sum ≤ l.length-index * (2 ^ 64 - 1);
}
