use Rattle.std.proofs.Common.{◌≡◌, ◌+◌, ◌-◌, ◌*◌, ◌^◌, ◌≤◌, drop}
use Rattle.vx_run.specs.Summary.{bytes_in}
use Rattle.vx_run.proofs.totals.total_bytes.Given as goal

abbrev pub invariant-loop-segment : goal.invariant-loop-segment
invariant-loop-segment l = record {
  sum : l.total + bytes_in (drop l.segment-index l.segments) ≡ bytes_in l.segments;
  most : l.total ≤ l.segment-index * (2 ^ 64 - 1);
}
