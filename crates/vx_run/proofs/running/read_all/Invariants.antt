use Rattle.std.proofs.Common.{◌≡◌, ℕ, ◌-◌, ◌≤◌, length}
use Rattle.std.specs.Io.KnownBytes.{Consumes}
use Rattle.vx_run.specs.Running.{MayFail}
use Rattle.vx_run.proofs.running.read_all.Given as goal

abbrev pub invariant-reads : goal.invariant-reads
invariant-reads g l = record {
  consumed : Consumes (g.I.Input.to_come l.fn.input) (g.I.Input.to_come l.input) l.bytes.items;
  count : g.I.Fallible.faults l.input ≡ g.I.Fallible.faults l.fn.input;
  may : (k : ℕ) → g.I.Fallible.may_fail l.input k → MayFail (g.I.Fallible.may_fail l.fn.input);
  short : length l.bytes.items ≤ 67108865;
}

abbrev pub decreases-reads : goal.decreases-reads
decreases-reads g l = 67108865 - length l.bytes.items
