use Rattle.std.proofs.Common.{◌≡◌, ℕ, ◌-◌, ◌≤◌, length, take}
use Rattle.std.specs.Io.KnownBytes.{Appends}
use Rattle.vx_run.specs.Running.{MayFail}
use Rattle.vx_run.proofs.running.write_all.Given as goal

abbrev pub invariant-writes : goal.invariant-writes
invariant-writes g l = record {
  wrote : Appends (g.O.Output.written l.fn.output) (g.O.Output.written l.output) (take l.at l.bytes);
  count : g.O.Fallible.faults l.output ≡ g.O.Fallible.faults l.fn.output;
  may : (k : ℕ) → g.O.Fallible.may_fail l.output k → MayFail (g.O.Fallible.may_fail l.fn.output);
  within : l.at ≤ length l.bytes;
}

abbrev pub decreases-writes : goal.decreases-writes
decreases-writes g l = length l.bytes - l.at
