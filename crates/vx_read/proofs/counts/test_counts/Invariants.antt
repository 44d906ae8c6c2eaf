use Rattle.std.proofs.Common.{◌≡◌, drop, map}
use Rattle.vx_read.specs.Parts.{rows_in}
use Rattle.vx_read.specs.Reading.{counts_fault}
use Rattle.vx_read.proofs.counts.test_counts.Given as goal

abbrev pub invariant-loop-part : goal.invariant-loop-part
invariant-loop-part l = counts_fault l.needs (map rows_in (drop l.part-index l.parts)) ≡ counts_fault l.needs (map rows_in l.parts)
