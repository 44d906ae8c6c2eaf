use Rattle.std.proofs.Common.{◌≡◌, ◌++◌, drop, map}
use Rattle.vx_model.specs.CellData.{bit}
use Rattle.vx_segment_writer.proofs.buffers.push_flags.Given as goal

abbrev pub invariant-loop-flag : goal.invariant-loop-flag
invariant-loop-flag l = l.out.items ++ map bit (drop l.flag-index l.flags) ≡ l.fn.out.items ++ map bit l.flags
