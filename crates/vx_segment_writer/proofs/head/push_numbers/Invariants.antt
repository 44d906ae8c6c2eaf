use Rattle.std.proofs.Common.{◌≡◌, ◌++◌, drop}
use Rattle.vx_model.specs.Words.{joined_by}
use Rattle.vx_model.specs.CellData.{u64_bytes}
use Rattle.vx_segment_writer.proofs.head.push_numbers.Given as goal

abbrev pub invariant-loop-number : goal.invariant-loop-number
invariant-loop-number l = l.out.items ++ joined_by u64_bytes (drop l.number-index l.numbers) ≡ l.fn.out.items ++ joined_by u64_bytes l.numbers
