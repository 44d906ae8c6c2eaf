use Rattle.std.proofs.Common.{length, ap, ◌∙◌}
use Rattle.vx_value_cases.proofs.Counts.{length-inserted}
use Rattle.vx_value_cases.proofs.lanes.insert_all_plain.Goals as goal

pub numbers-preserved : goal.numbers-preserved
numbers-preserved c = ap length c.insert_hash.ensures ∙ length-inserted c.numbers.plain _ ∙ c.numbers.invariant
