use Rattle.std.proofs.Common.{length, ap, ◌∙◌}
use Rattle.vx_value_cases.proofs.Counts.{length-inserted}
use Rattle.vx_value_cases.proofs.lanes.insert_all.Goals as goal

pub numbers-preserved : goal.numbers-preserved
numbers-preserved c = ap length c.insert.ensures.mask ∙ length-inserted c.numbers.lanes _ ∙ c.numbers.invariant
