use Rattle.std.proofs.Common.{ap, ◌∙◌}
use Rattle.vx_machine_node.specs.Sizes.{sum_of}
use Rattle.vx_machine_node.proofs.GroupSizes.{sum_turned}
use Rattle.vx_machine_nodes.proofs.grouped.turn.Goals as goal

pub returns-then-count-len-clause-sum : goal.returns-then-count-len-clause-sum
returns-then-count-len-clause-sum c = ap sum_of c.rotate_left.ensures.items ∙ sum_turned c.args.count c.args.reserved.now.items
