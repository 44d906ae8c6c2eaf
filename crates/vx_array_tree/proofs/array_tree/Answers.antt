use Rattle.std.proofs.Common.{arith}
use Rattle.vx_array_tree.proofs.Tails.{within, cut}
use Rattle.vx_array_tree.proofs.array_tree.Goals as goal

pub overflow_sub-result : goal.overflow_sub-result
overflow_sub-result c =
    within c.args.segment.now c.in-Some.front.now c.in-Some.last.now c.from_le_bytes-length.result c.requires (omega arith) c.in-Some.ensures.cases.1 c.in-Some.ensures.cases.2 c.from_le_bytes-length.ensures

pub returns : goal.returns
returns c =
    cut c.args.segment.now c.in-Some.front.now c.in-Some.last.now c.from_le_bytes-length.result (omega arith) c.in-Some.ensures.cases.0 c.in-Some.ensures.cases.1 c.in-Some.ensures.cases.2
    c.from_le_bytes-length.ensures
