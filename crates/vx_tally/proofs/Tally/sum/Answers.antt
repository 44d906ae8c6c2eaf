use Rattle.std.proofs.Common.{rules, ◌≡◌, ◌-◌, ◌^◌, ◌<◌, min, sum, arith, subst}
use Rattle.vx_tally.proofs.Sums.{top_sum}
use Rattle.vx_tally.proofs.Tally.sum.Goals as goal

pub returns : goal.returns
returns c =
    let f : c.index.result.now < 2 ^ 64 = first_of (search rules, omega arith, grind arith) in
    subst (λ z. c.index.result.now ≡ min (sum z) (2 ^ 64 - 1)) c.self.view_is
    (top_sum c.self.inside.nodes.items c.self.inside.half c.self.inside.len c.index.result.now c.self.invariant c.if-self-eq0.false c.index.ensures f)
