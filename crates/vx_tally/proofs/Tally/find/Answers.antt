use Rattle.std.proofs.Common.{◌≡◌, ◌+◌, ◌-◌, ◌^◌, ◌≤◌, ◌<◌, min, take, sum, get_or, arith, sym, ap, ◌∙◌, subst}
use Rattle.vx_tally.specs.Nodes.{sum_from}
use Rattle.vx_tally.proofs.Sums.{below_top, sum-counts, is_count}
use Rattle.vx_tally.proofs.Tally.find.Goals as goal

pub descend-requires-clause-below : goal.descend-requires-clause-below
descend-requires-clause-below c = rw c.deref.ensures.value
    (below_top c.self.inside.nodes.items c.self.inside.half c.self.inside.len c.args.k c.self.invariant
    (subst (λ z. c.args.k < min (sum z) (2 ^ 64 - 1)) (sym c.self.view_is) c.requires))

pub returns-clause-place : goal.returns-clause-place
returns-clause-place c =
    let p : sum_from c.self.inside.nodes.items c.self.inside.half c.descend.result.0 + c.descend.result.1 ≡ c.args.k =
    subst (λ z. sum_from z c.self.inside.half c.descend.result.0 + c.descend.result.1 ≡ c.args.k) c.deref.ensures.value c.descend.ensures.place in
    let h : c.descend.result.1 < get_or c.self.inside.nodes.items (c.self.inside.half + c.descend.result.0) 0 =
    subst (λ z. c.descend.result.1 < get_or z (c.self.inside.half + c.descend.result.0) 0) c.deref.ensures.value c.descend.ensures.inside in
    let i : c.descend.result.0 < c.self.inside.len =
    is_count c.self.inside.nodes.items c.self.inside.half c.self.inside.len c.descend.result.0 c.descend.result.1 c.self.invariant c.descend.ensures.within h in
    let l : c.descend.result.0 ≤ c.self.inside.len = omega arith in
    subst (λ z. sum (take c.descend.result.0 z) + c.descend.result.1 ≡ c.args.k) c.self.view_is
    (ap (λ z. z + c.descend.result.1) (sum-counts c.self.inside.nodes.items c.self.inside.half c.self.inside.len c.descend.result.0 c.self.invariant.size c.self.invariant.room l) ∙ p)
