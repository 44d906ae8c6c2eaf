use Rattle.std.proofs.Common.{◌+◌, get_or, inl, inr, ◌∙◌, ap}
use Rattle.vx_tally.proofs.Edits.{widened}
use Rattle.vx_tally.proofs.make_room.Goals as goal
use Rattle.vx_tally.proofs.make_room.Goals.{then-half-eq0, else-half-eq0}

pub returns-clause-ok : goal.returns-clause-ok
returns-clause-ok c = widened c.args.nodes.now.items c.in_ok-nodes.field-0.items c.args.half c.if-half-eq0.wide c.args.len c.requires c.if-len-half.false
    (elim c.if-half-eq0.branch [ then-half-eq0 w ↦ inl (w.if-half-eq0.true, w.wide-is) | else-half-eq0 w ↦ inr (w.if-half-eq0.false, w.wide-is) ])
    c.in_ok-nodes.ensures.size
    (λ i l. c.in_ok-nodes.ensures.leaves i l ∙ ap (λ z. get_or z (c.args.half + i) 0) c.deref.ensures.value)
    c.in_ok-nodes.ensures.zeros c.in_ok-nodes.ensures.sums
