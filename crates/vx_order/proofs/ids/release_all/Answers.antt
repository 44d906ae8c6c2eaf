use Rattle.std.proofs.Common.{ap, ◌∙◌, reverse}
use Rattle.vx_sequence.specs.Part.{left_of}
use Rattle.vx_order.proofs.Children.{last_can, last_left}
use Rattle.vx_order.proofs.ids.release_all.Goals as goal

pub release-requires : goal.release-requires
release-requires g c = (last_can (g.O.Order.active c.loop-id.order) c.loop-id.ids.items c.pop.new.self.items c.in-Some.id c.in-Some.ensures.items c.loop-id.invariant.can).0

pub loop-id-preserved : goal.loop-id-preserved
loop-id-preserved g c =
    let inv = c.loop-id.invariant in
    record {
      can = rw c.release.ensures.active (last_can (g.O.Order.active c.loop-id.order) c.loop-id.ids.items c.pop.new.self.items c.in-Some.id c.in-Some.ensures.items inv.can).1;
      active = ap (λ v. left_of v (reverse c.pop.new.self.items)) c.release.ensures.active
          ∙ last_left (g.O.Order.active c.loop-id.order) c.loop-id.ids.items c.pop.new.self.items c.in-Some.id c.in-Some.ensures.items ∙ inv.active;
      outlet = c.release.ensures.outlet ∙ inv.outlet;
      sink = c.release.ensures.sink ∙ inv.sink;
      may_write = λ p b h. c.release.ensures.may_write p b (inv.may_write p b h);
      borrow = c.release.ensures.borrow ∙ inv.borrow;
    }
