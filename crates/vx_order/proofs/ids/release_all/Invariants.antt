use Rattle.std.proofs.Common.{◌≡◌, ℕ, List, reverse, vec_len}
use Rattle.vx_sequence.specs.Part.{CanPart, left_of}
use Rattle.vx_order.proofs.ids.release_all.Given as goal

abbrev pub decreases-loop-id : goal.decreases-loop-id
decreases-loop-id g l = vec_len l.ids

-- what is left can be released, and leaves what all leave
abbrev pub invariant-loop-id : goal.invariant-loop-id
invariant-loop-id g l = record {
  can : CanPart (g.O.Order.active l.order) (reverse l.ids.items);
  active : left_of (g.O.Order.active l.order) (reverse l.ids.items) ≡ left_of (g.O.Order.active l.initial.order) (reverse l.initial.ids.items);
  outlet : g.O.Order.outlet l.order ≡ g.O.Order.outlet l.initial.order;
  sink : g.O.Order.sink l.order ≡ g.O.Order.sink l.initial.order;
  may_write : (p b : List ℕ) → g.O.Order.may_write l.initial.order p b → g.O.Order.may_write l.order p b;
  borrow : g.O.Order.borrow l.order ≡ g.O.Order.borrow l.initial.order;
}
