use Rattle.std.proofs.Common.{ℕ, ◌+◌, List, [], ◌∷◌, ◌++◌, true, ap, sym, subst, ◌∙◌, arith}
use Rattle.std.specs.FinMap as map
use Rattle.vx_path.specs.Path.{Eof, eof_path}
use Rattle.vx_sequence.specs.Universe.{IsOpen, advanced}
use Rattle.vx_sequence.proofs.Uses.{advanced_next}
use Rattle.vx_order.specs.Ids.{with_children}
use Rattle.vx_order.proofs.Children.{children_more, one_more_child}
use Rattle.vx_order.proofs.ids.advance_times.Goals as goal

pub loop-i-preserved : goal.loop-i-preserved
loop-i-preserved g c =
    let inv = c.loop-i.invariant in
    let made = c.in_ok-id.ensures in
    record {
      ids = c.push_reserved.ensures.items ∙ ap (λ (x : List ℕ). c.loop-i.ids.items ++ (x ∷ [])) made.id
          ∙ children_more c.args.pointer.now.stem c.loop-i._i c.loop-i.ids.items c.loop-i.pointer inv.ids inv.stem inv.last;
      len = omega (arith, c.push_reserved.ensures.len, inv.len);
      room = omega (arith, c.push_reserved.ensures.capacity, inv.room);
      stem = ap (λ (e : Eof). e.stem) made.pointer ∙ inv.stem;
      last = ap (λ (e : Eof). e.last) made.pointer ∙ ap (λ n. n + 1) inv.last;
      is_open = subst (λ v. IsOpen v (eof_path c.advance.new.p)) (sym made.active)
          (subst (λ (e : Eof). IsOpen (advanced (g.O.Order.active c.loop-i.order) c.loop-i.pointer) (eof_path e)) (sym made.pointer)
          (advanced_next (g.O.Order.active c.loop-i.order) c.loop-i.pointer));
      active = λ u h. made.active ∙ ap (λ v. advanced v c.loop-i.pointer) (inv.active u h)
          ∙ one_more_child u c.args.pointer.now.stem c.loop-i._i c.loop-i.pointer inv.stem inv.last
          ∙ ap (λ (e : Eof). map.insert (with_children u c.args.pointer.now.stem (c.loop-i._i + 1)) (eof_path e) true) (sym made.pointer);
      outlet = c.advance.ensures.outlet ∙ inv.outlet;
      sink = c.advance.ensures.sink ∙ inv.sink;
      may_write = λ p b h. c.advance.ensures.may_write p b (inv.may_write p b h);
      borrow = c.advance.ensures.borrow ∙ inv.borrow;
    }
