use Rattle.std.proofs.Common.{◌≡◌, ℕ, List, true, vec_len, vec_capacity, ◌≤◌}
use Rattle.std.specs.FinMap as map
use Rattle.vx_path.specs.Path.{eof_path}
use Rattle.vx_sequence.specs.Universe.{Active, IsOpen}
use Rattle.vx_order.specs.Ids.{children, with_children}
use Rattle.vx_order.proofs.ids.advance_times.Given as goal

-- so many ids are made, and the pointer stands behind them
abbrev pub invariant-loop-i : goal.invariant-loop-i
invariant-loop-i g l = record {
  ids : l.ids.items ≡ children l.initial.pointer.stem l._i;
  len : vec_len l.ids ≡ l._i;
  room : l.count ≤ vec_capacity l.ids;
  stem : l.pointer.stem ≡ l.initial.pointer.stem;
  last : l.pointer.last ≡ l._i;
  is_open : IsOpen (g.O.Order.active l.order) (eof_path l.pointer);
  active : (u : Active) → g.O.Order.active l.initial.order ≡ map.insert u (eof_path l.initial.pointer) true
      → g.O.Order.active l.order ≡ map.insert (with_children u l.initial.pointer.stem l._i) (eof_path l.pointer) true;
  outlet : g.O.Order.outlet l.order ≡ g.O.Order.outlet l.initial.order;
  sink : g.O.Order.sink l.order ≡ g.O.Order.sink l.initial.order;
  may_write : (p b : List ℕ) → g.O.Order.may_write l.initial.order p b → g.O.Order.may_write l.order p b;
  borrow : g.O.Order.borrow l.order ≡ g.O.Order.borrow l.initial.order;
}
