use Rattle.std.proofs.Common.{◌<◌, ◌≤◌, length, set, refl, sym, ap, subst, ◌∙◌, arith}
use Rattle.vx_path.specs.Path.{Eof}
use Rattle.vx_sequence.specs.Universe.{Active}
use Rattle.vx_machine_ids.specs.Stock.{both, id_stock, end_stock, ids_stock}
use Rattle.vx_machine_ids.specs.Balance.{Moved}
use Rattle.vx_machine_ids.proofs.MoveLaws.{moved_then, owned_now, owned_left}
use Rattle.vx_machine_ids.proofs.Lists.{at_owned}
use Rattle.vx_column_ids.specs.Outsets.{ends_stock}
use Rattle.vx_column_ids.proofs.Moves.{id_at, no_id_at, empty_owned, empty_moved}
use Rattle.vx_column_ids.proofs.Pointers.{fits_at, one_on, one_given, all_on, all_given}
use Rattle.vx_column_ids.proofs.ids.next_ids.Goals as goal

pub take_id-requires-clause-owned : goal.take_id-requires-clause-owned
take_id-requires-clause-owned c =
    let h : c.ids.i < length c.ids.pointers.items = omega (arith, c.ids.pointers.ok.0, c.ids.invariant.count) in
    at_owned end_stock c.ids.universe c.ids.pointers.items c.ids.i c.index_mut.result.now h (sym c.index_mut.ensures.value)
    (owned_left c.ids.universe (ends_stock c.ids.pointers.items) (ids_stock c.ids.ids.items) c.ids.invariant.owned)

pub take_id-requires-clause-room : goal.take_id-requires-clause-room
take_id-requires-clause-room c =
    let h : c.ids.i < length c.args.pointers.now.items = omega (arith, c.args.pointers.now.ok.0) in
    fits_at c.args.pointers.now.items c.ids.pointers.items c.ids.i c.index_mut.result.now c.ids.invariant.ends h (sym c.index_mut.ensures.value) c.requires.before

pub ids-init : goal.ids-init
ids-init c = record {
  owned = empty_owned id_stock c.args.universe.now (ends_stock c.args.pointers.now.items) c.args.ids.now.items c.requires.none c.requires.owned;
  moved = empty_moved id_stock c.args.universe.now (ends_stock c.args.pointers.now.items) c.args.ids.now.items c.requires.none c.requires.owned;
  ends = refl;
  given = c.requires.none;
  count = refl;
  made = omega (arith, c.args.ids.now.ok.0, ap length c.requires.none);
  room = c.requires.room;
}

pub ids-preserved : goal.ids-preserved
ids-preserved c =
    let inv = c.ids.invariant in
    let h : c.ids.i < length c.ids.pointers.items = omega (arith, c.ids.pointers.ok.0, inv.count) in
    let k : c.ids.i < length c.args.pointers.now.items = omega (arith, c.args.pointers.now.ok.0) in
    let e : Eof = c.index_mut.result.now in
    let v : Active = c.take_id.new.universe in
    let m = id_at c.ids.universe v c.ids.pointers.items c.ids.i e c.take_id.new.pointer c.in_ok-id.id c.ids.ids.items h (sym c.index_mut.ensures.value) inv.owned c.in_ok-id.ensures.moved in
    let n = subst (λ xs. Moved c.ids.universe v (both (ends_stock c.ids.pointers.items) (ids_stock c.ids.ids.items)) (both (ends_stock (set c.ids.pointers.items c.ids.i c.take_id.new.pointer)) (ids_stock xs))) (sym c.push_reserved.ensures.items) m in
    record {
      owned = owned_now c.ids.universe v (both (ends_stock c.ids.pointers.items) (ids_stock c.ids.ids.items)) _ inv.owned n;
      moved = moved_then c.args.universe.now c.ids.universe v (ends_stock c.args.pointers.now.items) (both (ends_stock c.ids.pointers.items) (ids_stock c.ids.ids.items)) _ inv.moved n;
      ends = one_on c.args.pointers.now.items c.ids.pointers.items c.ids.i e inv.ends k (sym c.index_mut.ensures.value) c.take_id.new.pointer c.in_ok-id.ensures.next;
      given = c.push_reserved.ensures.items ∙ one_given c.args.pointers.now.items c.ids.pointers.items c.ids.i e inv.ends k (sym c.index_mut.ensures.value) c.ids.ids.items c.in_ok-id.id inv.given c.in_ok-id.ensures.id;
      count = inv.count;
      made = omega (arith, c.push_reserved.ensures.len, inv.made);
      room = omega (arith, c.push_reserved.ensures.capacity, inv.room);
    }

pub returns-in_err-id-clause-moved : goal.returns-in_err-id-clause-moved
returns-in_err-id-clause-moved c =
    let h : c.ids.i < length c.ids.pointers.items = omega (arith, c.ids.pointers.ok.0, c.ids.invariant.count) in
    moved_then c.args.universe.now c.ids.universe c.take_id.new.universe (ends_stock c.args.pointers.now.items) (both (ends_stock c.ids.pointers.items) (ids_stock c.ids.ids.items))
    (both (ends_stock (set c.ids.pointers.items c.ids.i c.take_id.new.pointer)) (ids_stock c.ids.ids.items)) c.ids.invariant.moved
    (no_id_at c.ids.universe c.take_id.new.universe c.ids.pointers.items c.ids.i c.index_mut.result.now c.take_id.new.pointer c.ids.ids.items h (sym c.index_mut.ensures.value) c.ids.invariant.owned c.in_err-id.ensures.moved)

pub returns-clause-ids : goal.returns-clause-ids
returns-clause-ids c =
    let h : length c.args.pointers.now.items ≤ c.ids.i = omega (arith, c.args.pointers.now.ok.0) in
    all_given c.args.pointers.now.items c.ids.ids.items c.ids.i h c.ids.invariant.given

pub returns-clause-next : goal.returns-clause-next
returns-clause-next c =
    let h : length c.args.pointers.now.items ≤ c.ids.i = omega (arith, c.args.pointers.now.ok.0) in
    all_on c.args.pointers.now.items c.ids.pointers.items c.ids.i h c.ids.invariant.ends
