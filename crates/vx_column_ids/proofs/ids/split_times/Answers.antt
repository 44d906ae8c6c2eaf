use Rattle.std.proofs.Common.{◌+◌, List, length, sym, ap, subst, ◌∙◌, arith}
use Rattle.vx_path.specs.Path.{Eof}
use Rattle.vx_sequence.specs.Universe.{Active}
use Rattle.vx_machine_ids.specs.Stock.{both, end_stock}
use Rattle.vx_machine_ids.specs.Balance.{Moved}
use Rattle.vx_machine_ids.proofs.MoveLaws.{moved_then, owned_now, owned_left}
use Rattle.vx_column_ids.specs.Outsets.{ends_stock}
use Rattle.vx_column_ids.proofs.Moves.{put_behind, put_nothing, empty_owned, empty_moved}
use Rattle.vx_column_ids.proofs.Pointers.{batch_more}
use Rattle.vx_column_ids.proofs.ids.split_times.Goals as goal

pub take_below-requires-clause-owned : goal.take_below-requires-clause-owned
take_below-requires-clause-owned c = owned_left c.pointers.universe (end_stock c.pointers.stream) (ends_stock c.pointers.pointers.items) c.pointers.invariant.owned

pub pointers-init : goal.pointers-init
pointers-init c = record {
  owned = empty_owned end_stock c.args.universe.now (end_stock c.args.stream.now) c.args.pointers.now.items c.requires.none c.requires.owned;
  moved = empty_moved end_stock c.args.universe.now (end_stock c.args.stream.now) c.args.pointers.now.items c.requires.none c.requires.owned;
  stem = c.requires.first.0;
  last = c.requires.first.1;
  ends = c.requires.none;
  count = omega (arith, c.args.pointers.now.ok.0, ap length c.requires.none);
  room = c.requires.room;
}

pub pointers-preserved : goal.pointers-preserved
pointers-preserved c =
    let inv = c.pointers.invariant in
    let made = c.in_ok-pointer.ensures in
    let u : Active = c.pointers.universe in
    let v : Active = c.take_below.new.universe in
    let ps : List Eof = c.pointers.pointers.items in
    let s = both (end_stock c.pointers.stream) (ends_stock ps) in
    let t = both (end_stock c.take_below.new.pointer) (ends_stock c.push_reserved.new.self.items) in
    let n : Moved u v s t = subst (λ xs. Moved u v s (both (end_stock c.take_below.new.pointer) (ends_stock xs))) (sym c.push_reserved.ensures.items)
    (put_behind end_stock u v (end_stock c.pointers.stream) (end_stock c.take_below.new.pointer) ps c.in_ok-pointer.pointer inv.owned made.moved) in
    record {
      owned = owned_now u v s t inv.owned n;
      moved = moved_then c.args.universe.now u v (end_stock c.args.stream.now) s t inv.moved n;
      stem = ap (λ (e : Eof). e.stem) made.next ∙ inv.stem;
      last = ap (λ (e : Eof). e.last) made.next ∙ ap (λ n. n + 1) inv.last;
      ends = c.push_reserved.ensures.items ∙ batch_more ps c.pointers._i c.pointers.stream c.in_ok-pointer.pointer inv.ends inv.stem inv.last made.below;
      count = omega (arith, c.push_reserved.ensures.len, inv.count);
      room = omega (arith, c.push_reserved.ensures.capacity, inv.room);
    }

pub returns-in_err-pointer-clause-moved : goal.returns-in_err-pointer-clause-moved
returns-in_err-pointer-clause-moved c =
    moved_then c.args.universe.now c.pointers.universe c.take_below.new.universe (end_stock c.args.stream.now) (both (end_stock c.pointers.stream) (ends_stock c.pointers.pointers.items))
    (both (end_stock c.take_below.new.pointer) (ends_stock c.pointers.pointers.items)) c.pointers.invariant.moved
    (put_nothing c.pointers.universe c.take_below.new.universe (end_stock c.pointers.stream) (end_stock c.take_below.new.pointer) (ends_stock c.pointers.pointers.items) c.pointers.invariant.owned c.in_err-pointer.ensures.moved)
