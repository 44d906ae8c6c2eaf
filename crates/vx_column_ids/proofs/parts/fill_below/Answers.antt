use Rattle.std.proofs.Common.{◌≡◌, map, OnOk, ap, subst, ◌∙◌, arith}
use Rattle.vx_path.specs.Path.{Eof, inside, next}
use Rattle.vx_machine_ids.specs.Stock.{none, end_stock}
use Rattle.vx_machine_ids.proofs.MoveLaws.{owned_left, owned_rest}
use Rattle.vx_column_ids.specs.Outsets.{column_outsets, outset_of, ends_stock}
use Rattle.vx_column_ids.proofs.Moves.{stream_owned, made_owned, turned, made_gone}
use Rattle.vx_column_ids.proofs.Pointers.{counted, as_many}
use Rattle.vx_column_ids.proofs.parts.fill_below.Goals as goal

pub take_below-requires-clause-room : goal.take_below-requires-clause-room
take_below-requires-clause-room c = omega (arith, ap (λ (e : Eof). e.last) c.requires.first)

pub batch_pointers-requires-clause-owned : goal.batch_pointers-requires-clause-owned
batch_pointers-requires-clause-owned c =
    made_owned c.args.universe.now c.take_below.new.universe (end_stock c.args.eof.now) (end_stock c.take_below.new.pointer) (end_stock c.in_ok-stream.stream) c.requires.owned c.in_ok-stream.ensures.moved

pub batch_pointers-requires-clause-first : goal.batch_pointers-requires-clause-first
batch_pointers-requires-clause-first c =
    let e = c.in_ok-stream.ensures.below ∙ ap inside c.requires.first in
    (ap (λ (z : Eof). z.stem) e, ap (λ (z : Eof). z.last) e)

pub part_times-made-requires-clause-owned : goal.part_times-made-requires-clause-owned
part_times-made-requires-clause-owned c =
    turned c.args.universe.now c.take_below.new.universe (end_stock c.args.eof.now) (end_stock c.take_below.new.pointer) (end_stock c.in_ok-stream.stream) c.requires.owned c.in_ok-stream.ensures.moved
    c.batch_pointers.new.universe (ends_stock c.in-Ok.pointers.items) c.in-Ok.ensures.moved

pub part_times-made-requires-clause-batches : goal.part_times-made-requires-clause-batches
part_times-made-requires-clause-batches c = counted c.in-Ok.pointers.items c.args.batches c.in-Ok.pointers.len c.in-Ok.ensures.ends c.in-Ok.pointers.ok.0

pub part_times-made-requires-clause-first : goal.part_times-made-requires-clause-first
part_times-made-requires-clause-first c = c.in_ok-stream.ensures.next ∙ ap next c.requires.first

pub give_up_pointers-requires : goal.give_up_pointers-requires
give_up_pointers-requires c = owned_left c.part_times-made.new.universe (ends_stock c.part_times-made.new.pointers.items) (end_stock c.part_times-made.new.eof) c.part_times-made.ensures.owned

pub returns-in-Ok-clause-owned : goal.returns-in-Ok-clause-owned
returns-in-Ok-clause-owned c =
    owned_rest c.part_times-made.new.universe c.give_up_pointers.new.universe (ends_stock c.part_times-made.new.pointers.items) (end_stock c.part_times-made.new.eof) c.part_times-made.ensures.owned c.give_up_pointers.ensures

pub returns-in-Err-clause-owned : goal.returns-in-Err-clause-owned
returns-in-Err-clause-owned c =
    made_gone c.args.universe.now c.take_below.new.universe (end_stock c.args.eof.now) (end_stock c.take_below.new.pointer) (end_stock c.in_ok-stream.stream) c.requires.owned c.in_ok-stream.ensures.moved
    c.batch_pointers.new.universe c.in-Err.ensures.moved

pub returns-in_err-stream-clause-owned : goal.returns-in_err-stream-clause-owned
returns-in_err-stream-clause-owned c =
    stream_owned c.args.universe.now c.take_below.new.universe (end_stock c.args.eof.now) (end_stock c.take_below.new.pointer) none c.requires.owned c.in_err-stream.ensures.moved

pub returns-in-Ok-clause-outsets : goal.returns-in-Ok-clause-outsets
returns-in-Ok-clause-outsets c =
    subst (λ k. OnOk c.part_times-made.result (map outset_of c.part_times-made.new.parts.items ≡ column_outsets c.args.count k))
    (as_many c.in-Ok.pointers.items c.args.batches c.in-Ok.pointers.len c.in-Ok.ensures.ends c.in-Ok.pointers.ok.0) c.part_times-made.ensures.outsets
