use Rattle.std.proofs.Common.{◌≡◌, ◌-◌, suc, arith}
use Rattle.std.proofs.lemmas.Result.{err_from_is_err_and}
use Rattle.vx_byte_reader.specs.Fields.{many_at}
use Rattle.vx_cell_codec.specs.Reading.{number_at}
use Rattle.vx_byte_reader.proofs.FieldLoops.{many_goes_on, many_done}
use Rattle.vx_cell_codec.proofs.Loops.{many_ends}
use Rattle.vx_cell_codec.proofs.ColumnLaws.{first_of_many}
use Rattle.vx_cell_codec.proofs.columns.next_offsets.Goals as goal

pub returns-in_err-offset : goal.returns-in_err-offset
returns-in_err-offset c =
    let p = err_from_is_err_and c.from_residual-in_err-offset.result c.from_residual-in_err-offset.ensures.1 in
    rw (p.1, p.2) (many_ends c.in_err-offset.field-0.0 number_at c.loop.offsets.items c.args.rows c.loop.counter c.loop.rest.now (many_at number_at (suc c.args.rows) c.args.bytes.now) c.loop-test.true c.in_err-offset.ensures c.loop.invariant)

pub loop-preserved : goal.loop-preserved
loop-preserved c =
    rw c.in_ok-push-2.ensures.items (many_goes_on number_at c.loop.offsets.items c.args.rows c.loop.counter c.loop.rest.now c.in_ok-offset.offset c.in_ok-offset.after.now (many_at number_at (suc c.args.rows) c.args.bytes.now) c.loop-test.true c.in_ok-offset.ensures c.loop.invariant)

pub returns : goal.returns
returns c = many_done number_at c.loop.offsets.items c.args.rows c.loop.counter c.loop.rest.now (many_at number_at (suc c.args.rows) c.args.bytes.now) c.loop-test.false c.loop.invariant

pub loop-init : goal.loop-init
loop-init c =
    let less : c.args.rows - 0 ≡ c.args.rows = omega arith in
    rw (c.in_ok-push.ensures.items, c.new-offsets.ensures.items, less) (first_of_many number_at c.args.rows c.args.bytes.now c.in_ok-first.first c.in_ok-first.rest.now c.in_ok-first.ensures)
