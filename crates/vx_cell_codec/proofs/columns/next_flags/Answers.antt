use Rattle.std.proofs.lemmas.Result.{err_from_is_err_and}
use Rattle.vx_byte_reader.specs.Fields.{flag_at, many_at}
use Rattle.vx_byte_reader.proofs.FieldLoops.{many_goes_on, many_done}
use Rattle.vx_cell_codec.proofs.Loops.{many_ends}
use Rattle.vx_cell_codec.proofs.columns.next_flags.Goals as goal

pub returns-in_err-flag : goal.returns-in_err-flag
returns-in_err-flag c =
    let p = err_from_is_err_and c.from_residual.result c.from_residual.ensures.1 in
    rw (p.1, p.2) (many_ends c.in_err-flag.field-0.0 flag_at c.loop.flags.items c.args.rows c.loop.counter c.loop.rest.now (many_at flag_at c.args.rows c.args.bytes.now) c.loop-test.true c.in_err-flag.ensures c.loop.invariant)

pub loop-preserved : goal.loop-preserved
loop-preserved c =
    rw c.in_ok-push.ensures.items (many_goes_on flag_at c.loop.flags.items c.args.rows c.loop.counter c.loop.rest.now c.in_ok-flag.flag c.in_ok-flag.after.now (many_at flag_at c.args.rows c.args.bytes.now) c.loop-test.true c.in_ok-flag.ensures c.loop.invariant)

pub returns : goal.returns
returns c = many_done flag_at c.loop.flags.items c.args.rows c.loop.counter c.loop.rest.now (many_at flag_at c.args.rows c.args.bytes.now) c.loop-test.false c.loop.invariant
