use Rattle.std.proofs.lemmas.Result.{err_from_is_err_and}
use Rattle.std.specs.Int.{w64}
use Rattle.vx_byte_reader.specs.Places.{many_at}
use Rattle.vx_segment_spec.specs.Reading.{number_at}
use Rattle.vx_byte_reader.proofs.PlaceLoops.{many_goes_on, many_done}
use Rattle.vx_segment_reader.proofs.Loops.{many_ends}
use Rattle.vx_segment_reader.proofs.tree.lengths_at.Goals as goal

pub returns-in_err-length : goal.returns-in_err-length
returns-in_err-length c =
    let p = err_from_is_err_and c.from_residual.result c.from_residual.ensures.1 in
    rw (p.1, p.2) (many_ends c.in_err-length.field-0.0 (number_at w64 c.args.stop) c.loop.lengths.items c.args.count c.loop.counter c.loop.rest.now (many_at (number_at w64 c.args.stop) c.args.count c.args.bytes.now) c.loop-test.true c.in_err-length.ensures c.loop.invariant)

pub loop-preserved : goal.loop-preserved
loop-preserved c =
    rw c.in_ok-push.ensures.items (many_goes_on (number_at w64 c.args.stop) c.loop.lengths.items c.args.count c.loop.counter c.loop.rest.now c.in_ok-length.length c.in_ok-length.after.now (many_at (number_at w64 c.args.stop) c.args.count c.args.bytes.now) c.loop-test.true c.in_ok-length.ensures c.loop.invariant)

pub returns : goal.returns
returns c = many_done (number_at w64 c.args.stop) c.loop.lengths.items c.args.count c.loop.counter c.loop.rest.now (many_at (number_at w64 c.args.stop) c.args.count c.args.bytes.now) c.loop-test.false c.loop.invariant
