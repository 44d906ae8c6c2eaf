use Rattle.std.proofs.Common.{sym, ◌∙◌, ap, rules}
use Rattle.vx_write.proofs.LentSteps.{first_told, second_told}
use Rattle.vx_write.proofs.write.write_stream.Goals as goal

pub returns-in-Ok-clause-wrote : goal.returns-in-Ok-clause-wrote
returns-in-Ok-clause-wrote g c =
    rw (c.sink-1.given.1 (sym (first_told c.write_tasks-written.result.1.sink.ghost_name (g.S.SegmentSink.borrow c.write_tasks-written.result.1.sink.now) c.lent-1.given (g.S.SegmentSink.borrow c.args.sink.now) c.write_tasks-written.ensures.borrow))) (rw c.in-Ok.is at c.write_tasks-written.ensures.wrote)

pub returns-in-Ok-clause-readable : goal.returns-in-Ok-clause-readable
returns-in-Ok-clause-readable g c = rw c.in-Ok.is at c.write_tasks-written.ensures.readable

pub returns-in-Ok-clause-appended : goal.returns-in-Ok-clause-appended
returns-in-Ok-clause-appended g c =
    rw (c.sink-1.given.1 (sym (first_told c.write_tasks-written.result.1.sink.ghost_name (g.S.SegmentSink.borrow c.write_tasks-written.result.1.sink.now) c.lent-1.given (g.S.SegmentSink.borrow c.args.sink.now) c.write_tasks-written.ensures.borrow))) c.write_tasks-written.ensures.appended

pub returns-in-Ok-clause-last : goal.returns-in-Ok-clause-last
returns-in-Ok-clause-last g c =
    rw (c.sink-1.given.1 (sym (first_told c.write_tasks-written.result.1.sink.ghost_name (g.S.SegmentSink.borrow c.write_tasks-written.result.1.sink.now) c.lent-1.given (g.S.SegmentSink.borrow c.args.sink.now) c.write_tasks-written.ensures.borrow))) c.write_tasks-written.ensures.last

pub returns-in-Ok-clause-sink : goal.returns-in-Ok-clause-sink
returns-in-Ok-clause-sink g c =
    rw (c.sink-1.given.1 (sym (first_told c.write_tasks-written.result.1.sink.ghost_name (g.S.SegmentSink.borrow c.write_tasks-written.result.1.sink.now) c.lent-1.given (g.S.SegmentSink.borrow c.args.sink.now) c.write_tasks-written.ensures.borrow))) (search rules)

pub returns-in-Ok-clause-same : goal.returns-in-Ok-clause-same
returns-in-Ok-clause-same g c =
    (c.write_tasks-written.ensures.same.0, c.write_tasks-written.ensures.same.1, ap g.S.SegmentSink.borrow (c.sink-1.given.1 (sym (first_told c.write_tasks-written.result.1.sink.ghost_name (g.S.SegmentSink.borrow c.write_tasks-written.result.1.sink.now) c.lent-1.given (g.S.SegmentSink.borrow c.args.sink.now) c.write_tasks-written.ensures.borrow))) ∙ second_told c.write_tasks-written.result.1.sink.ghost_name (g.S.SegmentSink.borrow c.write_tasks-written.result.1.sink.now) c.lent-1.given (g.S.SegmentSink.borrow c.args.sink.now) c.write_tasks-written.ensures.borrow, c.write_tasks-written.ensures.same.2)

pub returns-in-Err-clause-halted : goal.returns-in-Err-clause-halted
returns-in-Err-clause-halted g c =
    rw (c.sink-1.given.1 (sym (first_told c.write_tasks-written.result.1.sink.ghost_name (g.S.SegmentSink.borrow c.write_tasks-written.result.1.sink.now) c.lent-1.given (g.S.SegmentSink.borrow c.args.sink.now) c.write_tasks-written.ensures.borrow))) (rw c.in-Err.is at c.write_tasks-written.ensures.halted)

pub returns-in-Err-clause-appended : goal.returns-in-Err-clause-appended
returns-in-Err-clause-appended g c =
    rw (c.sink-1.given.1 (sym (first_told c.write_tasks-written.result.1.sink.ghost_name (g.S.SegmentSink.borrow c.write_tasks-written.result.1.sink.now) c.lent-1.given (g.S.SegmentSink.borrow c.args.sink.now) c.write_tasks-written.ensures.borrow))) c.write_tasks-written.ensures.appended

pub returns-in-Err-clause-last : goal.returns-in-Err-clause-last
returns-in-Err-clause-last g c =
    rw (c.sink-1.given.1 (sym (first_told c.write_tasks-written.result.1.sink.ghost_name (g.S.SegmentSink.borrow c.write_tasks-written.result.1.sink.now) c.lent-1.given (g.S.SegmentSink.borrow c.args.sink.now) c.write_tasks-written.ensures.borrow))) c.write_tasks-written.ensures.last

pub returns-in-Err-clause-sink : goal.returns-in-Err-clause-sink
returns-in-Err-clause-sink g c =
    rw (c.sink-1.given.1 (sym (first_told c.write_tasks-written.result.1.sink.ghost_name (g.S.SegmentSink.borrow c.write_tasks-written.result.1.sink.now) c.lent-1.given (g.S.SegmentSink.borrow c.args.sink.now) c.write_tasks-written.ensures.borrow))) (search rules)

pub returns-in-Err-clause-complete : goal.returns-in-Err-clause-complete
returns-in-Err-clause-complete g c =
    rw (c.sink-1.given.1 (sym (first_told c.write_tasks-written.result.1.sink.ghost_name (g.S.SegmentSink.borrow c.write_tasks-written.result.1.sink.now) c.lent-1.given (g.S.SegmentSink.borrow c.args.sink.now) c.write_tasks-written.ensures.borrow))) (rw c.in-Err.is at c.write_tasks-written.ensures.complete)

pub returns-in-Err-clause-same : goal.returns-in-Err-clause-same
returns-in-Err-clause-same g c =
    (c.write_tasks-written.ensures.same.0, c.write_tasks-written.ensures.same.1, ap g.S.SegmentSink.borrow (c.sink-1.given.1 (sym (first_told c.write_tasks-written.result.1.sink.ghost_name (g.S.SegmentSink.borrow c.write_tasks-written.result.1.sink.now) c.lent-1.given (g.S.SegmentSink.borrow c.args.sink.now) c.write_tasks-written.ensures.borrow))) ∙ second_told c.write_tasks-written.result.1.sink.ghost_name (g.S.SegmentSink.borrow c.write_tasks-written.result.1.sink.now) c.lent-1.given (g.S.SegmentSink.borrow c.args.sink.now) c.write_tasks-written.ensures.borrow, c.write_tasks-written.ensures.same.2)
