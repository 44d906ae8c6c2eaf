use Rattle.std.proofs.Common.{◌≡◌, ◌∙◌, ◌<◌, length, vec_len, sym, subst}
use Rattle.vx_model.specs.TyView.{ty}
use Rattle.vx_layout_tree.specs.LayoutView.{layout_data}
use Rattle.vx_write_columns.specs.Shared.{StandsBy}
use Rattle.vx_write_columns.proofs.Rows.{all_may, all_ended}
use Rattle.vx_write_columns.proofs.Closing.{rows_left, closed, own_or_all, kinds_back, all_back, none_failed, stands_by, shared_done, shared_stopped, failed_so}
use Rattle.vx_write_columns.proofs.write.write_beside.Goals as goal

pub run_workers-requires-clause-may : goal.run_workers-requires-clause-may
run_workers-requires-clause-may g c κs within =
    all_may (λ w. w.job) (λ w. w.done) g.P.Pairs.pairs g.C.CompressorPlugin.image g.C.CompressorPlugin.kind 0 c.args.inputs.items c.args.parts.items c.args.staff.compressors.items c.hire-workers.result.items
    c.hire-workers.ensures.jobs c.requires.fits c.hire-workers.ensures.free

pub dismiss-requires-clause-ended : goal.dismiss-requires-clause-ended
dismiss-requires-clause-ended g c =
    let many : length c.args.parts.items ≡ length c.args.inputs.items = sym c.args.parts.ok.0 ∙ c.requires.parts ∙ c.args.inputs.ok.0 in
    let same : length c.args.staff.compressors.items ≡ length c.args.inputs.items = sym c.args.staff.compressors.ok.0 ∙ c.requires.count.2.2 ∙ c.args.inputs.ok.0 in
    let r = rows_left g.C.CompressorPlugin.image g.C.CompressorPlugin.kind g.C.Fallible.faults g.C.Fallible.may_fail g.P.Pairs.first (length g.P.Pairs.pairs) (λ w. w.job) (λ w. w.done) (λ w. w.seat)
    (λ s. record { writes = s.writes.amount; faults = s.faults.amount; made = s.made.amount; seen = s.seen.amount }) g.P.Pairs.pairs c.args.inputs.items c.args.parts.items c.args.staff.compressors.items
    c.hire-workers.result.items c.run_workers.new.workers.items c.args.staff.seats.items many same c.hire-workers.ensures.jobs c.requires.fits c.hire-workers.ensures.seats c.requires.none c.run_workers.ensures.each in
    all_ended (λ w. w.job) (λ w. w.done) c.run_workers.new.workers.items r.rows r.dones r.ended

pub joined-requires-clause-own : goal.joined-requires-clause-own
joined-requires-clause-own g c =
    let many : length c.args.parts.items ≡ length c.args.inputs.items = sym c.args.parts.ok.0 ∙ c.requires.parts ∙ c.args.inputs.ok.0 in
    let same : length c.args.staff.compressors.items ≡ length c.args.inputs.items = sym c.args.staff.compressors.ok.0 ∙ c.requires.count.2.2 ∙ c.args.inputs.ok.0 in
    let k = closed g.C.CompressorPlugin.image g.C.CompressorPlugin.kind g.C.Fallible.faults g.C.Fallible.may_fail g.P.Pairs.first (length g.P.Pairs.pairs) (λ w. w.job) (λ w. w.done) (λ w. w.seat)
    (λ s. record { writes = s.writes.amount; faults = s.faults.amount; made = s.made.amount; seen = s.seen.amount }) g.P.Pairs.pairs c.args.inputs.items c.args.parts.items c.args.staff.compressors.items
    c.hire-workers.result.items c.run_workers.new.workers.items c.args.staff.seats.items many same c.hire-workers.ensures.jobs c.requires.fits c.hire-workers.ensures.seats c.requires.none c.run_workers.ensures.each
    c.dismiss.new.staff.seats.items c.dismiss.new.staff.compressors.items c.dismiss.new.staff.outcomes.items c.dismiss.ensures.seats c.dismiss.ensures.compressors c.dismiss.ensures.outcomes in
    let count : vec_len c.dismiss.new.staff.seats ≡ vec_len c.args.inputs = c.dismiss.ensures.count.0 ∙ c.run_workers.ensures.count ∙ c.hire-workers.ensures.count in
    let some : 0 < vec_len c.dismiss.new.staff.seats = subst (λ z. 0 < z) (sym count) c.requires.count.1 in
    own_or_all g.C.CompressorPlugin.kind g.C.Fallible.faults g.C.Fallible.may_fail g.P.Pairs.first g.P.Pairs.pairs _ c.args.staff.compressors.items c.dismiss.new.staff.compressors.items c.dismiss.new.staff.outcomes.items _ _ _ _ k (c.close-sink.ensures.stops (count ∙ sym c.requires.ledgers.2))

pub returns-in-Ok-clause-done : goal.returns-in-Ok-clause-done
returns-in-Ok-clause-done g c =
    let many : length c.args.parts.items ≡ length c.args.inputs.items = sym c.args.parts.ok.0 ∙ c.requires.parts ∙ c.args.inputs.ok.0 in
    let same : length c.args.staff.compressors.items ≡ length c.args.inputs.items = sym c.args.staff.compressors.ok.0 ∙ c.requires.count.2.2 ∙ c.args.inputs.ok.0 in
    let k = closed g.C.CompressorPlugin.image g.C.CompressorPlugin.kind g.C.Fallible.faults g.C.Fallible.may_fail g.P.Pairs.first (length g.P.Pairs.pairs) (λ w. w.job) (λ w. w.done) (λ w. w.seat)
    (λ s. record { writes = s.writes.amount; faults = s.faults.amount; made = s.made.amount; seen = s.seen.amount }) g.P.Pairs.pairs c.args.inputs.items c.args.parts.items c.args.staff.compressors.items
    c.hire-workers.result.items c.run_workers.new.workers.items c.args.staff.seats.items many same c.hire-workers.ensures.jobs c.requires.fits c.hire-workers.ensures.seats c.requires.none c.run_workers.ensures.each
    c.dismiss.new.staff.seats.items c.dismiss.new.staff.compressors.items c.dismiss.new.staff.outcomes.items c.dismiss.ensures.seats c.dismiss.ensures.compressors c.dismiss.ensures.outcomes in
    let count : vec_len c.dismiss.new.staff.seats ≡ vec_len c.args.inputs = c.dismiss.ensures.count.0 ∙ c.run_workers.ensures.count ∙ c.hire-workers.ensures.count in
    let some : 0 < vec_len c.dismiss.new.staff.seats = subst (λ z. 0 < z) (sym count) c.requires.count.1 in
    let stands : StandsBy g.P.Pairs.pairs g.P.Pairs.first (g.S.SegmentSink.next c.close-sink.result.0) g.P.Pairs.told (g.S.SegmentSink.segments c.close-sink.result.0) c.close-sink.result.1.items
    = stands_by g.P.Pairs.pairs g.P.Pairs.first _ g.P.Pairs.told _ c.close-sink.result.1.items c.as_slice.result.now c.close-sink.ensures.ascends c.close-sink.ensures.listed c.close-sink.ensures.numbers c.close-sink.ensures.next c.close-sink.ensures.told
    c.as_slice.ensures.value c.numbers_fit.ensures in
    shared_done g.C.CompressorPlugin.kind g.C.Fallible.faults g.C.Fallible.may_fail g.P.Pairs.first g.P.Pairs.pairs _ c.args.staff.compressors.items c.dismiss.new.staff.compressors.items c.dismiss.new.staff.outcomes.items _ _ _ _ k c.in-Ok.ensures.all _ _ _ (ty c.args.dtype) c.args.rows (layout_data c.in-Ok.layout) c.close-sink.result.1.items stands c.requires.all
    (c.close-sink.ensures.whole some (count ∙ sym c.requires.ledgers.0)) c.in-Ok.ensures.laid

pub returns-in-Ok-clause-kept : goal.returns-in-Ok-clause-kept
returns-in-Ok-clause-kept g c =
    let many : length c.args.parts.items ≡ length c.args.inputs.items = sym c.args.parts.ok.0 ∙ c.requires.parts ∙ c.args.inputs.ok.0 in
    let same : length c.args.staff.compressors.items ≡ length c.args.inputs.items = sym c.args.staff.compressors.ok.0 ∙ c.requires.count.2.2 ∙ c.args.inputs.ok.0 in
    let k = closed g.C.CompressorPlugin.image g.C.CompressorPlugin.kind g.C.Fallible.faults g.C.Fallible.may_fail g.P.Pairs.first (length g.P.Pairs.pairs) (λ w. w.job) (λ w. w.done) (λ w. w.seat)
    (λ s. record { writes = s.writes.amount; faults = s.faults.amount; made = s.made.amount; seen = s.seen.amount }) g.P.Pairs.pairs c.args.inputs.items c.args.parts.items c.args.staff.compressors.items
    c.hire-workers.result.items c.run_workers.new.workers.items c.args.staff.seats.items many same c.hire-workers.ensures.jobs c.requires.fits c.hire-workers.ensures.seats c.requires.none c.run_workers.ensures.each
    c.dismiss.new.staff.seats.items c.dismiss.new.staff.compressors.items c.dismiss.new.staff.outcomes.items c.dismiss.ensures.seats c.dismiss.ensures.compressors c.dismiss.ensures.outcomes in
    let count : vec_len c.dismiss.new.staff.seats ≡ vec_len c.args.inputs = c.dismiss.ensures.count.0 ∙ c.run_workers.ensures.count ∙ c.hire-workers.ensures.count in
    let some : 0 < vec_len c.dismiss.new.staff.seats = subst (λ z. 0 < z) (sym count) c.requires.count.1 in
    (c.close-sink.ensures.quiet some (count ∙ sym c.requires.ledgers.1) (none_failed g.C.CompressorPlugin.kind g.C.Fallible.faults g.C.Fallible.may_fail g.P.Pairs.first g.P.Pairs.pairs _ c.args.staff.compressors.items c.dismiss.new.staff.compressors.items c.dismiss.new.staff.outcomes.items _ _ _ _ k c.in-Ok.ensures.all), all_back g.C.CompressorPlugin.kind g.C.Fallible.faults g.C.Fallible.may_fail g.P.Pairs.first g.P.Pairs.pairs _ c.args.staff.compressors.items c.dismiss.new.staff.compressors.items c.dismiss.new.staff.outcomes.items _ _ _ _ k c.in-Ok.ensures.all)

pub returns-in-Ok-clause-back : goal.returns-in-Ok-clause-back
returns-in-Ok-clause-back g c =
    let many : length c.args.parts.items ≡ length c.args.inputs.items = sym c.args.parts.ok.0 ∙ c.requires.parts ∙ c.args.inputs.ok.0 in
    let same : length c.args.staff.compressors.items ≡ length c.args.inputs.items = sym c.args.staff.compressors.ok.0 ∙ c.requires.count.2.2 ∙ c.args.inputs.ok.0 in
    let k = closed g.C.CompressorPlugin.image g.C.CompressorPlugin.kind g.C.Fallible.faults g.C.Fallible.may_fail g.P.Pairs.first (length g.P.Pairs.pairs) (λ w. w.job) (λ w. w.done) (λ w. w.seat)
    (λ s. record { writes = s.writes.amount; faults = s.faults.amount; made = s.made.amount; seen = s.seen.amount }) g.P.Pairs.pairs c.args.inputs.items c.args.parts.items c.args.staff.compressors.items
    c.hire-workers.result.items c.run_workers.new.workers.items c.args.staff.seats.items many same c.hire-workers.ensures.jobs c.requires.fits c.hire-workers.ensures.seats c.requires.none c.run_workers.ensures.each
    c.dismiss.new.staff.seats.items c.dismiss.new.staff.compressors.items c.dismiss.new.staff.outcomes.items c.dismiss.ensures.seats c.dismiss.ensures.compressors c.dismiss.ensures.outcomes in
    (c.close-sink.ensures.borrowed, kinds_back g.C.CompressorPlugin.kind g.C.Fallible.faults g.C.Fallible.may_fail g.P.Pairs.first g.P.Pairs.pairs _ c.args.staff.compressors.items c.dismiss.new.staff.compressors.items c.dismiss.new.staff.outcomes.items _ _ _ _ k)

pub returns-in-Err-clause-stopped : goal.returns-in-Err-clause-stopped
returns-in-Err-clause-stopped g c =
    let many : length c.args.parts.items ≡ length c.args.inputs.items = sym c.args.parts.ok.0 ∙ c.requires.parts ∙ c.args.inputs.ok.0 in
    let same : length c.args.staff.compressors.items ≡ length c.args.inputs.items = sym c.args.staff.compressors.ok.0 ∙ c.requires.count.2.2 ∙ c.args.inputs.ok.0 in
    let k = closed g.C.CompressorPlugin.image g.C.CompressorPlugin.kind g.C.Fallible.faults g.C.Fallible.may_fail g.P.Pairs.first (length g.P.Pairs.pairs) (λ w. w.job) (λ w. w.done) (λ w. w.seat)
    (λ s. record { writes = s.writes.amount; faults = s.faults.amount; made = s.made.amount; seen = s.seen.amount }) g.P.Pairs.pairs c.args.inputs.items c.args.parts.items c.args.staff.compressors.items
    c.hire-workers.result.items c.run_workers.new.workers.items c.args.staff.seats.items many same c.hire-workers.ensures.jobs c.requires.fits c.hire-workers.ensures.seats c.requires.none c.run_workers.ensures.each
    c.dismiss.new.staff.seats.items c.dismiss.new.staff.compressors.items c.dismiss.new.staff.outcomes.items c.dismiss.ensures.seats c.dismiss.ensures.compressors c.dismiss.ensures.outcomes in
    let stands : StandsBy g.P.Pairs.pairs g.P.Pairs.first (g.S.SegmentSink.next c.close-sink.result.0) g.P.Pairs.told (g.S.SegmentSink.segments c.close-sink.result.0) c.close-sink.result.1.items
    = stands_by g.P.Pairs.pairs g.P.Pairs.first _ g.P.Pairs.told _ c.close-sink.result.1.items c.as_slice.result.now c.close-sink.ensures.ascends c.close-sink.ensures.listed c.close-sink.ensures.numbers c.close-sink.ensures.next c.close-sink.ensures.told
    c.as_slice.ensures.value c.numbers_fit.ensures in
    let count : vec_len c.dismiss.new.staff.seats ≡ vec_len c.args.inputs = c.dismiss.ensures.count.0 ∙ c.run_workers.ensures.count ∙ c.hire-workers.ensures.count in
    let some : 0 < vec_len c.dismiss.new.staff.seats = subst (λ z. 0 < z) (sym count) c.requires.count.1 in
    shared_stopped g.C.CompressorPlugin.kind g.C.Fallible.faults g.C.Fallible.may_fail g.P.Pairs.first g.P.Pairs.pairs _ c.args.staff.compressors.items c.dismiss.new.staff.compressors.items c.dismiss.new.staff.outcomes.items _ _ _ _ k c.in-Err.error c.in-Err.ensures.refused
    _ _ _ c.close-sink.ensures.faults c.close-sink.ensures.could_fail (c.close-sink.ensures.quiet some (count ∙ sym c.requires.ledgers.1)) _ _ _ c.close-sink.result.1.items stands

pub returns-in-Err-clause-failed : goal.returns-in-Err-clause-failed
returns-in-Err-clause-failed g c =
    let many : length c.args.parts.items ≡ length c.args.inputs.items = sym c.args.parts.ok.0 ∙ c.requires.parts ∙ c.args.inputs.ok.0 in
    let same : length c.args.staff.compressors.items ≡ length c.args.inputs.items = sym c.args.staff.compressors.ok.0 ∙ c.requires.count.2.2 ∙ c.args.inputs.ok.0 in
    let k = closed g.C.CompressorPlugin.image g.C.CompressorPlugin.kind g.C.Fallible.faults g.C.Fallible.may_fail g.P.Pairs.first (length g.P.Pairs.pairs) (λ w. w.job) (λ w. w.done) (λ w. w.seat)
    (λ s. record { writes = s.writes.amount; faults = s.faults.amount; made = s.made.amount; seen = s.seen.amount }) g.P.Pairs.pairs c.args.inputs.items c.args.parts.items c.args.staff.compressors.items
    c.hire-workers.result.items c.run_workers.new.workers.items c.args.staff.seats.items many same c.hire-workers.ensures.jobs c.requires.fits c.hire-workers.ensures.seats c.requires.none c.run_workers.ensures.each
    c.dismiss.new.staff.seats.items c.dismiss.new.staff.compressors.items c.dismiss.new.staff.outcomes.items c.dismiss.ensures.seats c.dismiss.ensures.compressors c.dismiss.ensures.outcomes in
    let count : vec_len c.dismiss.new.staff.seats ≡ vec_len c.args.inputs = c.dismiss.ensures.count.0 ∙ c.run_workers.ensures.count ∙ c.hire-workers.ensures.count in
    let some : 0 < vec_len c.dismiss.new.staff.seats = subst (λ z. 0 < z) (sym count) c.requires.count.1 in
    failed_so g.C.CompressorPlugin.kind g.C.Fallible.faults g.C.Fallible.may_fail g.P.Pairs.first g.P.Pairs.pairs _ c.args.staff.compressors.items c.dismiss.new.staff.compressors.items c.dismiss.new.staff.outcomes.items _ _ _ _ k c.in-Err.error c.in-Err.ensures.refused _ _ _ c.close-sink.ensures.faults c.close-sink.ensures.could_fail (c.close-sink.ensures.quiet some (count ∙ sym c.requires.ledgers.1))

pub returns-in-Err-clause-back_refused : goal.returns-in-Err-clause-back_refused
returns-in-Err-clause-back_refused g c =
    let many : length c.args.parts.items ≡ length c.args.inputs.items = sym c.args.parts.ok.0 ∙ c.requires.parts ∙ c.args.inputs.ok.0 in
    let same : length c.args.staff.compressors.items ≡ length c.args.inputs.items = sym c.args.staff.compressors.ok.0 ∙ c.requires.count.2.2 ∙ c.args.inputs.ok.0 in
    let k = closed g.C.CompressorPlugin.image g.C.CompressorPlugin.kind g.C.Fallible.faults g.C.Fallible.may_fail g.P.Pairs.first (length g.P.Pairs.pairs) (λ w. w.job) (λ w. w.done) (λ w. w.seat)
    (λ s. record { writes = s.writes.amount; faults = s.faults.amount; made = s.made.amount; seen = s.seen.amount }) g.P.Pairs.pairs c.args.inputs.items c.args.parts.items c.args.staff.compressors.items
    c.hire-workers.result.items c.run_workers.new.workers.items c.args.staff.seats.items many same c.hire-workers.ensures.jobs c.requires.fits c.hire-workers.ensures.seats c.requires.none c.run_workers.ensures.each
    c.dismiss.new.staff.seats.items c.dismiss.new.staff.compressors.items c.dismiss.new.staff.outcomes.items c.dismiss.ensures.seats c.dismiss.ensures.compressors c.dismiss.ensures.outcomes in
    (c.close-sink.ensures.borrowed, kinds_back g.C.CompressorPlugin.kind g.C.Fallible.faults g.C.Fallible.may_fail g.P.Pairs.first g.P.Pairs.pairs _ c.args.staff.compressors.items c.dismiss.new.staff.compressors.items c.dismiss.new.staff.outcomes.items _ _ _ _ k)
