use Rattle.std.proofs.Common.{◌≡◌, ◌∙◌, map, length, vec_items, sym, ap, subst, arith}
use Rattle.std.proofs.lemmas.Result.{IfOk-weaker, IfErr-weaker}
use Rattle.vx_model.specs.TyView.{ty}
use Rattle.vx_layout_tree.specs.LayoutView.{layout_data}
use Rattle.vx_column_ids.specs.Outsets.{column_outsets}
use Rattle.vx_column_worker.specs.Jobs.{JobsFit}
use Rattle.vx_column_worker.specs.Staffed.{list_kind, list_may_fail, list_to_come, list_left}
use Rattle.vx_write_columns.specs.Courses.{courses_of}
use Rattle.vx_write_columns.specs.Stopped.{Failed}
use Rattle.vx_write_columns.proofs.Firsts.{tells_by}
use Rattle.vx_write_columns.proofs.Lent.{none_shared, memory_failed, fails_too, done_by, stopped_by}
use Rattle.vx_write_columns.proofs.write.write_shared.Goals as goal

pub write_beside-requires-clause-fits : goal.write_beside-requires-clause-fits
write_beside-requires-clause-fits g c κs within =
    let same : c.in-Ok-staffed.staff.compressors.items ≡ c.args.compressors.items = ap (λ z. vec_items z) c.in-Ok-staffed.ensures.compressors in
    let count : c.len.result ≡ length c.args.compressors.items = omega (arith, c.args.compressors.ok.0) in
    subst (λ z. JobsFit g.P.Pairs.pairs g.C.CompressorPlugin.image g.C.CompressorPlugin.kind list_kind list_may_fail list_to_come list_left 0 c.args.columns.inputs.items c.in-Ok.parts.items z) (sym same)
    (c.requires.fits c.in-Ok.parts.items (c.in-Ok.ensures.outsets ∙ ap (λ z. column_outsets z c.args.columns.batches) count))

pub returns-in-Ok-staffed-clause-done : goal.returns-in-Ok-staffed-clause-done
returns-in-Ok-staffed-clause-done g c =
    let same : c.in-Ok-staffed.staff.compressors.items ≡ c.args.compressors.items = ap (λ z. vec_items z) c.in-Ok-staffed.ensures.compressors in
    IfOk-weaker c.write_beside.result _ _ (λ r h. done_by g.P.Pairs.pairs g.P.Pairs.first (g.S.SegmentSink.next c.args.sink) (g.S.SegmentSink.next r.1) g.P.Pairs.told (g.S.SegmentSink.segments c.args.sink) (g.S.SegmentSink.segments r.1) _ _
    c.requires.sink.0 c.requires.sink.1 (ap (λ z. courses_of g.C.CompressorPlugin.image g.C.CompressorPlugin.kind list_to_come 0 c.args.columns.inputs.items z) same)
    (ty c.args.columns.dtype) c.args.columns.rows (layout_data r.0) h) c.write_beside.ensures.done

pub returns-in-Ok-staffed-clause-stopped : goal.returns-in-Ok-staffed-clause-stopped
returns-in-Ok-staffed-clause-stopped g c =
    let same : c.in-Ok-staffed.staff.compressors.items ≡ c.args.compressors.items = ap (λ z. vec_items z) c.in-Ok-staffed.ensures.compressors in
    IfErr-weaker c.write_beside.result _ _ (λ r h. stopped_by g.P.Pairs.pairs g.P.Pairs.first (g.S.SegmentSink.next c.args.sink) (g.S.SegmentSink.next r.1) g.P.Pairs.told (g.S.SegmentSink.segments c.args.sink) (g.S.SegmentSink.segments r.1) _ _
    c.requires.sink.0 c.requires.sink.1 (ap (λ z. courses_of g.C.CompressorPlugin.image g.C.CompressorPlugin.kind list_to_come 0 c.args.columns.inputs.items z) same) _ _ r.0
    (tells_by g.P.Pairs.faults (g.S.Fallible.faults c.args.sink) (g.S.Fallible.faults r.1) g.P.Pairs.may_fail (g.S.Fallible.may_fail c.args.sink) g.C.Fallible.faults g.C.Fallible.may_fail
    c.in-Ok-staffed.staff.compressors.items c.args.compressors.items r.2.items (sym c.requires.sink.2) same c.requires.may_fail.1) h) c.write_beside.ensures.stopped

pub returns-in-Ok-staffed-clause-kept : goal.returns-in-Ok-staffed-clause-kept
returns-in-Ok-staffed-clause-kept g c =
    let same : c.in-Ok-staffed.staff.compressors.items ≡ c.args.compressors.items = ap (λ z. vec_items z) c.in-Ok-staffed.ensures.compressors in
    IfOk-weaker c.write_beside.result _ _ (λ r h. (h.0 ∙ sym c.requires.sink.2, h.1 ∙ ap (λ z. map g.C.Fallible.faults z) same)) c.write_beside.ensures.kept

pub returns-in-Ok-staffed-clause-failed : goal.returns-in-Ok-staffed-clause-failed
returns-in-Ok-staffed-clause-failed g c =
    let same : c.in-Ok-staffed.staff.compressors.items ≡ c.args.compressors.items = ap (λ z. vec_items z) c.in-Ok-staffed.ensures.compressors in
    IfErr-weaker c.write_beside.result _ _ (λ r h.
    subst (λ z. Failed z (g.S.Fallible.faults r.1) (g.S.Fallible.may_fail c.args.sink) g.C.Fallible.faults g.C.Fallible.may_fail c.args.compressors.items r.2.items r.0) (sym c.requires.sink.2)
    (subst (λ z. Failed g.P.Pairs.faults (g.S.Fallible.faults r.1) (g.S.Fallible.may_fail c.args.sink) g.C.Fallible.faults g.C.Fallible.may_fail z r.2.items r.0) same
    (fails_too g.P.Pairs.faults (g.S.Fallible.faults r.1) g.P.Pairs.may_fail (g.S.Fallible.may_fail c.args.sink) g.C.Fallible.faults g.C.Fallible.may_fail c.in-Ok-staffed.staff.compressors.items r.2.items r.0 c.requires.may_fail.1 h)))
    c.write_beside.ensures.failed

pub returns-in-Ok-staffed-clause-back : goal.returns-in-Ok-staffed-clause-back
returns-in-Ok-staffed-clause-back g c =
    let same : c.in-Ok-staffed.staff.compressors.items ≡ c.args.compressors.items = ap (λ z. vec_items z) c.in-Ok-staffed.ensures.compressors in
    IfOk-weaker c.write_beside.result _ _ (λ r h. record { borrow_is = h.0 ∙ sym c.requires.sink.3; kinds_are = h.1 ∙ ap (λ z. map g.C.CompressorPlugin.kind z) same }) c.write_beside.ensures.back

pub returns-in-Ok-staffed-clause-back_refused : goal.returns-in-Ok-staffed-clause-back_refused
returns-in-Ok-staffed-clause-back_refused g c =
    let same : c.in-Ok-staffed.staff.compressors.items ≡ c.args.compressors.items = ap (λ z. vec_items z) c.in-Ok-staffed.ensures.compressors in
    IfErr-weaker c.write_beside.result _ _ (λ r h. record { borrow_is = h.0 ∙ sym c.requires.sink.3; kinds_are = h.1 ∙ ap (λ z. map g.C.CompressorPlugin.kind z) same }) c.write_beside.ensures.back_refused

pub returns-in-Err-clause-stopped : goal.returns-in-Err-clause-stopped
returns-in-Err-clause-stopped g c = rw c.in-Err.ensures.refused.0 (none_shared _ _ _ _ _)

pub returns-in-Err-clause-failed : goal.returns-in-Err-clause-failed
returns-in-Err-clause-failed g c = rw (c.in-Err.ensures.refused.0, c.in-Err.ensures.refused.1) (memory_failed _ _ _ _ c.args.compressors.items)

pub returns-in_default-clause-stopped : goal.returns-in_default-clause-stopped
returns-in_default-clause-stopped g c = none_shared _ _ _ _ _

pub returns-in_default-clause-failed : goal.returns-in_default-clause-failed
returns-in_default-clause-failed g c = memory_failed _ _ _ _ c.args.compressors.items
