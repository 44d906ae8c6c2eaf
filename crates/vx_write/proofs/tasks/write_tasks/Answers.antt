use Rattle.std.proofs.Common.{◌∙◌, ℕ, Option, Err, Ok, Some, None, refl, sym, ap, subst, inl, inr}
use Rattle.vx_model.specs.ChunkData.{ChunkData}
use Rattle.vx_model.specs.Distinct.{first_repeat}
use Rattle.vx_plan.specs.Valid.{Keeps}
use Rattle.vx_fault.specs.Counts.{Counts}
use Rattle.vx_layout_tree.specs.LayoutView.{layout_data}
use Rattle.vx_layout_tree.specs.declared.layout.Layout.{Layout}
use Rattle.vx_sink.specs.ContextView.{is_marked}
use Rattle.vx_strategy.specs.StrategyView.{strategy_data}
use Rattle.vx_write_answer.specs.declared.error.WriteError.TheVariants.{OutOfMemory}
use Rattle.vx_write_answer.specs.Causes.{is_sink_fault}
use Rattle.vx_machine.specs.Context.{setting_of}
use Rattle.vx_write.specs.Answered.{Answered}
use Rattle.vx_write.specs.Answer.{StoppedTold}
use Rattle.vx_write.proofs.RanSteps.{setting_keeps, handed, outlet_of, first_held, answers_told, outside_memory}
use Rattle.vx_write.proofs.ReadSteps.{planned_readable}
use Rattle.vx_write.proofs.tasks.write_tasks.Goals as goal

pub returns-in-Ok-Some-clause-wrote : goal.returns-in-Ok-Some-clause-wrote
returns-in-Ok-Some-clause-wrote g c =
    let image : ℕ → ChunkData → ChunkData = g.C.CompressorPlugin.image (g.C.CompressorPlugin.kind c.args.compressor.now) in
    let keeps : Keeps (setting_of c.args.ctx.now image) = setting_keeps c.real_settings_keep.ensures.keeps c.args.ctx.now image
    (ap (λ z. first_repeat z) (sym c.array_ctx.ensures) ∙ c.ids.ensures.distinct) (g.met.C.CompressorPlugin.keeps (g.C.CompressorPlugin.kind c.args.compressor.now)) in
    let told = handed g.S.SegmentSink.borrow g.S.SegmentSink.next g.S.SegmentSink.segments (λ x y. Answered c.args.ctx.now image (strategy_data c.args.strategy.now) (g.B.BatchSource.kind c.args.source.now) c.args.schedule.now (g.B.BatchSource.to_come c.args.source.now) x c.write_in-written.new.steps.items (g.B.BatchSource.to_come c.write_in-written.new.source) y (Ok (Some c.in-Ok-Some.layout))) c.args.sink c.new-order.result.sink c.write_in-written.new.order.sink c.into_sink-sink.result c.new-order.ensures.sink c.into_sink-sink.ensures
    (subst (λ (l : Option Layout). Answered c.args.ctx.now image (strategy_data c.args.strategy.now) (g.B.BatchSource.kind c.args.source.now) c.args.schedule.now (g.B.BatchSource.to_come c.args.source.now) (outlet_of g.S.SegmentSink.borrow g.S.SegmentSink.next g.S.SegmentSink.segments c.new-order.result.sink) c.write_in-written.new.steps.items (g.B.BatchSource.to_come c.write_in-written.new.source) (outlet_of g.S.SegmentSink.borrow g.S.SegmentSink.next g.S.SegmentSink.segments c.write_in-written.new.order.sink) (Ok l)) c.in-Ok-Some.field-0-is
    (c.in-Ok-Some.ensures.ran c.in-Ok.ensures.root.1 (first_held c.new-order.result.universe c.in-Ok.universe c.in-Ok.eof c.new-order.ensures.universe c.in-Ok.ensures.root.0 c.in-Ok.ensures.root.1))) in
    (c.answers.ensures.written c.args.ctx.now image (strategy_data c.args.strategy.now) (g.B.BatchSource.kind c.args.source.now) c.args.schedule.now (g.B.BatchSource.to_come c.args.source.now) (g.B.BatchSource.to_come c.write_in-written.new.source) (g.S.SegmentSink.borrow c.args.sink) (g.S.SegmentSink.next c.args.sink) (g.S.SegmentSink.segments c.args.sink) c.write_in-written.new.steps.items (outlet_of g.S.SegmentSink.borrow g.S.SegmentSink.next g.S.SegmentSink.segments c.into_sink-sink.result) (Ok (Some c.in-Ok-Some.layout)) keeps told).1

pub returns-in-Ok-Some-clause-readable : goal.returns-in-Ok-Some-clause-readable
returns-in-Ok-Some-clause-readable g c =
    let image : ℕ → ChunkData → ChunkData = g.C.CompressorPlugin.image (g.C.CompressorPlugin.kind c.args.compressor.now) in
    let keeps : Keeps (setting_of c.args.ctx.now image) = setting_keeps c.real_settings_keep.ensures.keeps c.args.ctx.now image
    (ap (λ z. first_repeat z) (sym c.array_ctx.ensures) ∙ c.ids.ensures.distinct) (g.met.C.CompressorPlugin.keeps (g.C.CompressorPlugin.kind c.args.compressor.now)) in
    planned_readable c.pruning_keeps_rows.ensures c.written_is_parsed.ensures.parsed c.written_is_parsed.ensures.known c.real_settings_keep.ensures.hash c.args.ctx.now image c.args.strategy.now (g.B.BatchSource.kind c.args.source.now)
    (is_marked c.args.ctx.now) (g.B.BatchSource.to_come c.args.source.now) (g.S.SegmentSink.next c.args.sink) (g.S.SegmentSink.next c.into_sink-sink.result) (g.S.SegmentSink.segments c.args.sink) (g.S.SegmentSink.segments c.into_sink-sink.result)
    (layout_data c.in-Ok-Some.layout) keeps (returns-in-Ok-Some-clause-wrote g c)

pub returns-in-Ok-Some-clause-ended : goal.returns-in-Ok-Some-clause-ended
returns-in-Ok-Some-clause-ended g c =
    let image : ℕ → ChunkData → ChunkData = g.C.CompressorPlugin.image (g.C.CompressorPlugin.kind c.args.compressor.now) in
    let keeps : Keeps (setting_of c.args.ctx.now image) = setting_keeps c.real_settings_keep.ensures.keeps c.args.ctx.now image
    (ap (λ z. first_repeat z) (sym c.array_ctx.ensures) ∙ c.ids.ensures.distinct) (g.met.C.CompressorPlugin.keeps (g.C.CompressorPlugin.kind c.args.compressor.now)) in
    let told = handed g.S.SegmentSink.borrow g.S.SegmentSink.next g.S.SegmentSink.segments (λ x y. Answered c.args.ctx.now image (strategy_data c.args.strategy.now) (g.B.BatchSource.kind c.args.source.now) c.args.schedule.now (g.B.BatchSource.to_come c.args.source.now) x c.write_in-written.new.steps.items (g.B.BatchSource.to_come c.write_in-written.new.source) y (Ok (Some c.in-Ok-Some.layout))) c.args.sink c.new-order.result.sink c.write_in-written.new.order.sink c.into_sink-sink.result c.new-order.ensures.sink c.into_sink-sink.ensures
    (subst (λ (l : Option Layout). Answered c.args.ctx.now image (strategy_data c.args.strategy.now) (g.B.BatchSource.kind c.args.source.now) c.args.schedule.now (g.B.BatchSource.to_come c.args.source.now) (outlet_of g.S.SegmentSink.borrow g.S.SegmentSink.next g.S.SegmentSink.segments c.new-order.result.sink) c.write_in-written.new.steps.items (g.B.BatchSource.to_come c.write_in-written.new.source) (outlet_of g.S.SegmentSink.borrow g.S.SegmentSink.next g.S.SegmentSink.segments c.write_in-written.new.order.sink) (Ok l)) c.in-Ok-Some.field-0-is
    (c.in-Ok-Some.ensures.ran c.in-Ok.ensures.root.1 (first_held c.new-order.result.universe c.in-Ok.universe c.in-Ok.eof c.new-order.ensures.universe c.in-Ok.ensures.root.0 c.in-Ok.ensures.root.1))) in
    (c.answers.ensures.written c.args.ctx.now image (strategy_data c.args.strategy.now) (g.B.BatchSource.kind c.args.source.now) c.args.schedule.now (g.B.BatchSource.to_come c.args.source.now) (g.B.BatchSource.to_come c.write_in-written.new.source) (g.S.SegmentSink.borrow c.args.sink) (g.S.SegmentSink.next c.args.sink) (g.S.SegmentSink.segments c.args.sink) c.write_in-written.new.steps.items (outlet_of g.S.SegmentSink.borrow g.S.SegmentSink.next g.S.SegmentSink.segments c.into_sink-sink.result) (Ok (Some c.in-Ok-Some.layout)) keeps told).0

pub returns-in-Ok-Some-clause-trace : goal.returns-in-Ok-Some-clause-trace
returns-in-Ok-Some-clause-trace g c =
    let image : ℕ → ChunkData → ChunkData = g.C.CompressorPlugin.image (g.C.CompressorPlugin.kind c.args.compressor.now) in
    let keeps : Keeps (setting_of c.args.ctx.now image) = setting_keeps c.real_settings_keep.ensures.keeps c.args.ctx.now image
    (ap (λ z. first_repeat z) (sym c.array_ctx.ensures) ∙ c.ids.ensures.distinct) (g.met.C.CompressorPlugin.keeps (g.C.CompressorPlugin.kind c.args.compressor.now)) in
    let told = handed g.S.SegmentSink.borrow g.S.SegmentSink.next g.S.SegmentSink.segments (λ x y. Answered c.args.ctx.now image (strategy_data c.args.strategy.now) (g.B.BatchSource.kind c.args.source.now) c.args.schedule.now (g.B.BatchSource.to_come c.args.source.now) x c.write_in-written.new.steps.items (g.B.BatchSource.to_come c.write_in-written.new.source) y (Ok (Some c.in-Ok-Some.layout))) c.args.sink c.new-order.result.sink c.write_in-written.new.order.sink c.into_sink-sink.result c.new-order.ensures.sink c.into_sink-sink.ensures
    (subst (λ (l : Option Layout). Answered c.args.ctx.now image (strategy_data c.args.strategy.now) (g.B.BatchSource.kind c.args.source.now) c.args.schedule.now (g.B.BatchSource.to_come c.args.source.now) (outlet_of g.S.SegmentSink.borrow g.S.SegmentSink.next g.S.SegmentSink.segments c.new-order.result.sink) c.write_in-written.new.steps.items (g.B.BatchSource.to_come c.write_in-written.new.source) (outlet_of g.S.SegmentSink.borrow g.S.SegmentSink.next g.S.SegmentSink.segments c.write_in-written.new.order.sink) (Ok l)) c.in-Ok-Some.field-0-is
    (c.in-Ok-Some.ensures.ran c.in-Ok.ensures.root.1 (first_held c.new-order.result.universe c.in-Ok.universe c.in-Ok.eof c.new-order.ensures.universe c.in-Ok.ensures.root.0 c.in-Ok.ensures.root.1))) in
    (c.answers.ensures.written c.args.ctx.now image (strategy_data c.args.strategy.now) (g.B.BatchSource.kind c.args.source.now) c.args.schedule.now (g.B.BatchSource.to_come c.args.source.now) (g.B.BatchSource.to_come c.write_in-written.new.source) (g.S.SegmentSink.borrow c.args.sink) (g.S.SegmentSink.next c.args.sink) (g.S.SegmentSink.segments c.args.sink) c.write_in-written.new.steps.items (outlet_of g.S.SegmentSink.borrow g.S.SegmentSink.next g.S.SegmentSink.segments c.into_sink-sink.result) (Ok (Some c.in-Ok-Some.layout)) keeps told).2

pub returns-in-Ok-Some-clause-appended : goal.returns-in-Ok-Some-clause-appended
returns-in-Ok-Some-clause-appended g c =
    let image : ℕ → ChunkData → ChunkData = g.C.CompressorPlugin.image (g.C.CompressorPlugin.kind c.args.compressor.now) in
    let keeps : Keeps (setting_of c.args.ctx.now image) = setting_keeps c.real_settings_keep.ensures.keeps c.args.ctx.now image
    (ap (λ z. first_repeat z) (sym c.array_ctx.ensures) ∙ c.ids.ensures.distinct) (g.met.C.CompressorPlugin.keeps (g.C.CompressorPlugin.kind c.args.compressor.now)) in
    let told = handed g.S.SegmentSink.borrow g.S.SegmentSink.next g.S.SegmentSink.segments (λ x y. Answered c.args.ctx.now image (strategy_data c.args.strategy.now) (g.B.BatchSource.kind c.args.source.now) c.args.schedule.now (g.B.BatchSource.to_come c.args.source.now) x c.write_in-written.new.steps.items (g.B.BatchSource.to_come c.write_in-written.new.source) y (Ok (Some c.in-Ok-Some.layout))) c.args.sink c.new-order.result.sink c.write_in-written.new.order.sink c.into_sink-sink.result c.new-order.ensures.sink c.into_sink-sink.ensures
    (subst (λ (l : Option Layout). Answered c.args.ctx.now image (strategy_data c.args.strategy.now) (g.B.BatchSource.kind c.args.source.now) c.args.schedule.now (g.B.BatchSource.to_come c.args.source.now) (outlet_of g.S.SegmentSink.borrow g.S.SegmentSink.next g.S.SegmentSink.segments c.new-order.result.sink) c.write_in-written.new.steps.items (g.B.BatchSource.to_come c.write_in-written.new.source) (outlet_of g.S.SegmentSink.borrow g.S.SegmentSink.next g.S.SegmentSink.segments c.write_in-written.new.order.sink) (Ok l)) c.in-Ok-Some.field-0-is
    (c.in-Ok-Some.ensures.ran c.in-Ok.ensures.root.1 (first_held c.new-order.result.universe c.in-Ok.universe c.in-Ok.eof c.new-order.ensures.universe c.in-Ok.ensures.root.0 c.in-Ok.ensures.root.1))) in
    (c.answers.ensures.sink c.args.ctx.now image (strategy_data c.args.strategy.now) (g.B.BatchSource.kind c.args.source.now) c.args.schedule.now (g.B.BatchSource.to_come c.args.source.now) (g.B.BatchSource.to_come c.write_in-written.new.source) (g.S.SegmentSink.borrow c.args.sink) (g.S.SegmentSink.next c.args.sink) (g.S.SegmentSink.segments c.args.sink) c.write_in-written.new.steps.items (outlet_of g.S.SegmentSink.borrow g.S.SegmentSink.next g.S.SegmentSink.segments c.into_sink-sink.result) (Ok (Some c.in-Ok-Some.layout)) keeps told).0.1

pub returns-in-Ok-Some-clause-last : goal.returns-in-Ok-Some-clause-last
returns-in-Ok-Some-clause-last g c =
    let image : ℕ → ChunkData → ChunkData = g.C.CompressorPlugin.image (g.C.CompressorPlugin.kind c.args.compressor.now) in
    let keeps : Keeps (setting_of c.args.ctx.now image) = setting_keeps c.real_settings_keep.ensures.keeps c.args.ctx.now image
    (ap (λ z. first_repeat z) (sym c.array_ctx.ensures) ∙ c.ids.ensures.distinct) (g.met.C.CompressorPlugin.keeps (g.C.CompressorPlugin.kind c.args.compressor.now)) in
    let told = handed g.S.SegmentSink.borrow g.S.SegmentSink.next g.S.SegmentSink.segments (λ x y. Answered c.args.ctx.now image (strategy_data c.args.strategy.now) (g.B.BatchSource.kind c.args.source.now) c.args.schedule.now (g.B.BatchSource.to_come c.args.source.now) x c.write_in-written.new.steps.items (g.B.BatchSource.to_come c.write_in-written.new.source) y (Ok (Some c.in-Ok-Some.layout))) c.args.sink c.new-order.result.sink c.write_in-written.new.order.sink c.into_sink-sink.result c.new-order.ensures.sink c.into_sink-sink.ensures
    (subst (λ (l : Option Layout). Answered c.args.ctx.now image (strategy_data c.args.strategy.now) (g.B.BatchSource.kind c.args.source.now) c.args.schedule.now (g.B.BatchSource.to_come c.args.source.now) (outlet_of g.S.SegmentSink.borrow g.S.SegmentSink.next g.S.SegmentSink.segments c.new-order.result.sink) c.write_in-written.new.steps.items (g.B.BatchSource.to_come c.write_in-written.new.source) (outlet_of g.S.SegmentSink.borrow g.S.SegmentSink.next g.S.SegmentSink.segments c.write_in-written.new.order.sink) (Ok l)) c.in-Ok-Some.field-0-is
    (c.in-Ok-Some.ensures.ran c.in-Ok.ensures.root.1 (first_held c.new-order.result.universe c.in-Ok.universe c.in-Ok.eof c.new-order.ensures.universe c.in-Ok.ensures.root.0 c.in-Ok.ensures.root.1))) in
    (c.answers.ensures.sink c.args.ctx.now image (strategy_data c.args.strategy.now) (g.B.BatchSource.kind c.args.source.now) c.args.schedule.now (g.B.BatchSource.to_come c.args.source.now) (g.B.BatchSource.to_come c.write_in-written.new.source) (g.S.SegmentSink.borrow c.args.sink) (g.S.SegmentSink.next c.args.sink) (g.S.SegmentSink.segments c.args.sink) c.write_in-written.new.steps.items (outlet_of g.S.SegmentSink.borrow g.S.SegmentSink.next g.S.SegmentSink.segments c.into_sink-sink.result) (Ok (Some c.in-Ok-Some.layout)) keeps told).0.0

pub returns-in-Ok-Some-clause-borrow : goal.returns-in-Ok-Some-clause-borrow
returns-in-Ok-Some-clause-borrow g c =
    let image : ℕ → ChunkData → ChunkData = g.C.CompressorPlugin.image (g.C.CompressorPlugin.kind c.args.compressor.now) in
    let keeps : Keeps (setting_of c.args.ctx.now image) = setting_keeps c.real_settings_keep.ensures.keeps c.args.ctx.now image
    (ap (λ z. first_repeat z) (sym c.array_ctx.ensures) ∙ c.ids.ensures.distinct) (g.met.C.CompressorPlugin.keeps (g.C.CompressorPlugin.kind c.args.compressor.now)) in
    let told = handed g.S.SegmentSink.borrow g.S.SegmentSink.next g.S.SegmentSink.segments (λ x y. Answered c.args.ctx.now image (strategy_data c.args.strategy.now) (g.B.BatchSource.kind c.args.source.now) c.args.schedule.now (g.B.BatchSource.to_come c.args.source.now) x c.write_in-written.new.steps.items (g.B.BatchSource.to_come c.write_in-written.new.source) y (Ok (Some c.in-Ok-Some.layout))) c.args.sink c.new-order.result.sink c.write_in-written.new.order.sink c.into_sink-sink.result c.new-order.ensures.sink c.into_sink-sink.ensures
    (subst (λ (l : Option Layout). Answered c.args.ctx.now image (strategy_data c.args.strategy.now) (g.B.BatchSource.kind c.args.source.now) c.args.schedule.now (g.B.BatchSource.to_come c.args.source.now) (outlet_of g.S.SegmentSink.borrow g.S.SegmentSink.next g.S.SegmentSink.segments c.new-order.result.sink) c.write_in-written.new.steps.items (g.B.BatchSource.to_come c.write_in-written.new.source) (outlet_of g.S.SegmentSink.borrow g.S.SegmentSink.next g.S.SegmentSink.segments c.write_in-written.new.order.sink) (Ok l)) c.in-Ok-Some.field-0-is
    (c.in-Ok-Some.ensures.ran c.in-Ok.ensures.root.1 (first_held c.new-order.result.universe c.in-Ok.universe c.in-Ok.eof c.new-order.ensures.universe c.in-Ok.ensures.root.0 c.in-Ok.ensures.root.1))) in
    (c.answers.ensures.sink c.args.ctx.now image (strategy_data c.args.strategy.now) (g.B.BatchSource.kind c.args.source.now) c.args.schedule.now (g.B.BatchSource.to_come c.args.source.now) (g.B.BatchSource.to_come c.write_in-written.new.source) (g.S.SegmentSink.borrow c.args.sink) (g.S.SegmentSink.next c.args.sink) (g.S.SegmentSink.segments c.args.sink) c.write_in-written.new.steps.items (outlet_of g.S.SegmentSink.borrow g.S.SegmentSink.next g.S.SegmentSink.segments c.into_sink-sink.result) (Ok (Some c.in-Ok-Some.layout)) keeps told).1

pub returns-in-Err-clause-halted : goal.returns-in-Err-clause-halted
returns-in-Err-clause-halted g c =
    let image : ℕ → ChunkData → ChunkData = g.C.CompressorPlugin.image (g.C.CompressorPlugin.kind c.args.compressor.now) in
    let keeps : Keeps (setting_of c.args.ctx.now image) = setting_keeps c.real_settings_keep.ensures.keeps c.args.ctx.now image
    (ap (λ z. first_repeat z) (sym c.array_ctx.ensures) ∙ c.ids.ensures.distinct) (g.met.C.CompressorPlugin.keeps (g.C.CompressorPlugin.kind c.args.compressor.now)) in
    let told = handed g.S.SegmentSink.borrow g.S.SegmentSink.next g.S.SegmentSink.segments (λ x y. Answered c.args.ctx.now image (strategy_data c.args.strategy.now) (g.B.BatchSource.kind c.args.source.now) c.args.schedule.now (g.B.BatchSource.to_come c.args.source.now) x c.write_in-written.new.steps.items (g.B.BatchSource.to_come c.write_in-written.new.source) y (Err c.in-Err.error)) c.args.sink c.new-order.result.sink c.write_in-written.new.order.sink c.into_sink-sink.result c.new-order.ensures.sink c.into_sink-sink.ensures
    (elim (c.in-Err.ensures.ran c.in-Ok.ensures.root.1 (first_held c.new-order.result.universe c.in-Ok.universe c.in-Ok.eof c.new-order.ensures.universe c.in-Ok.ensures.root.0 c.in-Ok.ensures.root.1)) [ inl u ↦ inl u | inr r ↦ inr (r.0, r.1.stop) ]) in
    c.answers.ensures.written c.args.ctx.now image (strategy_data c.args.strategy.now) (g.B.BatchSource.kind c.args.source.now) c.args.schedule.now (g.B.BatchSource.to_come c.args.source.now) (g.B.BatchSource.to_come c.write_in-written.new.source) (g.S.SegmentSink.borrow c.args.sink) (g.S.SegmentSink.next c.args.sink) (g.S.SegmentSink.segments c.args.sink) c.write_in-written.new.steps.items (outlet_of g.S.SegmentSink.borrow g.S.SegmentSink.next g.S.SegmentSink.segments c.into_sink-sink.result) (Err c.in-Err.error) keeps told

pub returns-in-Err-clause-complete : goal.returns-in-Err-clause-complete
returns-in-Err-clause-complete g c xs came valid calm still quiet =
    let image : ℕ → ChunkData → ChunkData = g.C.CompressorPlugin.image (g.C.CompressorPlugin.kind c.args.compressor.now) in
    let keeps : Keeps (setting_of c.args.ctx.now image) = setting_keeps c.real_settings_keep.ensures.keeps c.args.ctx.now image
    (ap (λ z. first_repeat z) (sym c.array_ctx.ensures) ∙ c.ids.ensures.distinct) (g.met.C.CompressorPlugin.keeps (g.C.CompressorPlugin.kind c.args.compressor.now)) in
    let told = handed g.S.SegmentSink.borrow g.S.SegmentSink.next g.S.SegmentSink.segments (λ x y. Answered c.args.ctx.now image (strategy_data c.args.strategy.now) (g.B.BatchSource.kind c.args.source.now) c.args.schedule.now (g.B.BatchSource.to_come c.args.source.now) x c.write_in-written.new.steps.items (g.B.BatchSource.to_come c.write_in-written.new.source) y (Err c.in-Err.error)) c.args.sink c.new-order.result.sink c.write_in-written.new.order.sink c.into_sink-sink.result c.new-order.ensures.sink c.into_sink-sink.ensures
    (elim (c.in-Err.ensures.ran c.in-Ok.ensures.root.1 (first_held c.new-order.result.universe c.in-Ok.universe c.in-Ok.eof c.new-order.ensures.universe c.in-Ok.ensures.root.0 c.in-Ok.ensures.root.1)) [ inl u ↦ inl u | inr r ↦ inr (r.0, r.1.stop) ]) in
    let counted = subst (λ z. Counts (g.S.Fallible.faults z) (g.S.Fallible.faults c.into_sink-sink.result) (is_sink_fault c.in-Err.error)) c.new-order.ensures.sink
    (subst (λ z. Counts (g.S.Fallible.faults c.new-order.result.sink) (g.S.Fallible.faults z) (is_sink_fault c.in-Err.error)) (sym c.into_sink-sink.ensures) c.in-Err.ensures.sink.counted) in
    outside_memory c.in-Err.error (g.B.Fallible.faults c.args.source.now) (g.B.Fallible.faults c.write_in-written.new.source) (g.S.Fallible.faults c.args.sink) (g.S.Fallible.faults c.into_sink-sink.result)
    (g.C.Fallible.faults c.args.compressor.now) (g.C.Fallible.faults c.write_in-written.new.compressor) (c.answers.ensures.complete c.args.ctx.now image (strategy_data c.args.strategy.now) (g.B.BatchSource.kind c.args.source.now) c.args.schedule.now (g.B.BatchSource.to_come c.args.source.now) (g.B.BatchSource.to_come c.write_in-written.new.source) (g.S.SegmentSink.borrow c.args.sink) (g.S.SegmentSink.next c.args.sink) (g.S.SegmentSink.segments c.args.sink) c.write_in-written.new.steps.items (outlet_of g.S.SegmentSink.borrow g.S.SegmentSink.next g.S.SegmentSink.segments c.into_sink-sink.result) c.in-Err.error keeps told xs came valid) c.in-Err.ensures.source.counted counted c.in-Err.ensures.compressor.counted calm still quiet

pub returns-in-Err-clause-source : goal.returns-in-Err-clause-source
returns-in-Err-clause-source g c =
    let image : ℕ → ChunkData → ChunkData = g.C.CompressorPlugin.image (g.C.CompressorPlugin.kind c.args.compressor.now) in
    let keeps : Keeps (setting_of c.args.ctx.now image) = setting_keeps c.real_settings_keep.ensures.keeps c.args.ctx.now image
    (ap (λ z. first_repeat z) (sym c.array_ctx.ensures) ∙ c.ids.ensures.distinct) (g.met.C.CompressorPlugin.keeps (g.C.CompressorPlugin.kind c.args.compressor.now)) in
    let stops = handed g.S.SegmentSink.borrow g.S.SegmentSink.next g.S.SegmentSink.segments (λ x y. StoppedTold c.args.ctx.now image (strategy_data c.args.strategy.now) (g.B.BatchSource.kind c.args.source.now) c.args.schedule.now (g.B.BatchSource.to_come c.args.source.now) x c.write_in-written.new.steps.items (g.B.BatchSource.to_come c.write_in-written.new.source) y (g.B.Fallible.must_fail c.args.source.now) c.in-Err.error) c.args.sink c.new-order.result.sink c.write_in-written.new.order.sink c.into_sink-sink.result c.new-order.ensures.sink c.into_sink-sink.ensures
    (c.in-Err.ensures.ran c.in-Ok.ensures.root.1 (first_held c.new-order.result.universe c.in-Ok.universe c.in-Ok.eof c.new-order.ensures.universe c.in-Ok.ensures.root.0 c.in-Ok.ensures.root.1)) in
    answers_told c.answers.ensures.misfit c.args.ctx.now image (strategy_data c.args.strategy.now) (g.B.BatchSource.kind c.args.source.now) c.args.schedule.now (g.B.BatchSource.to_come c.args.source.now) (g.B.BatchSource.to_come c.write_in-written.new.source) (g.S.SegmentSink.borrow c.args.sink) (g.S.SegmentSink.next c.args.sink) (g.S.SegmentSink.segments c.args.sink) c.write_in-written.new.steps.items (outlet_of g.S.SegmentSink.borrow g.S.SegmentSink.next g.S.SegmentSink.segments c.into_sink-sink.result) c.in-Err.error _ _ _ _ keeps stops c.in-Err.ensures.source

pub returns-in-Err-clause-appended : goal.returns-in-Err-clause-appended
returns-in-Err-clause-appended g c =
    let image : ℕ → ChunkData → ChunkData = g.C.CompressorPlugin.image (g.C.CompressorPlugin.kind c.args.compressor.now) in
    let keeps : Keeps (setting_of c.args.ctx.now image) = setting_keeps c.real_settings_keep.ensures.keeps c.args.ctx.now image
    (ap (λ z. first_repeat z) (sym c.array_ctx.ensures) ∙ c.ids.ensures.distinct) (g.met.C.CompressorPlugin.keeps (g.C.CompressorPlugin.kind c.args.compressor.now)) in
    let told = handed g.S.SegmentSink.borrow g.S.SegmentSink.next g.S.SegmentSink.segments (λ x y. Answered c.args.ctx.now image (strategy_data c.args.strategy.now) (g.B.BatchSource.kind c.args.source.now) c.args.schedule.now (g.B.BatchSource.to_come c.args.source.now) x c.write_in-written.new.steps.items (g.B.BatchSource.to_come c.write_in-written.new.source) y (Err c.in-Err.error)) c.args.sink c.new-order.result.sink c.write_in-written.new.order.sink c.into_sink-sink.result c.new-order.ensures.sink c.into_sink-sink.ensures
    (elim (c.in-Err.ensures.ran c.in-Ok.ensures.root.1 (first_held c.new-order.result.universe c.in-Ok.universe c.in-Ok.eof c.new-order.ensures.universe c.in-Ok.ensures.root.0 c.in-Ok.ensures.root.1)) [ inl u ↦ inl u | inr r ↦ inr (r.0, r.1.stop) ]) in
    (c.answers.ensures.sink c.args.ctx.now image (strategy_data c.args.strategy.now) (g.B.BatchSource.kind c.args.source.now) c.args.schedule.now (g.B.BatchSource.to_come c.args.source.now) (g.B.BatchSource.to_come c.write_in-written.new.source) (g.S.SegmentSink.borrow c.args.sink) (g.S.SegmentSink.next c.args.sink) (g.S.SegmentSink.segments c.args.sink) c.write_in-written.new.steps.items (outlet_of g.S.SegmentSink.borrow g.S.SegmentSink.next g.S.SegmentSink.segments c.into_sink-sink.result) (Err c.in-Err.error) keeps told).0.1

pub returns-in-Err-clause-last : goal.returns-in-Err-clause-last
returns-in-Err-clause-last g c =
    let image : ℕ → ChunkData → ChunkData = g.C.CompressorPlugin.image (g.C.CompressorPlugin.kind c.args.compressor.now) in
    let keeps : Keeps (setting_of c.args.ctx.now image) = setting_keeps c.real_settings_keep.ensures.keeps c.args.ctx.now image
    (ap (λ z. first_repeat z) (sym c.array_ctx.ensures) ∙ c.ids.ensures.distinct) (g.met.C.CompressorPlugin.keeps (g.C.CompressorPlugin.kind c.args.compressor.now)) in
    let told = handed g.S.SegmentSink.borrow g.S.SegmentSink.next g.S.SegmentSink.segments (λ x y. Answered c.args.ctx.now image (strategy_data c.args.strategy.now) (g.B.BatchSource.kind c.args.source.now) c.args.schedule.now (g.B.BatchSource.to_come c.args.source.now) x c.write_in-written.new.steps.items (g.B.BatchSource.to_come c.write_in-written.new.source) y (Err c.in-Err.error)) c.args.sink c.new-order.result.sink c.write_in-written.new.order.sink c.into_sink-sink.result c.new-order.ensures.sink c.into_sink-sink.ensures
    (elim (c.in-Err.ensures.ran c.in-Ok.ensures.root.1 (first_held c.new-order.result.universe c.in-Ok.universe c.in-Ok.eof c.new-order.ensures.universe c.in-Ok.ensures.root.0 c.in-Ok.ensures.root.1)) [ inl u ↦ inl u | inr r ↦ inr (r.0, r.1.stop) ]) in
    (c.answers.ensures.sink c.args.ctx.now image (strategy_data c.args.strategy.now) (g.B.BatchSource.kind c.args.source.now) c.args.schedule.now (g.B.BatchSource.to_come c.args.source.now) (g.B.BatchSource.to_come c.write_in-written.new.source) (g.S.SegmentSink.borrow c.args.sink) (g.S.SegmentSink.next c.args.sink) (g.S.SegmentSink.segments c.args.sink) c.write_in-written.new.steps.items (outlet_of g.S.SegmentSink.borrow g.S.SegmentSink.next g.S.SegmentSink.segments c.into_sink-sink.result) (Err c.in-Err.error) keeps told).0.0

pub returns-in-Err-clause-borrow : goal.returns-in-Err-clause-borrow
returns-in-Err-clause-borrow g c =
    let image : ℕ → ChunkData → ChunkData = g.C.CompressorPlugin.image (g.C.CompressorPlugin.kind c.args.compressor.now) in
    let keeps : Keeps (setting_of c.args.ctx.now image) = setting_keeps c.real_settings_keep.ensures.keeps c.args.ctx.now image
    (ap (λ z. first_repeat z) (sym c.array_ctx.ensures) ∙ c.ids.ensures.distinct) (g.met.C.CompressorPlugin.keeps (g.C.CompressorPlugin.kind c.args.compressor.now)) in
    let told = handed g.S.SegmentSink.borrow g.S.SegmentSink.next g.S.SegmentSink.segments (λ x y. Answered c.args.ctx.now image (strategy_data c.args.strategy.now) (g.B.BatchSource.kind c.args.source.now) c.args.schedule.now (g.B.BatchSource.to_come c.args.source.now) x c.write_in-written.new.steps.items (g.B.BatchSource.to_come c.write_in-written.new.source) y (Err c.in-Err.error)) c.args.sink c.new-order.result.sink c.write_in-written.new.order.sink c.into_sink-sink.result c.new-order.ensures.sink c.into_sink-sink.ensures
    (elim (c.in-Err.ensures.ran c.in-Ok.ensures.root.1 (first_held c.new-order.result.universe c.in-Ok.universe c.in-Ok.eof c.new-order.ensures.universe c.in-Ok.ensures.root.0 c.in-Ok.ensures.root.1)) [ inl u ↦ inl u | inr r ↦ inr (r.0, r.1.stop) ]) in
    (c.answers.ensures.sink c.args.ctx.now image (strategy_data c.args.strategy.now) (g.B.BatchSource.kind c.args.source.now) c.args.schedule.now (g.B.BatchSource.to_come c.args.source.now) (g.B.BatchSource.to_come c.write_in-written.new.source) (g.S.SegmentSink.borrow c.args.sink) (g.S.SegmentSink.next c.args.sink) (g.S.SegmentSink.segments c.args.sink) c.write_in-written.new.steps.items (outlet_of g.S.SegmentSink.borrow g.S.SegmentSink.next g.S.SegmentSink.segments c.into_sink-sink.result) (Err c.in-Err.error) keeps told).1

pub unreachable-requires : goal.unreachable-requires
unreachable-requires g c =
    let image : ℕ → ChunkData → ChunkData = g.C.CompressorPlugin.image (g.C.CompressorPlugin.kind c.args.compressor.now) in
    let keeps : Keeps (setting_of c.args.ctx.now image) = setting_keeps c.real_settings_keep.ensures.keeps c.args.ctx.now image
    (ap (λ z. first_repeat z) (sym c.array_ctx.ensures) ∙ c.ids.ensures.distinct) (g.met.C.CompressorPlugin.keeps (g.C.CompressorPlugin.kind c.args.compressor.now)) in
    let told = handed g.S.SegmentSink.borrow g.S.SegmentSink.next g.S.SegmentSink.segments (λ x y. Answered c.args.ctx.now image (strategy_data c.args.strategy.now) (g.B.BatchSource.kind c.args.source.now) c.args.schedule.now (g.B.BatchSource.to_come c.args.source.now) x c.write_in-written.new.steps.items (g.B.BatchSource.to_come c.write_in-written.new.source) y (Ok None)) c.args.sink c.new-order.result.sink c.write_in-written.new.order.sink c.into_sink-sink.result c.new-order.ensures.sink c.into_sink-sink.ensures
    (subst (λ (l : Option Layout). Answered c.args.ctx.now image (strategy_data c.args.strategy.now) (g.B.BatchSource.kind c.args.source.now) c.args.schedule.now (g.B.BatchSource.to_come c.args.source.now) (outlet_of g.S.SegmentSink.borrow g.S.SegmentSink.next g.S.SegmentSink.segments c.new-order.result.sink) c.write_in-written.new.steps.items (g.B.BatchSource.to_come c.write_in-written.new.source) (outlet_of g.S.SegmentSink.borrow g.S.SegmentSink.next g.S.SegmentSink.segments c.write_in-written.new.order.sink) (Ok l)) c.in-Ok-None.field-0-is
    (c.in-Ok-None.ensures.ran c.in-Ok.ensures.root.1 (first_held c.new-order.result.universe c.in-Ok.universe c.in-Ok.eof c.new-order.ensures.universe c.in-Ok.ensures.root.0 c.in-Ok.ensures.root.1))) in
    (c.answers.ensures.written c.args.ctx.now image (strategy_data c.args.strategy.now) (g.B.BatchSource.kind c.args.source.now) c.args.schedule.now (g.B.BatchSource.to_come c.args.source.now) (g.B.BatchSource.to_come c.write_in-written.new.source) (g.S.SegmentSink.borrow c.args.sink) (g.S.SegmentSink.next c.args.sink) (g.S.SegmentSink.segments c.args.sink) c.write_in-written.new.steps.items (outlet_of g.S.SegmentSink.borrow g.S.SegmentSink.next g.S.SegmentSink.segments c.into_sink-sink.result) (Ok None) keeps told).1

pub returns-in_default-clause-halted : goal.returns-in_default-clause-halted
returns-in_default-clause-halted g c =
    let image : ℕ → ChunkData → ChunkData = g.C.CompressorPlugin.image (g.C.CompressorPlugin.kind c.args.compressor.now) in
    let keeps : Keeps (setting_of c.args.ctx.now image) = setting_keeps c.real_settings_keep.ensures.keeps c.args.ctx.now image
    (ap (λ z. first_repeat z) (sym c.array_ctx.ensures) ∙ c.ids.ensures.distinct) (g.met.C.CompressorPlugin.keeps (g.C.CompressorPlugin.kind c.args.compressor.now)) in
    c.answers.ensures.written c.args.ctx.now image (strategy_data c.args.strategy.now) (g.B.BatchSource.kind c.args.source.now) c.args.schedule.now (g.B.BatchSource.to_come c.args.source.now)
    (g.B.BatchSource.to_come c.args.source.now) (g.S.SegmentSink.borrow c.args.sink) (g.S.SegmentSink.next c.args.sink) (g.S.SegmentSink.segments c.args.sink) c.args.steps.now.items (outlet_of g.S.SegmentSink.borrow g.S.SegmentSink.next g.S.SegmentSink.segments c.args.sink) (Err OutOfMemory) keeps
    (inl (record { cause = inl refl; told = refl; kept = (refl, refl, refl); none = c.requires }))
