use Rattle.std.proofs.Common.{◌≡◌, ◌∙◌, ℕ, map, refl, sym, ap, rules, vec_len}
use Rattle.std.proofs.lemmas.Result.{IfOk-weaker}
use Rattle.vx_model.specs.ChunkData.{ChunkData}
use Rattle.vx_model.specs.Distinct.{first_repeat}
use Rattle.vx_layout_tree.specs.LayoutView.{layout_data}
use Rattle.vx_strategy_spec.specs.Dispatch.{dispatch}
use Rattle.vx_strategy.specs.FieldWays.{field_ways}
use Rattle.vx_strategy.specs.NodeViews.{struct_way}
use Rattle.vx_strategy.specs.StrategyView.{strategy_data}
use Rattle.vx_sink.specs.ContextView.{is_marked}
use Rattle.vx_plan.specs.Valid.{Keeps}
use Rattle.vx_machine_node.specs.Context.{setting_of}
use Rattle.vx_write_columns.proofs.Readable.{setting_keeps, planned_readable}
use Rattle.vx_write_columns.specs.Beside.{kind_of}
use Rattle.vx_write_columns.proofs.Complete.{err_both, columns_there, complete_halted}
use Rattle.vx_write_columns.proofs.Halting.{halted_unread}
use Rattle.vx_write_columns.proofs.Lent.{all_kept_so}
use Rattle.vx_write_columns.proofs.write.write_columns.Goals as goal

pub returns-in-Struct-clause-wrote : goal.returns-in-Struct-clause-wrote
returns-in-Struct-clause-wrote g c =
    let image : ℕ → ChunkData → ChunkData = g.C.CompressorPlugin.image (kind_of (map g.C.CompressorPlugin.kind c.args.compressors.items)) in
    let keeps : Keeps (setting_of c.args.ctx.now image) = setting_keeps c.real_settings_keep.ensures.keeps c.args.ctx.now image
    (ap (λ z. first_repeat z) (sym c.array_ctx.ensures) ∙ c.ids.ensures.distinct) ((g.met.C.CompressorPlugin g.world.𝓛 g.world.𝓜 g.world.𝓡 ((λ s x. x), (λ x. x), (λ x. x), (λ x. x))).keeps (kind_of (map g.C.CompressorPlugin.kind c.args.compressors.items))) in
    let at_type : dispatch (strategy_data c.args.strategy.now) (g.B.BatchSource.kind c.args.source.now) ≡ struct_way c.in-Struct.fields = search rules in
    IfOk-weaker c.write_fields.result _ _ (λ r h. h (strategy_data c.args.strategy.now) at_type keeps) c.write_fields.ensures.wrote

pub returns-in-Struct-clause-readable : goal.returns-in-Struct-clause-readable
returns-in-Struct-clause-readable g c =
    let image : ℕ → ChunkData → ChunkData = g.C.CompressorPlugin.image (kind_of (map g.C.CompressorPlugin.kind c.args.compressors.items)) in
    let keeps : Keeps (setting_of c.args.ctx.now image) = setting_keeps c.real_settings_keep.ensures.keeps c.args.ctx.now image
    (ap (λ z. first_repeat z) (sym c.array_ctx.ensures) ∙ c.ids.ensures.distinct) ((g.met.C.CompressorPlugin g.world.𝓛 g.world.𝓜 g.world.𝓡 ((λ s x. x), (λ x. x), (λ x. x), (λ x. x))).keeps (kind_of (map g.C.CompressorPlugin.kind c.args.compressors.items))) in
    IfOk-weaker c.write_fields.result _ _ (λ r h. planned_readable c.pruning_keeps_rows.ensures c.written_is_parsed.ensures.parsed c.written_is_parsed.ensures.known c.real_settings_keep.ensures.hash c.args.ctx.now image
    c.args.strategy.now (g.B.BatchSource.kind c.args.source.now) (is_marked c.args.ctx.now) (g.B.BatchSource.to_come c.args.source.now) (g.S.SegmentSink.next c.args.sink) (g.S.SegmentSink.next r.1)
    (g.S.SegmentSink.segments c.args.sink) (g.S.SegmentSink.segments r.1) (layout_data r.0) keeps h) (returns-in-Struct-clause-wrote g c)

pub returns-in-Struct-clause-complete : goal.returns-in-Struct-clause-complete
returns-in-Struct-clause-complete g c = λ xs told valid calm.
    let at_type : dispatch (strategy_data c.args.strategy.now) (g.B.BatchSource.kind c.args.source.now) ≡ struct_way c.in-Struct.fields = search rules in
    err_both c.write_fields.result _ _ _ (λ r h f still quiet.
    complete_halted c.anywhere.ensures.moves _ (strategy_data c.args.strategy.now) (g.B.BatchSource.kind c.args.source.now) (is_marked c.args.ctx.now) _ _ _ _ _ _ _ _ _ _ _ r.0 (h (strategy_data c.args.strategy.now) at_type) _ _ _ _ _ _ _ f
    c.in-Struct.fields.validity.item c.in-Struct.fields.default.item (field_ways c.in-Struct.fields.writers.items) (vec_len c.args.compressors)
    (columns_there (strategy_data c.args.strategy.now) (g.B.BatchSource.kind c.args.source.now) (vec_len c.args.compressors) c.requires.columns) at_type xs told valid calm still quiet)
    c.write_fields.ensures.halted c.write_fields.ensures.failed

pub returns-in-Ok-Struct-clause-wrote : goal.returns-in-Ok-Struct-clause-wrote
returns-in-Ok-Struct-clause-wrote g c =
    let image : ℕ → ChunkData → ChunkData = g.C.CompressorPlugin.image (kind_of (map g.C.CompressorPlugin.kind c.args.compressors.items)) in
    let keeps : Keeps (setting_of c.args.ctx.now image) = setting_keeps c.real_settings_keep.ensures.keeps c.args.ctx.now image
    (ap (λ z. first_repeat z) (sym c.array_ctx.ensures) ∙ c.ids.ensures.distinct) ((g.met.C.CompressorPlugin g.world.𝓛 g.world.𝓜 g.world.𝓡 ((λ s x. x), (λ x. x), (λ x. x), (λ x. x))).keeps (kind_of (map g.C.CompressorPlugin.kind c.args.compressors.items))) in
    let at_type : dispatch (strategy_data c.args.strategy.now) (g.B.BatchSource.kind c.args.source.now) ≡ struct_way c.in-Ok-Struct.fields = search rules in
    IfOk-weaker c.write_fields-in-Ok-Struct.result _ _ (λ r h. h (strategy_data c.args.strategy.now) at_type keeps) c.write_fields-in-Ok-Struct.ensures.wrote

pub returns-in-Ok-Struct-clause-readable : goal.returns-in-Ok-Struct-clause-readable
returns-in-Ok-Struct-clause-readable g c =
    let image : ℕ → ChunkData → ChunkData = g.C.CompressorPlugin.image (kind_of (map g.C.CompressorPlugin.kind c.args.compressors.items)) in
    let keeps : Keeps (setting_of c.args.ctx.now image) = setting_keeps c.real_settings_keep.ensures.keeps c.args.ctx.now image
    (ap (λ z. first_repeat z) (sym c.array_ctx.ensures) ∙ c.ids.ensures.distinct) ((g.met.C.CompressorPlugin g.world.𝓛 g.world.𝓜 g.world.𝓡 ((λ s x. x), (λ x. x), (λ x. x), (λ x. x))).keeps (kind_of (map g.C.CompressorPlugin.kind c.args.compressors.items))) in
    IfOk-weaker c.write_fields-in-Ok-Struct.result _ _ (λ r h. planned_readable c.pruning_keeps_rows.ensures c.written_is_parsed.ensures.parsed c.written_is_parsed.ensures.known c.real_settings_keep.ensures.hash c.args.ctx.now image
    c.args.strategy.now (g.B.BatchSource.kind c.args.source.now) (is_marked c.args.ctx.now) (g.B.BatchSource.to_come c.args.source.now) (g.S.SegmentSink.next c.args.sink) (g.S.SegmentSink.next r.1)
    (g.S.SegmentSink.segments c.args.sink) (g.S.SegmentSink.segments r.1) (layout_data r.0) keeps h) (returns-in-Ok-Struct-clause-wrote g c)

pub returns-in-Ok-Struct-clause-complete : goal.returns-in-Ok-Struct-clause-complete
returns-in-Ok-Struct-clause-complete g c = λ xs told valid calm.
    let at_type : dispatch (strategy_data c.args.strategy.now) (g.B.BatchSource.kind c.args.source.now) ≡ struct_way c.in-Ok-Struct.fields = search rules in
    err_both c.write_fields-in-Ok-Struct.result _ _ _ (λ r h f still quiet.
    complete_halted c.anywhere.ensures.moves _ (strategy_data c.args.strategy.now) (g.B.BatchSource.kind c.args.source.now) (is_marked c.args.ctx.now) _ _ _ _ _ _ _ _ _ _ _ r.0 (h (strategy_data c.args.strategy.now) at_type) _ _ _ _ _ _ _ f
    c.in-Ok-Struct.fields.validity.item c.in-Ok-Struct.fields.default.item (field_ways c.in-Ok-Struct.fields.writers.items) (vec_len c.args.compressors)
    (columns_there (strategy_data c.args.strategy.now) (g.B.BatchSource.kind c.args.source.now) (vec_len c.args.compressors) c.requires.columns) at_type xs told valid calm still quiet)
    c.write_fields-in-Ok-Struct.ensures.halted c.write_fields-in-Ok-Struct.ensures.failed

pub returns-in-Err-clause-halted : goal.returns-in-Err-clause-halted
returns-in-Err-clause-halted g c = halted_unread _ _ _ _ _ _ _ _ _ _ _ _ _ _ _ refl refl refl

pub returns-in-Err-clause-compressors_told : goal.returns-in-Err-clause-compressors_told
returns-in-Err-clause-compressors_told g c = all_kept_so _ _ c.args.compressors.items
