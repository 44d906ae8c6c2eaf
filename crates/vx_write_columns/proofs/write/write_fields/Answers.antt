use Rattle.std.proofs.Common.{◌≡◌, ◌+◌, ◌^◌, ◌<◌, ℕ, Some, map, refl, sym, ap, subst, vec_len, ◌∙◌, arith}
use Rattle.std.proofs.lemmas.Result.{IfOk-weaker, IfErr-weaker}
use Rattle.vx_layout_tree.specs.LayoutView.{layout_data}
use Rattle.vx_strategy.specs.FieldWays.{field_ways}
use Rattle.vx_sink.specs.ContextView.{is_marked}
use Rattle.vx_plan.specs.PlanData.{Setting}
use Rattle.vx_machine_node.specs.Context.{setting_of}
use Rattle.vx_write_columns.specs.Beside.{kind_of, PassesBeside}
use Rattle.vx_write_columns.proofs.Fields.{fields_counted, fields_few, fields_fit, fields_sum, fields_wrote, fields_halted}
use Rattle.vx_write_columns.proofs.Halting.{halted_unprepared, unprepared_not_sink, unprepared_not_press}
use Rattle.vx_write_columns.proofs.Lent.{none_failed}
use Rattle.vx_write_columns.proofs.write.write_fields.Goals as goal

pub write_shared-requires-clause-count : goal.write_shared-requires-clause-count
write_shared-requires-clause-count g c κs within =
    let count : c.len-count.result ≡ vec_len c.args.compressors = omega arith in
    let counted = fields_counted g.C.CompressorPlugin.image g.C.CompressorPlugin.kind _ _ _ _ c.args.ctx.now (kind_of (map g.C.CompressorPlugin.kind c.args.compressors.items))
    c.args.fields.now.validity.item c.args.fields.now.default.item (field_ways c.args.fields.now.writers.items) (is_marked c.args.ctx.now) c.in-Ok.ensures.read.0 c.len-count.result c.in-Ok.columns c.args.compressors.items
    (g.B.BatchSource.kind c.args.source.now) (c.requires.columns ∙ ap (λ (z : ℕ). Some z) (sym count)) c.in-Ok.ensures.read.2 (sym c.args.compressors.ok.0 ∙ sym count) c.requires.kind in
    let few = fields_few g.C.CompressorPlugin.image g.C.CompressorPlugin.kind _ _ _ _ c.args.ctx.now (kind_of (map g.C.CompressorPlugin.kind c.args.compressors.items))
    c.args.fields.now.validity.item c.args.fields.now.default.item (field_ways c.args.fields.now.writers.items) (is_marked c.args.ctx.now) c.in-Ok.ensures.read.0 c.len-count.result c.in-Ok.columns c.args.compressors.items
    (g.B.BatchSource.kind c.args.source.now) (c.requires.columns ∙ ap (λ (z : ℕ). Some z) (sym count)) c.in-Ok.ensures.read.2 (sym c.args.compressors.ok.0 ∙ sym count) c.requires.kind in
    (counted.0 ∙ ap (λ (z : ℕ). Some z) count, c.in-Ok.columns.fronts.ok.0 ∙ counted.1 ∙ count, c.in-Ok.columns.inputs.ok.0 ∙ counted.2 ∙ count, refl, c.requires.some, subst (λ z. z + 1 < 2 ^ 64) count few)

pub write_shared-requires-clause-fits : goal.write_shared-requires-clause-fits
write_shared-requires-clause-fits g c κs within =
    let count : c.len-count.result ≡ vec_len c.args.compressors = omega arith in
    fields_fit g.C.CompressorPlugin.image g.C.CompressorPlugin.kind _ _ _ _ c.args.ctx.now (kind_of (map g.C.CompressorPlugin.kind c.args.compressors.items))
    c.args.fields.now.validity.item c.args.fields.now.default.item (field_ways c.args.fields.now.writers.items) (is_marked c.args.ctx.now) c.in-Ok.ensures.read.0 c.len-count.result c.in-Ok.columns c.args.compressors.items
    (g.B.BatchSource.kind c.args.source.now) (c.requires.columns ∙ ap (λ (z : ℕ). Some z) (sym count)) c.in-Ok.ensures.read.2 (sym c.args.compressors.ok.0 ∙ sym count) c.requires.kind

pub write_shared-requires-clause-all : goal.write_shared-requires-clause-all
write_shared-requires-clause-all g c κs within =
    let count : c.len-count.result ≡ vec_len c.args.compressors = omega arith in
    fields_sum g.C.CompressorPlugin.image g.C.CompressorPlugin.kind _ _ _ _ c.args.ctx.now (kind_of (map g.C.CompressorPlugin.kind c.args.compressors.items))
    c.args.fields.now.validity.item c.args.fields.now.default.item (field_ways c.args.fields.now.writers.items) (is_marked c.args.ctx.now) c.in-Ok.ensures.read.0 c.len-count.result c.in-Ok.columns c.args.compressors.items
    (g.B.BatchSource.kind c.args.source.now) (c.requires.columns ∙ ap (λ (z : ℕ). Some z) (sym count)) c.in-Ok.ensures.read.2 (sym c.args.compressors.ok.0 ∙ sym count) c.requires.kind

pub returns-in-Ok-clause-wrote : goal.returns-in-Ok-clause-wrote
returns-in-Ok-clause-wrote g c =
    let count : c.len-count.result ≡ vec_len c.args.compressors = omega arith in
    IfOk-weaker c.write_shared.result _ _ (λ r h w at_type keeps.
    fields_wrote g.C.CompressorPlugin.image g.C.CompressorPlugin.kind _ _ _ _ c.args.ctx.now (kind_of (map g.C.CompressorPlugin.kind c.args.compressors.items))
    c.args.fields.now.validity.item c.args.fields.now.default.item (field_ways c.args.fields.now.writers.items) (is_marked c.args.ctx.now) c.in-Ok.ensures.read.0 c.len-count.result c.in-Ok.columns c.args.compressors.items
    (g.B.BatchSource.kind c.args.source.now) (c.requires.columns ∙ ap (λ (z : ℕ). Some z) (sym count)) c.in-Ok.ensures.read.2 (sym c.args.compressors.ok.0 ∙ sym count) c.requires.kind
    w at_type _ _ _ _ _ _ _ _ _ _ c.in-Ok.ensures.read.1 c.rows_come_back.ensures keeps (layout_data r.0) h) c.write_shared.ensures.done

pub returns-in-Ok-clause-halted : goal.returns-in-Ok-clause-halted
returns-in-Ok-clause-halted g c =
    let count : c.len-count.result ≡ vec_len c.args.compressors = omega arith in
    IfErr-weaker c.write_shared.result _ _ (λ r h w at_type.
    fields_halted g.C.CompressorPlugin.image g.C.CompressorPlugin.kind _ _ _ _ c.args.ctx.now (kind_of (map g.C.CompressorPlugin.kind c.args.compressors.items))
    c.args.fields.now.validity.item c.args.fields.now.default.item (field_ways c.args.fields.now.writers.items) (is_marked c.args.ctx.now) c.in-Ok.ensures.read.0 c.len-count.result c.in-Ok.columns c.args.compressors.items
    (g.B.BatchSource.kind c.args.source.now) (c.requires.columns ∙ ap (λ (z : ℕ). Some z) (sym count)) c.in-Ok.ensures.read.2 (sym c.args.compressors.ok.0 ∙ sym count) c.requires.kind
    w at_type _ _ _ _ _ _ _ _ _ _ c.in-Ok.ensures.read.1 _ r.0 h) c.write_shared.ensures.stopped

pub returns-in-Err-clause-halted : goal.returns-in-Err-clause-halted
returns-in-Err-clause-halted g c = λ w at_type.
    let s : Setting = setting_of c.args.ctx.now (g.C.CompressorPlugin.image (kind_of (map g.C.CompressorPlugin.kind c.args.compressors.items))) in
    halted_unprepared s w (g.B.BatchSource.kind c.args.source.now) (is_marked c.args.ctx.now) (PassesBeside s w (g.B.BatchSource.kind c.args.source.now) (is_marked c.args.ctx.now)) _ _ _ _ _ _ _ _ _ c.in-Err.error
    c.args.fields.now.validity.item c.args.fields.now.default.item (field_ways c.args.fields.now.writers.items) c.args.compressors.len c.requires.columns at_type c.in-Err.ensures.refused

pub returns-in-Err-clause-failed : goal.returns-in-Err-clause-failed
returns-in-Err-clause-failed g c =
    none_failed _ _ _ _ c.args.compressors.items c.in-Err.error
    (unprepared_not_sink (g.B.BatchSource.kind c.args.source.now) _ _ _ _ _ _ c.in-Err.error c.in-Err.ensures.refused)
    (unprepared_not_press (g.B.BatchSource.kind c.args.source.now) _ _ _ _ _ _ c.in-Err.error c.in-Err.ensures.refused)
