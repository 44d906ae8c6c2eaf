use Rattle.std.proofs.Common.{sym, ◌∙◌}
use Rattle.vx_sink.specs.ContextView.{is_marked}
use Rattle.vx_compressor_spec.specs.TableImage.{table_image}
use Rattle.vx_write.specs.Context.{setting_of}
use Rattle.vx_generator.specs.Generated.{table_batches}
use Rattle.vx_run.proofs.MemoryWrites.{same_setting, is_calm, never_listed}
use Rattle.vx_run.proofs.WriteSteps.{table_written, valid_start}
use Rattle.vx_run.proofs.writing.write_by.Goals as goal

pub returns-in-Ok : goal.returns-in-Ok
returns-in-Ok g c =
    table_written c.args.count (setting_of c.new-ctx.result table_image) (is_marked c.new-ctx.result) (record {
      setting = same_setting _ _ _ _ (c.new-ctx.ensures.listed ∙ c.in_ok-all_encodings.ensures) c.new-ctx.ensures.allowed;
      way = c.requires.strategy;
      schema = c.new-source.ensures.kind ∙ c.in_ok-table.ensures.kind;
      marked = c.new-ctx.ensures.marked;
      numbers = c.new-sink.ensures.next ∙ c.new-segments.ensures.next;
      counted = c.new-ctx.ensures.counted;
      batches = c.new-source.ensures.to_come ∙ c.in_ok-table.ensures.batches;
      none = c.new-sink.ensures.segments ∙ c.new-segments.ensures.segments;
    })
    (sym c.into_inner.ensures.segments ∙ c.into_segments.ensures) c.in-Ok.ensures.wrote

pub unreachable-requires : goal.unreachable-requires
unreachable-requires g c =
    let valid = valid_start c.args.count (setting_of c.new-ctx.result table_image) (is_marked c.new-ctx.result) (record {
      setting = same_setting _ _ _ _ (c.new-ctx.ensures.listed ∙ c.in_ok-all_encodings.ensures) c.new-ctx.ensures.allowed;
      way = c.requires.strategy;
      schema = c.new-source.ensures.kind ∙ c.in_ok-table.ensures.kind;
      marked = c.new-ctx.ensures.marked;
      numbers = c.new-sink.ensures.next ∙ c.new-segments.ensures.next;
      counted = c.new-ctx.ensures.counted;
      batches = c.new-source.ensures.to_come ∙ c.in_ok-table.ensures.batches;
      none = c.new-sink.ensures.segments ∙ c.new-segments.ensures.segments;
    }) c.requires.few c.table_is_valid.ensures in
    c.in_default.not-OutOfMemory (c.in-Err.ensures.complete (table_batches c.args.count) (c.new-source.ensures.to_come ∙ c.in_ok-table.ensures.batches) valid
    (is_calm _ (c.new-source.ensures.faults ∙ c.in_ok-table.ensures.faults) (λ h. c.in_ok-table.ensures.may_fail 0 (c.new-source.ensures.may_fail 0 h)) c.in-Err.ensures.source)
    (is_calm _ (c.new-sink.ensures.faults ∙ c.new-segments.ensures.faults) (λ h. never_listed _ _ c.new-2.ensures.items (c.new-segments.ensures.may_fail _ (c.new-sink.ensures.may_fail _ h))) c.in-Err.ensures.sink)
    (is_calm _ c.new-compressor.ensures.faults (λ h. never_listed _ _ c.new-3.ensures.items (c.new-compressor.ensures.may_fail _ h)) c.in-Err.ensures.compressor))
