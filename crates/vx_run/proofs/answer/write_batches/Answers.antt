use Rattle.std.proofs.Common.{false, Some, sym, ap, ◌∙◌}
use Rattle.vx_sink.specs.ContextView.{is_marked}
use Rattle.vx_compressor_spec.specs.TableImage.{table_image}
use Rattle.vx_write.specs.Context.{setting_of}
use Rattle.vx_job.specs.JobText.{JobData}
use Rattle.vx_job.specs.JobView.{job_view}
use Rattle.vx_run.proofs.MemoryWrites.{same_setting}
use Rattle.vx_run.proofs.JobSteps.{same_pieces, job_written, written_tables, written_fits, job_refused, refused_fits}
use Rattle.vx_run.proofs.answer.write_batches.Goals as goal

pub returns-in-Ok-clause-ok : goal.returns-in-Ok-clause-ok
returns-in-Ok-clause-ok g c =
    let j : JobData = job_view c.args.job in
    job_written j (setting_of c.context-ctx.result table_image) _ (is_marked c.context-ctx.result) false false false
    (record {
      setting = same_setting _ _ _ _ c.context-ctx.ensures.listed c.context-ctx.ensures.allowed;
      schema = c.new-source.ensures.kind ∙ c.new-batches.ensures.kind;
      marked = c.context-ctx.ensures.marked;
      numbers = c.new-sink.ensures.next ∙ c.new-segments.ensures.next;
      counted = c.context-ctx.ensures.counted;
      batches = c.new-source.ensures.to_come ∙ (c.new-batches.ensures.batches ∙ ap Some (same_pieces j.batches));
      none = c.new-sink.ensures.segments ∙ c.new-segments.ensures.segments;
      picks = c.deref.ensures.value;
    })
    (record {
      may_of_source = λ k h. c.new-batches.ensures.may_fail k (c.new-source.ensures.may_fail k h);
      must_of_source = λ k h. c.new-source.ensures.must_fail k (c.new-batches.ensures.must_fail k h);
      may_of_sink = λ k h. c.new-segments.ensures.may_fail k (c.new-sink.ensures.may_fail k h);
      must_of_sink = λ k h. c.new-sink.ensures.must_fail k (c.new-segments.ensures.must_fail k h);
      may_of_compressor = c.new-compressor.ensures.may_fail;
      must_of_compressor = c.new-compressor.ensures.must_fail;
      source_none = c.new-source.ensures.faults ∙ c.new-batches.ensures.faults;
      sink_none = c.new-sink.ensures.faults ∙ c.new-segments.ensures.faults;
      compressor_none = c.new-compressor.ensures.faults;
    })
    (sym c.into_inner.ensures.segments ∙ c.into_segments.ensures) c.in-Ok.ensures.wrote c.in-Ok.ensures.readable c.in-Ok.ensures.trace c.in-Ok.ensures.appended c.in-Ok.ensures.source c.in-Ok.ensures.sink c.in-Ok.ensures.compressor

pub returns-in-Ok-clause-tables : goal.returns-in-Ok-clause-tables
returns-in-Ok-clause-tables g c = written_tables (job_view c.args.job) (returns-in-Ok-clause-ok g c)

pub returns-in-Ok-clause-numbered : goal.returns-in-Ok-clause-numbered
returns-in-Ok-clause-numbered g c = written_fits (job_view c.args.job) (c.new-sink.ensures.next ∙ c.new-segments.ensures.next) (returns-in-Ok-clause-ok g c) c.in-Ok.ensures.appended c.in-Ok.ensures.last

pub returns-clause-err : goal.returns-clause-err
returns-clause-err g c =
    let j : JobData = job_view c.args.job in
    job_refused j c.in-Err.refused.error (sym c.into_inner-in-Err.ensures.segments ∙ c.into_segments-in-Err.ensures)
    (record {
      start = record {
        setting = same_setting _ _ _ _ c.context-ctx.ensures.listed c.context-ctx.ensures.allowed;
        schema = c.new-source.ensures.kind ∙ c.new-batches.ensures.kind;
        marked = c.context-ctx.ensures.marked;
        numbers = c.new-sink.ensures.next ∙ c.new-segments.ensures.next;
        counted = c.context-ctx.ensures.counted;
        batches = c.new-source.ensures.to_come ∙ (c.new-batches.ensures.batches ∙ ap Some (same_pieces j.batches));
        none = c.new-sink.ensures.segments ∙ c.new-segments.ensures.segments;
        picks = c.deref.ensures.value;
      };
      failing = record {
        may_of_source = λ k h. c.new-batches.ensures.may_fail k (c.new-source.ensures.may_fail k h);
        must_of_source = λ k h. c.new-source.ensures.must_fail k (c.new-batches.ensures.must_fail k h);
        may_of_sink = λ k h. c.new-segments.ensures.may_fail k (c.new-sink.ensures.may_fail k h);
        must_of_sink = λ k h. c.new-sink.ensures.must_fail k (c.new-segments.ensures.must_fail k h);
        may_of_compressor = c.new-compressor.ensures.may_fail;
        must_of_compressor = c.new-compressor.ensures.must_fail;
        source_none = c.new-source.ensures.faults ∙ c.new-batches.ensures.faults;
        sink_none = c.new-sink.ensures.faults ∙ c.new-segments.ensures.faults;
        compressor_none = c.new-compressor.ensures.faults;
      };
      halted = c.in-Err.ensures.halted;
      source = c.in-Err.ensures.source;
      sink = c.in-Err.ensures.sink;
      compressor = c.in-Err.ensures.compressor;
      appended = c.in-Err.ensures.appended;
      complete = c.in-Err.ensures.complete;
    })

pub returns-clause-numbered : goal.returns-clause-numbered
returns-clause-numbered g c = refused_fits (job_view c.args.job) (c.new-sink.ensures.next ∙ c.new-segments.ensures.next) (c.new-sink.ensures.segments ∙ c.new-segments.ensures.segments) (sym c.into_inner-in-Err.ensures.segments ∙ c.into_segments-in-Err.ensures) c.in-Err.ensures.halted c.in-Err.ensures.last
