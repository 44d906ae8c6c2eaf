use Rattle.std.proofs.Common.{Some, refl, ap, ◌∙◌}
use Rattle.vx_sink.specs.ContextView.{is_marked}
use Rattle.vx_compressor_spec.specs.TableImage.{table_image}
use Rattle.vx_machine_node.specs.Context.{setting_of}
use Rattle.vx_job.specs.JobText.{JobData}
use Rattle.vx_job.specs.JobView.{job_view}
use Rattle.vx_run.proofs.MemoryWrites.{same_setting}
use Rattle.vx_run.proofs.JobSteps.{same_pieces}
use Rattle.vx_write_columns.proofs.OneKind.{one_kind}
use Rattle.vx_run_columns.proofs.JobsBeside.{job_written, written_fits, job_refused}
use Rattle.vx_run_columns.proofs.answer.write_batches.Goals as goal

pub write_columns-requires-clause-kind : goal.write_columns-requires-clause-kind
write_columns-requires-clause-kind g c lifetimes outlive = one_kind (λ c. 0) 0 (λ c. refl) c.args.compressors.items

pub returns-in-Ok-clause-ok : goal.returns-in-Ok-clause-ok
returns-in-Ok-clause-ok g c =
    let j : JobData = job_view c.args.job in
    job_written j (setting_of c.context-ctx.result table_image) _ (is_marked c.context-ctx.result)
    (record {
      setting = same_setting _ _ _ _ c.context-ctx.ensures.listed c.context-ctx.ensures.allowed;
      schema = c.new-source.ensures.kind;
      marked = c.context-ctx.ensures.marked;
      numbers = c.new-sink.ensures.next;
      batches = c.new-source.ensures.batches ∙ ap Some (same_pieces j.batches);
      none = c.new-sink.ensures.segments;
    })
    c.new-source.ensures.must_fail (c.into_segments.ensures) c.in-Ok.ensures.wrote c.in-Ok.ensures.readable c.in-Ok.ensures.read

pub returns-in-Ok-clause-numbered : goal.returns-in-Ok-clause-numbered
returns-in-Ok-clause-numbered g c = written_fits (job_view c.args.job) (returns-in-Ok-clause-ok g c)

pub returns-clause-err : goal.returns-clause-err
returns-clause-err g c =
    let j : JobData = job_view c.args.job in
    job_refused j c.in-Err.error
    (record {
      start = record {
        setting = same_setting _ _ _ _ c.context-ctx.ensures.listed c.context-ctx.ensures.allowed;
        schema = c.new-source.ensures.kind;
        marked = c.context-ctx.ensures.marked;
        numbers = c.new-sink.ensures.next;
        batches = c.new-source.ensures.batches ∙ ap Some (same_pieces j.batches);
        none = c.new-sink.ensures.segments;
      };
      failing = record {
        may_of_source = c.new-source.ensures.may_fail;
        must_of_source = c.new-source.ensures.must_fail;
        may_of_sink = c.new-sink.ensures.may_fail;
        source_none = c.new-source.ensures.faults;
        sink_none = c.new-sink.ensures.faults;
        compressors_by = c.requires.fail;
      };
      halted = c.in-Err.ensures.halted;
      sink = c.in-Err.ensures.sink;
      sink_told = c.in-Err.ensures.sink_told;
      compressor = c.in-Err.ensures.compressor;
      compressors_told = c.in-Err.ensures.compressors_told;
      complete = c.in-Err.ensures.complete;
    }) c.into_segments-in-Err.ensures
