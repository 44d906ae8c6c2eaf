use Rattle.vx_column_worker.proofs.Staffing.{zipped_back}
use Rattle.vx_column_worker.proofs.staff.run_workers.Goals as goal

pub returns-clause-each : goal.returns-clause-each
returns-clause-each g c =
    zipped_back _ c.args.workers.now.len c.args.workers.now.items c.as_mut_slice.result.now c.run_each.new.workers c.as_mut_slice.ensures.value c.run_each.ensures.count c.args.workers.now.ok.0
    c.run_each.ensures.each
