use Rattle.vx_column_worker.proofs.Staffing.{written_job}
use Rattle.vx_column_worker.proofs.worker.Worker.run.Goals as goal

pub returns-clause-done : goal.returns-clause-done
returns-clause-done g c =
    written_job g.C.CompressorPlugin.image g.C.CompressorPlugin.kind c.args.self.now.seat.writes.amount c.write-done.new.self.seat.writes.amount c.args.self.now.job c.replace.new.dest c.in-Some.job c.write-done.result
    c.in-Some.ensures.value c.replace.ensures.after c.write-done.ensures.done
