use Rattle.vx_write.proofs.Writing.{done_is_written, runs_leave_sinks}
use Rattle.vx_write.proofs.Stopping.{stopped_halts}
use Rattle.vx_write.proofs.laws.writes.Goals as goal

pub returns-clause-done : goal.returns-clause-done
returns-clause-done c =
    done_is_written c.runs.ensures.run c.runs.ensures.by c.ends.ensures.whole c.traces.ensures.whole c.counts.ensures.fit c.rows_come_back.ensures

pub returns-clause-stopped : goal.returns-clause-stopped
returns-clause-stopped c =
    stopped_halts c.steps.ensures.start c.steps.ensures.step c.runs.ensures.run c.runs.ensures.by c.stands.ensures.front c.ends.ensures.causes c.stands.ensures.append c.traces.ensures.first c.traces.ensures.refused c.traces.ensures.misfit c.traces.ensures.more c.ends.ensures.ready c.tracks.ensures.comes

pub returns-clause-left : goal.returns-clause-left
returns-clause-left c = runs_leave_sinks c.runs.ensures.run
