use Rattle.vx_machine_runs.proofs.Counting.{ready_is_within_left}
use Rattle.vx_machine_runs.proofs.Tracing.{ready_is_within_work, next_is_within_work, notes_are_within_work, notes_are_first, notes_are_fewer, ready_is_more, notes_are_whole, refusal_is_last, misfit_is_last, appends_are_noted}
use Rattle.vx_machine_runs.proofs.traces.Goals as goal

pub returns-clause-left : goal.returns-clause-left
returns-clause-left c = ready_is_within_left

pub returns-clause-work : goal.returns-clause-work
returns-clause-work c = ready_is_within_work c.progress.ensures.shared

pub returns-clause-next : goal.returns-clause-next
returns-clause-next c = next_is_within_work

pub returns-clause-within : goal.returns-clause-within
returns-clause-within c = notes_are_within_work c.traces.ensures.first

pub returns-clause-first : goal.returns-clause-first
returns-clause-first c = notes_are_first c.traces.ensures.first

pub returns-clause-fewer : goal.returns-clause-fewer
returns-clause-fewer c = notes_are_fewer c.progress.ensures.ready c.traces.ensures.fewer

pub returns-clause-more : goal.returns-clause-more
returns-clause-more c = ready_is_more c.traces.ensures.fewer

pub returns-clause-whole : goal.returns-clause-whole
returns-clause-whole c = notes_are_whole c.ends.ensures c.traces.ensures.whole c.traces.ensures.all

pub returns-clause-refused : goal.returns-clause-refused
returns-clause-refused c = refusal_is_last c.traces.ensures.whole

pub returns-clause-appends : goal.returns-clause-appends
returns-clause-appends c = appends_are_noted

pub returns-clause-misfit : goal.returns-clause-misfit
returns-clause-misfit c = misfit_is_last c.traces.ensures.whole
