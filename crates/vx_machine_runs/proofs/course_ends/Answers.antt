use Rattle.vx_machine_runs.proofs.Coursing.{ends_as_planned, course_has_cause, course_misfit_is_read, course_start_has_cause}
use Rattle.vx_machine_runs.proofs.course_ends.Goals as goal

pub returns-clause-ends : goal.returns-clause-ends
returns-clause-ends c = let a = c.anywhere.ensures in ends_as_planned a.start a.step a.stands a.falls a.front a.apart a.ends

pub returns-clause-causes : goal.returns-clause-causes
returns-clause-causes c = let a = c.anywhere.ensures in course_has_cause a.start a.step a.stands a.falls a.front a.apart a.refusals a.moves

pub returns-clause-starts : goal.returns-clause-starts
returns-clause-starts c = course_start_has_cause c.anywhere.ensures.starts

pub returns-clause-misfits : goal.returns-clause-misfits
returns-clause-misfits c = let a = c.anywhere.ensures in course_misfit_is_read a.start a.step a.stands a.falls a.front a.apart
