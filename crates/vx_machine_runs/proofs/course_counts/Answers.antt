use Rattle.vx_machine_runs.proofs.CourseCounting.{course_is_counted, course_fits}
use Rattle.vx_machine_runs.proofs.course_counts.Goals as goal

pub returns-clause-counted : goal.returns-clause-counted
returns-clause-counted c = let a = c.anywhere.ensures in course_is_counted a.start a.step a.stands a.falls a.front a.apart a.ends

pub returns-clause-fit : goal.returns-clause-fit
returns-clause-fit c = let a = c.anywhere.ensures in course_fits a.start a.step a.stands a.falls a.front a.apart a.ends
