use Rattle.vx_machine_runs.proofs.Coursing.{course_is_underway, course_is_ready, course_is_front, course_goes_on}
use Rattle.vx_machine_runs.proofs.Naming.{course_has_names}
use Rattle.vx_machine_runs.proofs.courses.Goals as goal

pub returns-clause-underway : goal.returns-clause-underway
returns-clause-underway c = let a = c.anywhere.ensures in course_is_underway a.start a.step a.stands a.falls a.front a.apart

pub returns-clause-ready : goal.returns-clause-ready
returns-clause-ready c = let a = c.anywhere.ensures in course_is_ready a.start a.step a.stands a.falls a.front a.apart a.ready

pub returns-clause-front : goal.returns-clause-front
returns-clause-front c = let a = c.anywhere.ensures in course_is_front a.start a.step a.stands a.falls a.front a.apart

pub returns-clause-on : goal.returns-clause-on
returns-clause-on c = let a = c.anywhere.ensures in course_goes_on a.start a.step a.stands a.falls a.front a.apart

pub returns-clause-names : goal.returns-clause-names
returns-clause-names c = course_has_names
