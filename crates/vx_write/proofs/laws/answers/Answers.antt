use Rattle.vx_write.proofs.Answering.{answers_are_written, answers_leave_sinks, answers_are_complete}
use Rattle.vx_write.proofs.Reading.{misfits_are_read}
use Rattle.vx_write.proofs.laws.answers.Goals as goal

pub returns-clause-written : goal.returns-clause-written
returns-clause-written c =
    answers_are_written c.writes.ensures.done c.writes.ensures.stopped c.writes.ensures.left c.start_faults_stand.ensures.stands c.start_faults_agree.ensures c.stands.ensures.start

pub returns-clause-sink : goal.returns-clause-sink
returns-clause-sink c =
    answers_leave_sinks c.writes.ensures.done c.writes.ensures.stopped c.writes.ensures.left c.start_faults_stand.ensures.stands c.start_faults_agree.ensures c.stands.ensures.start

pub returns-clause-complete : goal.returns-clause-complete
returns-clause-complete c =
    answers_are_complete c.writes.ensures.done c.writes.ensures.stopped c.writes.ensures.left c.start_faults_stand.ensures.stands c.start_faults_agree.ensures c.stands.ensures.start c.tracks.ensures.fits

pub returns-clause-misfit : goal.returns-clause-misfit
returns-clause-misfit c = misfits_are_read c.runs.ensures.run c.start_faults_agree.ensures
