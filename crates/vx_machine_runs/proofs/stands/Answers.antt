use Rattle.vx_machine_runs.proofs.Misfits.{misfit_is_read}
use Rattle.vx_machine_runs.proofs.Sounding.{idle_is_finished, history_is_front, append_is_one_more, past_is_caused, start_is_caused, valid_is_sound, valid_starts}
use Rattle.vx_machine_runs.proofs.stands.Goals as goal

pub returns-clause-idle : goal.returns-clause-idle
returns-clause-idle c = idle_is_finished

pub returns-clause-misfits : goal.returns-clause-misfits
returns-clause-misfits c = misfit_is_read

pub returns-clause-front : goal.returns-clause-front
returns-clause-front c = history_is_front c.fronts.ensures

pub returns-clause-append : goal.returns-clause-append
returns-clause-append c = append_is_one_more c.valid.ensures.appends

pub returns-clause-past : goal.returns-clause-past
returns-clause-past c = past_is_caused

pub returns-clause-start : goal.returns-clause-start
returns-clause-start c = start_is_caused c.causes.ensures.start

pub returns-clause-valid : goal.returns-clause-valid
returns-clause-valid c = valid_is_sound c.causes.ensures.refusals c.causes.ensures.moves

pub returns-clause-begins : goal.returns-clause-begins
returns-clause-begins c = valid_starts c.causes.ensures.start
