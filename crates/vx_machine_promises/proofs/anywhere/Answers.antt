use Rattle.vx_machine_promises.proofs.Standing.{state_stands_at, something_is_ready_at, work_falls_at, history_is_first_at, paths_are_apart_at}
use Rattle.vx_machine_promises.proofs.Stepping.{start_is_reached_at, step_is_reached_at}
use Rattle.vx_machine_promises.proofs.Ending.{end_is_planned_at}
use Rattle.vx_machine_promises.proofs.Causing.{refusals_have_cause_at, moves_are_counted_at, start_is_counted_at}
use Rattle.vx_machine_promises.proofs.Fitting.{valid_is_sound_at}
use Rattle.vx_machine_promises.proofs.anywhere.Goals as goal

pub returns-clause-start : goal.returns-clause-start
returns-clause-start c = start_is_reached_at

pub returns-clause-step : goal.returns-clause-step
returns-clause-step c = step_is_reached_at

pub returns-clause-stands : goal.returns-clause-stands
returns-clause-stands c = state_stands_at

pub returns-clause-ready : goal.returns-clause-ready
returns-clause-ready c = something_is_ready_at

pub returns-clause-falls : goal.returns-clause-falls
returns-clause-falls c = work_falls_at

pub returns-clause-front : goal.returns-clause-front
returns-clause-front c = history_is_first_at

pub returns-clause-apart : goal.returns-clause-apart
returns-clause-apart c = paths_are_apart_at

pub returns-clause-ends : goal.returns-clause-ends
returns-clause-ends c = end_is_planned_at

pub returns-clause-refusals : goal.returns-clause-refusals
returns-clause-refusals c = refusals_have_cause_at

pub returns-clause-moves : goal.returns-clause-moves
returns-clause-moves c = moves_are_counted_at

pub returns-clause-sound : goal.returns-clause-sound
returns-clause-sound c = valid_is_sound_at

pub returns-clause-starts : goal.returns-clause-starts
returns-clause-starts c = start_is_counted_at
