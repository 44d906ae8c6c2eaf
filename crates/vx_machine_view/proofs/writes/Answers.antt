use Rattle.vx_machine_view.proofs.Underway.{reached_stands, append_is_next, write_moves, write_steps, write_ready, write_ends, write_joins}
use Rattle.vx_machine_view.proofs.writes.Goals as goal

pub returns-clause-stands : goal.returns-clause-stands
returns-clause-stands c = reached_stands

pub returns-clause-number : goal.returns-clause-number
returns-clause-number c = append_is_next

pub returns-clause-steps : goal.returns-clause-steps
returns-clause-steps c = write_steps

pub returns-clause-moves : goal.returns-clause-moves
returns-clause-moves c = write_moves

pub returns-clause-ready : goal.returns-clause-ready
returns-clause-ready c = write_ready

pub returns-clause-ends : goal.returns-clause-ends
returns-clause-ends c = write_ends

pub returns-clause-joins : goal.returns-clause-joins
returns-clause-joins c = write_joins
