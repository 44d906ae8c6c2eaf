use Rattle.vx_cut_laws.proofs.Runs.{same_moves, same_held, same_runs, same_trace}
use Rattle.vx_cut_laws.proofs.same.Goals as goal

pub returns-clause-moves : goal.returns-clause-moves
returns-clause-moves c = same_moves

pub returns-clause-held : goal.returns-clause-held
returns-clause-held c = same_held

pub returns-clause-runs : goal.returns-clause-runs
returns-clause-runs c = same_runs

pub returns-clause-traces : goal.returns-clause-traces
returns-clause-traces c = same_trace
