use Rattle.vx_cut_laws.proofs.Runs.{refused_early, cut_is_done}
use Rattle.vx_cut_laws.proofs.work.Goals as goal

pub returns-clause-refused : goal.returns-clause-refused
returns-clause-refused c = refused_early

pub returns-clause-done : goal.returns-clause-done
returns-clause-done c = cut_is_done
