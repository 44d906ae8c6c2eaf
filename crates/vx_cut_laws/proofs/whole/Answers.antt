use Rattle.vx_cut_laws.proofs.Runs.{nothing_cut}
use Rattle.vx_cut_laws.proofs.whole.Goals as goal

pub returns : goal.returns
returns c = nothing_cut
