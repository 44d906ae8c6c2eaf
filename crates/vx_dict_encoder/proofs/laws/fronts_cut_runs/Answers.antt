use Rattle.vx_dict_encoder.proofs.FrontLaws.{fronts_cut_runs}
use Rattle.vx_dict_encoder.proofs.laws.fronts_cut_runs.Goals as goal

pub returns : goal.returns
returns c = fronts_cut_runs
