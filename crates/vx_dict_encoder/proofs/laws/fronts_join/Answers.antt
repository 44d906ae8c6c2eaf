use Rattle.vx_dict_encoder.proofs.FrontLaws.{fronts_join}
use Rattle.vx_dict_encoder.proofs.laws.fronts_join.Goals as goal

pub returns : goal.returns
returns c = fronts_join
