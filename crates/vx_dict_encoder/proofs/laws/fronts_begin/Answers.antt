use Rattle.vx_dict_encoder.proofs.FrontLaws.{fronts_begin}
use Rattle.vx_dict_encoder.proofs.laws.fronts_begin.Goals as goal

pub returns : goal.returns
returns c = fronts_begin
