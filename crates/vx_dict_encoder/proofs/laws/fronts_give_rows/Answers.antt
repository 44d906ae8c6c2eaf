use Rattle.vx_dict_encoder.proofs.FrontLaws.{fronts_give_rows}
use Rattle.vx_dict_encoder.proofs.laws.fronts_give_rows.Goals as goal

pub returns : goal.returns
returns c = fronts_give_rows
