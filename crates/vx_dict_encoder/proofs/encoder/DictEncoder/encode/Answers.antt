use Rattle.vx_dict_encoder.proofs.Encoders.{rows_fit}
use Rattle.vx_dict_encoder.proofs.encoder.DictEncoder.encode.Goals as goal

pub take_front-requires-clause-fit : goal.take_front-requires-clause-fit
take_front-requires-clause-fit c =
    rows_fit c.self.inside.dtype c.self.inside.constraints c.self.inside.values.distinct c.self.inside.values.distinct c.args.self.now c.args.rows.now c.self.view_is c.requires c.sound.ensures
