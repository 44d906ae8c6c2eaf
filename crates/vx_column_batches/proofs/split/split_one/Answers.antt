use Rattle.std.proofs.Common.{length, ap, ◌∙◌}
use Rattle.vx_column_batches.proofs.Deals.{width_is}
use Rattle.vx_column_batches.proofs.split.split_one.Goals as goal

pub returns-in-Ok-clause-count : goal.returns-in-Ok-clause-count
returns-in-Ok-clause-count c = ap length c.in-Ok.ensures.columns ∙ width_is c.args.split.now c.args.batch c.requires.structs c.requires.typed c.sound.ensures
