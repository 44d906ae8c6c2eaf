use Rattle.std.proofs.Common.{◌∙◌}
use Rattle.vx_path.proofs.Order.{is_path_le}
use Rattle.vx_path.proofs.owned.path_le.Goals as goal

pub returns : goal.returns
returns c = c.is_le.ensures ∙ is_path_le c.args.p.now c.args.q.now c.cmp.result c.cmp.ensures
