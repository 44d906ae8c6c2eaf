use Rattle.vx_machine_ids.proofs.CallLaws.{owned_active}
use Rattle.vx_machine_ids.proofs.IdMoves.{id_lost}
use Rattle.vx_column_ids.proofs.ids.give_up_id.Goals as goal

pub release-requires : goal.release-requires
release-requires c = owned_active c.args.universe.now c.args.id c.requires

pub returns : goal.returns
returns c = id_lost c.args.universe.now c.release.new.universe c.args.id c.release.ensures.universe c.requires
