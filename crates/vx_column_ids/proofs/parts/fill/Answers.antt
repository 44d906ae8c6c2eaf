use Rattle.vx_column_ids.proofs.Moves.{root_owned}
use Rattle.vx_column_ids.proofs.parts.fill.Goals as goal

pub fill_below-made-requires-clause-owned : goal.fill_below-made-requires-clause-owned
fill_below-made-requires-clause-owned c = root_owned _ _ c.in_ok-universe.ensures.root.0 c.in_ok-universe.ensures.root.1
