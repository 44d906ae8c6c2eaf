-- Copies, one by one.
use Rattle.std.proofs.lemmas.List.{map_push, map_more, take_more}
use Rattle.vx_chunk.proofs.Depths.{depth_in}

pub ruleset copy_rules = (map_push, map_more, take_more, depth_in)
