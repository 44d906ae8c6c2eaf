-- Steps of handing out rows that are held.
use Rattle.std.proofs.Common.{append_assoc}
use Rattle.std.proofs.lemmas.List.{map_more, take_all, length-map, drop-take}
use Rattle.vx_chunk.proofs.Joined.{rows_cut, rows_count}

pub ruleset length_rules = (length-map, rows_count)

pub ruleset window_rules = (rows_cut)

pub ruleset copy_rules = (map_more, take_all)
