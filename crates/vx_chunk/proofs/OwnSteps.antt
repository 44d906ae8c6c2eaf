-- Steps of the calls that consume a chunk.
use Rattle.std.proofs.Common.{append_assoc, append-nil}
use Rattle.std.proofs.lemmas.List.{map-append}

pub ruleset own_rules = (append_assoc, append-nil, map-append)
