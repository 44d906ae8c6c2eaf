-- The two halves of a segment.
use Rattle.std.proofs.lemmas.List.{length-take, length-drop}

pub ruleset half_rules = (length-take, length-drop)
