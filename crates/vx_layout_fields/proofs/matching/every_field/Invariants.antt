use Rattle.std.proofs.Common.{◌≡◌, map}
use Rattle.std.specs.List.{range_with_len}
use Rattle.vx_layout_fields.specs.Matching.{all_of}
use Rattle.vx_layout_fields.proofs.matching.every_field.Given as goal

abbrev pub invariant-loop-i : goal.invariant-loop-i
invariant-loop-i l = l.matches.items ≡ map all_of (range_with_len 0 l.i)
