use Rattle.std.proofs.Common.{◌≡◌, length}
use Rattle.std.specs.Str.{chars, IsUtf8}
use Rattle.std.specs.Str.Iter.{chars_rest}
use Rattle.vx_zone_spec.specs.Bounds.{char_rises, next_char, raised_last}
use Rattle.vx_zone_record.proofs.bounds.last_rising_char.Given as goal

abbrev pub invariant-loop-last : goal.invariant-loop-last
invariant-loop-last l = record {
  text : IsUtf8 (chars_rest l.rest);
  same : raised_last char_rises next_char (chars (chars_rest l.rest)) ≡ raised_last char_rises next_char (chars l.text);
}

abbrev pub decreases-loop-last : goal.decreases-loop-last
decreases-loop-last l = length (chars_rest l.rest)
