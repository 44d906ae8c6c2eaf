use Rattle.std.proofs.Common.{◌≡◌, true, [], ◌∷◌, ◌++◌, Some, refl, arith}
use Rattle.std.specs.Str.{chars, is_utf8}
use Rattle.vx_zone_spec.specs.Bounds.{char_rises, next_char, raised_last}
use Rattle.vx_zone_record.proofs.BoundSteps.{upper_text_given}
use Rattle.vx_zone_record.proofs.bounds.upper_text.Goals as goal

pub returns-in_ok-with_char-in-Some : goal.returns-in_ok-with_char-in-Some
returns-in_ok-with_char-in-Some c =
    let text : is_utf8 c.in-Some.before.now ≡ true = grind (arith, c.in-Some.ensures.utf8) in
    let raised : raised_last char_rises next_char (chars c.front.result.now) ≡ Some (chars c.in-Some.before.now ++ next_char c.in-Some.last ∷ []) = grind (arith, c.in-Some.ensures.some) in
    upper_text_given c.args.most c.args.text.now c.args.text.now c.front.result.now c.in-Some.before.now c.in_ok-with_char-in-Some.field-0 (next_char c.in-Some.last) c.next_char.result
    refl (omega arith) c.front.ensures.chars text raised c.next_char.ensures c.in_ok-with_char-in-Some.ensures
