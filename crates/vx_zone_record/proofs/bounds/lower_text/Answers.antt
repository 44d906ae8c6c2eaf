use Rattle.std.proofs.Common.{refl, arith}
use Rattle.vx_zone_record.proofs.BoundSteps.{lower_text_given}
use Rattle.vx_zone_record.proofs.bounds.lower_text.Goals as goal

pub returns : goal.returns
returns c =
    lower_text_given c.args.most c.args.text.now c.args.text.now c.front-kept.result.now c.in_ok-from_str-2.field-0 refl (omega arith) c.front-kept.ensures.utf8 c.front-kept.ensures.chars c.in_ok-from_str-2.ensures
