use Rattle.std.proofs.Common.{◌≡◌, [], take, drop}
use Rattle.vx_model.specs.Distinct.{repeat_after}
use Rattle.vx_model.proofs.array_context.find_repeat.Given as goal

abbrev pub invariant-loop-i : goal.invariant-loop-i
invariant-loop-i l = repeat_after (take l.i l.ids) (drop l.i l.ids) ≡ repeat_after [] l.ids
