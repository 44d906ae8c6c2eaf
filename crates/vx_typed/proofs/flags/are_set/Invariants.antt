use Rattle.std.proofs.Common.{◌≡◌, Bool, drop}
use Rattle.vx_model.specs.Words.{all_by}
use Rattle.vx_typed.proofs.flags.are_set.Given as goal

abbrev pub invariant-loop-flag : goal.invariant-loop-flag
invariant-loop-flag l = all_by (λ (b : Bool). b) (drop l.flag-index l.flags) ≡ all_by (λ (b : Bool). b) l.flags
