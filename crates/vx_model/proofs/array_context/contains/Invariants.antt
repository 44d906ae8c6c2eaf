use Rattle.std.proofs.Common.{◌≡◌, drop}
use Rattle.vx_model.specs.Distinct.{is_listed}
use Rattle.vx_model.proofs.array_context.contains.Given as goal

abbrev pub invariant-loop-other : goal.invariant-loop-other
invariant-loop-other l = is_listed l.id (drop l.other-index l.ids) ≡ is_listed l.id l.ids
