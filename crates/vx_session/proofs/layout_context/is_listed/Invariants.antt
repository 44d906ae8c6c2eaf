use Rattle.std.proofs.Common.{◌≡◌, drop}
use Rattle.vx_session.specs.Ids.{is_listed}
use Rattle.vx_session.proofs.layout_context.is_listed.Given as goal

abbrev pub invariant-loop-other : goal.invariant-loop-other
invariant-loop-other l = is_listed l.id (drop l.other-index l.ids) ≡ is_listed l.id l.ids
