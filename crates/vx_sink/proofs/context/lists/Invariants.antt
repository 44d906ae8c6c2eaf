use Rattle.std.proofs.Common.{◌≡◌, drop}
use Rattle.vx_model.specs.Words.{lists_id}
use Rattle.vx_sink.proofs.context.lists.Given as goal

abbrev pub invariant-loop-listed : goal.invariant-loop-listed
invariant-loop-listed l = lists_id l.id (drop l.listed-index l.ids) ≡ lists_id l.id l.ids
