use Rattle.std.proofs.Common.{◌≡◌, ℕ, List, true, take}
use Rattle.vx_session.specs.Ids.{is_listed, are_distinct}
use Rattle.vx_session.proofs.Lists.{has}
use Rattle.vx_session.proofs.layout_context.are_distinct.Given as goal

abbrev pub invariant-loop-id : goal.invariant-loop-id
invariant-loop-id l = record {
  apart : are_distinct (take l.id-index l.ids) ≡ true;
  seen : (id : List ℕ) → has l.before id ≡ is_listed id (take l.id-index l.ids);
}
