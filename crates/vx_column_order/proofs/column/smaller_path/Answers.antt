use Rattle.std.proofs.Common.{◌∙◌, sym}
use Rattle.std.proofs.lemmas.Bool.{true≢false}
use Rattle.vx_column_order.proofs.Smaller.{below}
use Rattle.vx_column_order.proofs.column.smaller_path.Goals as goal

pub returns-clause-some : goal.returns-clause-some
returns-clause-some c = below c.args.universe.now c.args.id.now c.least.result (λ l. true≢false (sym (c.is_first.ensures.first.1 l) ∙ c.if-is_first.false)) c.least.ensures.least
