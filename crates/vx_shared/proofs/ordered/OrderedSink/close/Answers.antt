use Rattle.std.proofs.Common.{◌∙◌}
use Rattle.std.proofs.lemmas.List.{length-map}
use Rattle.vx_order_answer.specs.declared.receipt.Receipt.{Receipt}
use Rattle.vx_seats.specs.History.{paths}
use Rattle.vx_seats.proofs.Whole.{whole}
use Rattle.vx_shared.proofs.ordered.OrderedSink.close.Goals as goal

pub returns-clause-whole : goal.returns-clause-whole
returns-clause-whole g c = λ some all sums.
    whole g.P.Pairs.pairs (paths c.close.result.1.items) c.close.ensures.ascends c.close.ensures.listed
    (length-map c.close.result.1.items (λ (r : Receipt). r.path) ∙ c.close.ensures.all some all ∙ sums)
