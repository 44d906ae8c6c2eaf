use Rattle.std.proofs.Common.{subst}
use Rattle.vx_sequence.specs.Universe.{IsActive}
use Rattle.vx_sequence.proofs.Sets.{not_empty}
use Rattle.vx_sequence.proofs.Least.{is_the_least}
use Rattle.vx_sequence.proofs.ids.SequenceId.is_first.Goals as goal

pub unreachable-requires : goal.unreachable-requires
unreachable-requires c = not_empty c.args.self.now (subst (λ u. IsActive u c.args.self.now) c.in-None.ensures.least c.requires)

pub returns-clause-first : goal.returns-clause-first
returns-clause-first c = is_the_least c.args.universe.now c.in-Some.least.now c.args.self.now c.in-Some.ensures.least.0 c.in-Some.ensures.least.1 c.requires
    c.eq.result (rw c.path.ensures at c.eq.ensures)
