use Rattle.std.proofs.Common.{subst, sym}
use Rattle.vx_sequence.specs.Universe.{IsActive, IsLeast}
use Rattle.vx_sequence.specs.Blocks.{list_of}
use Rattle.vx_sequence.proofs.Least.{first_is_least}
use Rattle.vx_sequence.proofs.active.Universe.least.Goals as goal

pub returns-clause-least : goal.returns-clause-least
returns-clause-least c = subst (λ p. IsActive c.args.self.now p × IsLeast c.args.self.now p) (sym c.as_slice.ensures)
    (first_is_least (list_of c.self.inside.entries) c.args.self.now c.in_ok-first.field-0.now c.self.invariant.0.ascends c.self.view_is
    c.in_ok-first.ensures.0 c.in_ok-first.ensures.1)
