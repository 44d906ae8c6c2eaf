use Rattle.std.proofs.Common.{sym, subst}
use Rattle.vx_machine_view.specs.Machine.{Machine as Plain}
use Rattle.vx_machine.specs.Names.{HasNames}
use Rattle.vx_file_cases.proofs.steps.written.Goals as goal

pub stepped-requires-clause-enough : goal.stepped-requires-clause-enough
stepped-requires-clause-enough g c = subst (λ (z : Plain). HasNames z.phase (g.B.BatchSource.left c.args.source.now)) (sym c.in-Ok-start.ensures.shows) tt
