use Rattle.vx_tally.specs.Nodes.{Raises}
use Rattle.vx_tally.proofs.raise.Given as goal

abbrev pub invariant-loop-u : goal.invariant-loop-u
invariant-loop-u l = Raises l.fn.nodes.items l.nodes.items l.half l.i l.n l.u

abbrev pub decreases-loop-u : goal.decreases-loop-u
decreases-loop-u l = l.u
