use Rattle.vx_tally.specs.Nodes.{AddsUp}
use Rattle.vx_tally.proofs.add_up.Given as goal

abbrev pub invariant-loop-u : goal.invariant-loop-u
invariant-loop-u l = AddsUp l.fn.nodes.items l.nodes.items l.half l.u

abbrev pub decreases-loop-u : goal.decreases-loop-u
decreases-loop-u l = l.u
