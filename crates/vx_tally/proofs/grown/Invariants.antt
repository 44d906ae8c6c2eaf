use Rattle.vx_tally.specs.Nodes.{Copies}
use Rattle.vx_tally.proofs.grown.Given as goal

abbrev pub invariant-loop-i : goal.invariant-loop-i
invariant-loop-i l = Copies l.nodes l.grown.items l.half l.wide l.i
