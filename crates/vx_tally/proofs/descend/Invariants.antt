use Rattle.std.proofs.Common.{◌-◌}
use Rattle.vx_tally.specs.Nodes.{Descends}
use Rattle.vx_tally.proofs.descend.Given as goal

abbrev pub invariant-loop-width : goal.invariant-loop-width
invariant-loop-width l = Descends l.nodes l.half l.k l.width l.i l.rest

abbrev pub decreases-loop-width : goal.decreases-loop-width
decreases-loop-width l = l.half - l.width
