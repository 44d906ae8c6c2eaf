use Rattle.std.proofs.Common.{take, map}
use Rattle.vx_layout_tree.specs.LayoutView.{number}
use Rattle.vx_layout_paths.specs.Taking.{Took}
use Rattle.vx_layout_paths.proofs.taking.take_own.Given as goal

abbrev pub invariant-loop-id : goal.invariant-loop-id
invariant-loop-id l = Took (map number (take l.id-index l.ids)) l.fn.paths l.paths l.fn.ordered l.ordered
