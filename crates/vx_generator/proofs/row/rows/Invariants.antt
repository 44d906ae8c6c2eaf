use Rattle.std.proofs.Common.{◌≡◌, map}
use Rattle.vx_model.specs.TreeView.{tree}
use Rattle.vx_generator.specs.Generated.{rows_from}
use Rattle.vx_generator.proofs.row.rows.Given as goal

abbrev pub invariant-loop-k : goal.invariant-loop-k
invariant-loop-k l = map tree l.cells.items ≡ rows_from l.first l.k
