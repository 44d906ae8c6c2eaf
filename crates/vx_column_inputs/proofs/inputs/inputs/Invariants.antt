use Rattle.std.proofs.Common.{◌++◌, List, map}
use Rattle.std.specs.Vec.Iter.{into_iter_items}
use Rattle.vx_sink.specs.ContextView.{is_marked, listed, allowed_in}
use Rattle.vx_sink.specs.contracts.list_source.ListSourceBatchSource.TheImpl as source
use Rattle.vx_sink.specs.contracts.list_source.ListSourceFallible.TheImpl as faults
use Rattle.vx_column_ways.specs.Ways.{column_of}
use Rattle.vx_column_inputs.specs.declared.inputs.Input.{Input}
use Rattle.vx_column_inputs.specs.Prepared.{FitColumns, AreOwnInputs}
use Rattle.vx_column_inputs.proofs.inputs.inputs.Given as goal

abbrev pub invariant-columns : goal.invariant-columns
invariant-columns l = record {
  fit : FitColumns (is_marked l.ctx) (map column_of (into_iter_items l.ways)) (map (λ c. c.items) (into_iter_items l.chunks-iterator));
  made : (is : List Input)
      → AreOwnInputs (listed l.ctx) (allowed_in l.ctx) source.ghosts.kind faults.ghosts.may_fail source.ghosts.to_come source.ghosts.left (map column_of (into_iter_items l.ways)) (map (λ c. c.items) (into_iter_items l.chunks-iterator)) is
      → AreOwnInputs (listed l.ctx) (allowed_in l.ctx) source.ghosts.kind faults.ghosts.may_fail source.ghosts.to_come source.ghosts.left (map column_of l.fn.ways.items) (map (λ c. c.items) l.fn.split.items) (l.inputs.items ++ is);
}
