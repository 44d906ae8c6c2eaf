use Rattle.std.proofs.Common.{◌≡◌, ◌≤◌, ◌<◌, ◌+◌, ◌^◌, ◌++◌, List, true, length}
use Rattle.std.specs.Arc.{arc_value}
use Rattle.std.specs.Vec.Iter.{into_iter_items}
use Rattle.vx_model.specs.CellData.{CellData}
use Rattle.vx_machine_ids.specs.Stock.{both, end_stock}
use Rattle.vx_machine_ids.specs.Balance.{Owned, Moved}
use Rattle.vx_machine_node.specs.Ledger.{dues_reserved}
use Rattle.vx_machine_nodes.specs.Runs.{behind_all, nexts_at, are_runs, all_rows}
use Rattle.vx_machine_node.specs.Stocks.{dues_stock}
use Rattle.vx_machine_node.specs.View.{coder_in, runs_in, todo_of}
use Rattle.vx_machine_nodes.proofs.cuts.put_outputs.Given as goal

abbrev pub invariant-outputs : goal.invariant-outputs
invariant-outputs g l = record {
  owned : Owned (g.O.Order.active l.order) (both (both (end_stock l.runs.pointer) (dues_stock l.todo.items)) (end_stock l.below));
  moved : Moved (g.O.Order.active l.fn.order) (g.O.Order.active l.order) (both (both (end_stock l.fn.runs.pointer) (dues_stock l.fn.todo.items)) (end_stock l.fn.below)) (both (both (end_stock l.runs.pointer) (dues_stock l.todo.items)) (end_stock l.below));
  reserved : dues_reserved l.todo.items ≡ dues_reserved l.fn.todo.items;
  outlet : g.O.Order.outlet l.order ≡ g.O.Order.outlet l.fn.order;
  sink : g.O.Order.sink l.order ≡ g.O.Order.sink l.fn.order;
  follow : are_runs l.runs.begun (into_iter_items l.output-iterator) ≡ true;
  rows : l.runs.rows + all_rows (into_iter_items l.output-iterator) ≤ l.fn.runs.rows + all_rows l.fn.outputs.items;
  runs : (ds : List CellData) → behind_all (runs_in l.runs ds) (into_iter_items l.output-iterator) ≡ behind_all (runs_in l.fn.runs ds) l.fn.outputs.items;
  todo : (ds : List CellData) → todo_of l.todo.items ++ nexts_at (coder_in (arc_value l.node)) (runs_in l.runs ds) l.below.stem l.below.last (into_iter_items l.output-iterator)
      ≡ todo_of l.fn.todo.items ++ nexts_at (coder_in (arc_value l.node)) (runs_in l.fn.runs ds) l.fn.below.stem l.fn.below.last l.fn.outputs.items;
  stem : l.below.stem ≡ l.fn.below.stem;
  last : l.below.last + length (into_iter_items l.output-iterator) ≡ l.fn.below.last + length l.fn.outputs.items;
  fits : l.fn.below.last < 2 ^ 64 → l.below.last < 2 ^ 64;
}
