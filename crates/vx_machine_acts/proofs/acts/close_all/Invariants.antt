use Rattle.std.proofs.Common.{◌≡◌, vec_len}
use Rattle.vx_machine_task.specs.Ledger.{tasks_reserved}
use Rattle.vx_machine_task.specs.Stocks.{tasks_stock}
use Rattle.vx_machine_task.specs.View.{row}
use Rattle.vx_machine_task.proofs.RowSteps.{shut_first}
use Rattle.vx_machine_acts.proofs.acts.close_all.Given as goal

abbrev pub invariant-kids : goal.invariant-kids
invariant-kids l = record {
  stock : tasks_stock l.kids.items ≡ tasks_stock l.initial.kids.items;
  reserved : tasks_reserved l.kids.items ≡ tasks_reserved l.initial.kids.items;
  shut : row l.kids.items ≡ shut_first l.i (row l.initial.kids.items);
  count : vec_len l.kids ≡ vec_len l.initial.kids;
}
