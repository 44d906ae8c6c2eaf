use Rattle.std.proofs.Common.{◌≡◌, ◌≤◌, drop, length, map}
use Rattle.vx_model.specs.TreeView.{val}
use Rattle.vx_layout_spec.specs.Rows.{lists_of}
use Rattle.vx_read.specs.Parts.{rows_in, queued}
use Rattle.vx_read.specs.Reading.{offsets_fault}
use Rattle.vx_read.proofs.DictSteps.{before}
use Rattle.vx_read.proofs.ListSteps.{spans_from}
use Rattle.vx_read.proofs.lists.lists.Given as goal

abbrev pub invariant-loop-i : goal.invariant-loop-i
invariant-loop-i l = record {
  whole : l.count ≡ length l.fn.elements.items;
  within : l.last ≤ l.count;
  rest : queued l.rest ≡ drop l.last (rows_in l.fn.elements);
  rows : before (map val l.rows.items) (spans_from (rows_in l.fn.elements) l.last (map val (drop l.i l.offsets))) ≡ lists_of (rows_in l.fn.elements) (map val l.offsets);
  faults : offsets_fault l.count l.last (map val (drop l.i l.offsets)) ≡ offsets_fault l.count 0 (map val l.offsets);
}
