use Rattle.std.proofs.Common.{◌≡◌, drop, map}
use Rattle.vx_model.specs.Words.{all_by}
use Rattle.vx_model.specs.ValueData.{is_null_value}
use Rattle.vx_model.specs.TreeView.{val}
use Rattle.vx_zone_table.proofs.cells.all_null.Given as goal

abbrev pub invariant-loop-value : goal.invariant-loop-value
invariant-loop-value l = all_by is_null_value (map val (drop l.value-index l.values)) ≡ all_by is_null_value (map val l.values)
