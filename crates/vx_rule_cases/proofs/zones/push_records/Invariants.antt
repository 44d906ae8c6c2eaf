use Rattle.std.proofs.Common.{◌≡◌}
use Rattle.vx_model.specs.TyView.{ty}
use Rattle.vx_zone_table.specs.BuilderView.{gathered}
use Rattle.vx_rule_cases.proofs.zones.push_records.Given as goal

abbrev pub invariant-loop-i : goal.invariant-loop-i
invariant-loop-i l = record {
  typed : l.guard.typed ≡ ty l.stream.dtype.now;
  columns : (gathered l.builder).columns ≡ l.guard.columns;
}
