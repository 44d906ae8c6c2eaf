use Rattle.std.proofs.Common.{◌≡◌, drop}
use Rattle.vx_model.specs.TyView.{ty}
use Rattle.vx_zone_map.specs.Columns.{entries}
use Rattle.vx_zone_map.specs.Tests.{some_passes}
use Rattle.vx_zone_map.proofs.zone.some_passes.Given as goal

abbrev pub invariant-loop-column : goal.invariant-loop-column
invariant-loop-column l =
    some_passes (ty l.zone.dtype.now) l.test (entries l.zone.place (drop l.column-index l.zone.columns.now)) ≡ some_passes (ty l.zone.dtype.now) l.test (entries l.zone.place l.zone.columns.now)
