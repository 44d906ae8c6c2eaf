use Rattle.std.proofs.Common.{ap, ◌∙◌, arith}
use Rattle.std.specs.Arc.{arc_value}
use Rattle.std.specs.Int.NonZero.{non_zero_u32_get}
use Rattle.vx_model.specs.TyView.{ty}
use Rattle.vx_machine_acts.proofs.JoinSteps.{zones_made}
use Rattle.vx_machine_acts.proofs.join.join_zones.Goals as goal

pub from_parts-requires : goal.from_parts-requires
from_parts-requires c = omega (arith, c.args.zones.aggregates.ok.0)

pub returns-clause-layout : goal.returns-clause-layout
returns-clause-layout c =
    zones_made c.in-Ok.copy (ty (arc_value c.args.zones.dtype)) c.args.zones.rows c.get.result (non_zero_u32_get c.args.zones.zone_len) c.args.zones.aggregates c.new.result c.args.layouts c.from_parts.result
    (c.in-Ok.ensures.cases ∙ ap ty c.deref.ensures) c.new.ensures.items c.get.ensures.value (omega arith) c.from_parts.ensures
