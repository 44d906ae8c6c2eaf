use Rattle.vx_plan.proofs.ZoneRecords.{records_are_of_zones}
use Rattle.vx_plan.proofs.records_are_of_zones.Goals as goal

pub returns : goal.returns
returns c = records_are_of_zones
