use Rattle.vx_zone_map.proofs.FinishedTables.{finished_tables_are_taken}
use Rattle.vx_zone_map.proofs.laws.finished_tables_are_taken.Goals as goal

pub returns : goal.returns
returns c = finished_tables_are_taken
