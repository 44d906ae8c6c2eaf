use Rattle.vx_zone_table_laws.proofs.WholeTables.{tables_are_whole}
use Rattle.vx_zone_table_laws.proofs.tables_are_whole.Goals as goal

pub returns : goal.returns
returns c = tables_are_whole
