use Rattle.vx_zone_spec.proofs.TableLaws.{table_is_exact}
use Rattle.vx_zone_spec.proofs.table_is_exact.Goals as goal

pub returns : goal.returns
returns c = table_is_exact
