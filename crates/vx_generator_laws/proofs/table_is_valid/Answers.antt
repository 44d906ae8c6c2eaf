use Rattle.vx_generator_laws.proofs.TableIsValid.{table_is_valid}
use Rattle.vx_generator_laws.proofs.table_is_valid.Goals as goal

pub returns : goal.returns
returns c = table_is_valid
