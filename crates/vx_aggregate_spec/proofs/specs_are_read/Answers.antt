use Rattle.vx_aggregate_spec.proofs.SpecLaws.{specs_are_read}
use Rattle.vx_aggregate_spec.proofs.specs_are_read.Goals as goal

pub returns : goal.returns
returns c = specs_are_read
