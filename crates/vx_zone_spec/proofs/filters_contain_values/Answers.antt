use Rattle.vx_zone_spec.proofs.FilterLaws.{filter_contains}
use Rattle.vx_zone_spec.proofs.filters_contain_values.Goals as goal

pub returns : goal.returns
returns c = filter_contains
