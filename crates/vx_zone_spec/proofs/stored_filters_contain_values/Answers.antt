use Rattle.vx_zone_spec.proofs.FilterLaws.{stored_filter_contains}
use Rattle.vx_zone_spec.proofs.stored_filters_contain_values.Goals as goal

pub returns : goal.returns
returns c = stored_filter_contains
