-- Steps of the metadata of layouts.
use Rattle.std.proofs.Common.{◌≡◌, ◌+◌, true, List, [], ◌∷◌, map, refl, ap, rules}
use Rattle.std.proofs.lemmas.List.{map_push, length-map}
use Rattle.vx_model.specs.Words.{total_by, all_by}
use Rattle.vx_aggregate_spec.specs.Aggregate.{Aggregate, spec, maximum, minimum, bounded_maximum, bounded_minimum, null_count, sum, bloom}
use Rattle.vx_aggregate.specs.declared.stat.Stat.{Stat}
use Rattle.vx_aggregate.specs.declared.stat.Stat.TheVariants as stats
use Rattle.vx_aggregate.specs.Stats.{stat_number}
use Rattle.vx_metadata.specs.Kept.{number_bit}
use Rattle.vx_metadata.specs.Spelled.{stat_bit}
use Rattle.vx_metadata.specs.Values.{is_short_spec}

-- ---- aggregates: all ids and options are short

short_spec : (a : Aggregate) → is_short_spec (spec a) ≡ true
short_spec maximum = refl
short_spec minimum = refl
short_spec (bounded_maximum n) = search rules
short_spec (bounded_minimum n) = search rules
short_spec null_count = refl
short_spec sum = refl
short_spec (bloom n) = search rules

pub short_specs : (aggs : List Aggregate) → all_by is_short_spec (map spec aggs) ≡ true
short_specs [] = refl
short_specs (a ∷ rest) = rw (short_spec a, short_specs rest) refl

-- ---- statistics

pub bits_same : (ss : List Stat) → total_by number_bit (map stat_number ss) ≡ total_by stat_bit ss
bits_same [] = refl
bits_same (s ∷ ss) = ap (λ n. stat_bit s + n) (bits_same ss)

pub ruleset second_rules = (length-map)

pub ruleset zoned_rules = (short_specs, length-map)

pub ruleset spec_rules = (map_push)

pub ruleset stat_rules = (bits_same)
