-- Which statistics are kept, one at a time.
use Rattle.std.proofs.Common.{◌≡◌, ℕ, ◌+◌, ◌<◌, true, List, length, get_or, drop, refl, Option, Some, None}
use Rattle.std.specs.Prelude.{◌==◌, ◌||◌, is_some}
use Rattle.std.specs.Option.{option_map}
use Rattle.std.proofs.lemmas.Bool.{and_parts}
use Rattle.std.proofs.lemmas.Bool.Decides.{nat_tests}
use Rattle.std.proofs.lemmas.List.{drop_more, drop_all}
use Rattle.vx_model.specs.Ty.{Ty}
use Rattle.vx_model.specs.TyView.{ty}
use Rattle.vx_model.specs.declared.dtype.DType.{DType}
use Rattle.vx_aggregate_spec.specs.Aggregate.{maximum, minimum, sum}
use Rattle.vx_aggregate.specs.declared.stat.Stat.{Stat}
use Rattle.vx_aggregate.specs.declared.stat.Stat.TheVariants as stats
use Rattle.vx_aggregate.specs.Stats.{stat_number, stat_state}
use Rattle.vx_zone_record.proofs.ScalarSteps.{scalar_rules}
use Rattle.vx_zone_record_spec.specs.Held.{has_state}
use Rattle.vx_file_stats.specs.FileStats.{asks_for, keeps}

pub drop_asked : (s : Stat) (xs : List Stat) (i : ℕ) (a : Stat) → i < length xs → a ≡ get_or xs i a
    → asks_for (drop i xs) s ≡ ((stat_number a == stat_number s) || asks_for (drop (i + 1) xs) s)
drop_asked s xs i a lt is = rw (drop_more xs i a lt, ← is) refl

pub ruleset ask_rules = (drop_asked, drop_all, nat_tests)

pub some_mapped : (o : Option DType) → is_some (option_map ty o) ≡ is_some o
some_mapped None = refl
some_mapped (Some d) = refl

pub ruleset state_rules = (some_mapped)

pub ruleset longer_rules = (nat_tests, scalar_rules)

-- what is kept has a state
pub max_held : (asked : List Stat) (t : Ty) → keeps asked stats.Max t ≡ true → has_state t maximum ≡ true
max_held asked t h = (and_parts (asks_for asked stats.Max) (is_some (stat_state stats.Max t)) h).1

pub min_held : (asked : List Stat) (t : Ty) → keeps asked stats.Min t ≡ true → has_state t minimum ≡ true
min_held asked t h = (and_parts (asks_for asked stats.Min) (is_some (stat_state stats.Min t)) h).1

pub sum_held : (asked : List Stat) (t : Ty) → keeps asked stats.Sum t ≡ true → has_state t sum ≡ true
sum_held asked t h = (and_parts (asks_for asked stats.Sum) (is_some (stat_state stats.Sum t)) h).1

pub ruleset kept_rules = (max_held, min_held, sum_held)
