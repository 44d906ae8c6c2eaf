-- What a predicate is seen as, where it has others in it.
use Rattle.std.proofs.Common.{◌≡◌, rules, Box}
use Rattle.std.specs.Global.{Global}
use Rattle.vx_zone_spec.specs.Pruning.{both, either, negated}
use Rattle.vx_zone_map.specs.declared.predicate.Predicate.{Predicate}
use Rattle.vx_zone_map.specs.declared.predicate.Predicate as pr
use Rattle.vx_zone_map.specs.PredicateView.{predicate_data}

pub data_and : (a b : Box Predicate Global) → predicate_data (pr.And a b) ≡ both (predicate_data a.value) (predicate_data b.value)
data_and a b = search (rules, pr.the_lemmas)

pub data_or : (a b : Box Predicate Global) → predicate_data (pr.Or a b) ≡ either (predicate_data a.value) (predicate_data b.value)
data_or a b = search (rules, pr.the_lemmas)

pub data_not : (a : Box Predicate Global) → predicate_data (pr.Not a) ≡ negated (predicate_data a.value)
data_not a = search (rules, pr.the_lemmas)

pub ruleset predicate_rules = (data_and, data_or, data_not)
