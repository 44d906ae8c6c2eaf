-- Ids of aggregates.
use Rattle.std.proofs.Common.{◌≡◌, Bool, true, false, List, ℕ, refl, sym, bytes_eq}
use Rattle.std.specs.Prelude.{◌≢◌}
use Rattle.std.specs.Cmp.Lexicographic.{bytes_decides}
use Rattle.vx_aggregate_spec.specs.Aggregate.{Aggregate, aggregate_id, maximum, minimum, bounded_maximum, bounded_minimum, null_count, sum, bloom}
use Rattle.vx_aggregate.specs.AggregateView.{aggregate}
use Rattle.vx_aggregate.specs.Specs.{IsKnown}
use Rattle.vx_aggregate.specs.declared.aggregate.AggregateFn.{AggregateFn}
use Rattle.vx_session.specs.Ids.{aggregate_ids}
use Rattle.vx_job.specs.JobParts.{is_among}

own_id : (a : Aggregate) → is_among (aggregate_id a) aggregate_ids ≡ true
unfolding is_among
own_id maximum = refl
own_id minimum = refl
own_id (bounded_maximum n) = refl
own_id (bounded_minimum n) = refl
own_id null_count = refl
own_id sum = refl
own_id (bloom n) = refl

one_id : (a : Aggregate) (name : List ℕ) → aggregate_id a ≡ name → true ≡ is_among name aggregate_ids
one_id a name is = rw (← is) (sym (own_id a))

not_equal : (b : Bool) → (b ≡ true → ⊥) → b ≡ false
not_equal true h = absurd (h refl)
not_equal false h = refl

differs : (a : Aggregate) (name : List ℕ) → ((a : Aggregate) → aggregate_id a ≢ name) → bytes_eq name (aggregate_id a) ≡ false
differs a name h = not_equal (bytes_eq name (aggregate_id a)) (λ t. h a (sym ((bytes_decides name (aggregate_id a)).0 t)))

pub no_id : (name : List ℕ) → ((a : Aggregate) → aggregate_id a ≢ name) → false ≡ is_among name aggregate_ids
unfolding is_among
no_id name h = rw (differs maximum name h, differs minimum name h, differs (bounded_maximum 1) name h, differs (bounded_minimum 1) name h, differs null_count name h, differs sum name h, differs (bloom 1) name h) refl

pub known_id : (name : List ℕ) → IsKnown name → true ≡ is_among name aggregate_ids
known_id name h = one_id h.0 name h.1

pub id_found : (f : AggregateFn) (name : List ℕ) → aggregate_id (aggregate f) ≡ name → true ≡ is_among name aggregate_ids
id_found f name h = one_id (aggregate f) name h

pub ruleset id_rules = (no_id, known_id, id_found)
