-- Which aggregates may be recorded, one after the other.
use Rattle.std.proofs.Common.{◌≡◌, ◌+◌, ◌<◌, ◌≤◌, not, if◌then◌else◌, ℕ, true, false, List, [], ◌∷◌, length, map, drop, get_or, Some, None, refl, sym, ap, ◌∙◌}
use Rattle.std.proofs.lemmas.List.{drop_more, drop_all}
use Rattle.vx_aggregate_spec.specs.Aggregate.{Aggregate, Column, aggregate_id}
use Rattle.vx_aggregate.specs.declared.aggregate.AggregateFn.{AggregateFn}
use Rattle.vx_aggregate.specs.AggregateView.{aggregate}
use Rattle.vx_zone_spec.specs.ZoneMap.{names_of}
use Rattle.vx_sink.specs.ContextView.{allows_id}
use Rattle.vx_plan.specs.PlanData.{fault, at_start, forbidden_aggregate}
use Rattle.vx_plan.specs.SourcePlan.{first_what}
use Rattle.vx_plan.specs.ZonedNode.{allows, forbidden_faults}
use Rattle.vx_machine_node.specs.Context.{Allowed}
use Rattle.vx_machine_fresh.specs.Fresh.{forbidden_among}

allows_is : (a : Allowed) (x : Aggregate) → allows a x ≡ allows_id a (aggregate_id x)
allows_is None x = refl
allows_is (Some ids) x = refl

pub faults_among : (a : Allowed) (columns : List Column) → forbidden_faults a columns ≡ forbidden_among a (names_of columns)
faults_among a [] = refl
faults_among a (c ∷ columns) =
    (λ j. if allows_is a c.0 j then faults_among a columns j else fault (forbidden_aggregate (aggregate_id c.0)) at_start ∷ [])

module _ (a : Allowed) (xs : List AggregateFn) (i : ℕ) (x : AggregateFn) (h : i < length xs) (at : x ≡ get_or xs i x) where
  among_is : forbidden_among a (map aggregate (drop i xs)) ≡ forbidden_among a (aggregate x ∷ map aggregate (drop (i + 1) xs))
  among_is = ap (λ zs. forbidden_among a (map aggregate zs)) (drop_more xs i x h ∙ ap (λ z. z ∷ drop (i + 1) xs) (sym at))

  -- one that may be, and one that may not
  pub among_next : allows_id a (aggregate_id (aggregate x)) ≡ true → forbidden_among a (map aggregate (drop (i + 1) xs)) ≡ forbidden_among a (map aggregate (drop i xs))
  among_next is = sym (among_is ∙ ap (λ b. if b then forbidden_among a (map aggregate (drop (i + 1) xs)) else fault (forbidden_aggregate (aggregate_id (aggregate x))) at_start ∷ []) is)

  pub among_first : allows_id a (aggregate_id (aggregate x)) ≡ false → first_what (forbidden_among a (map aggregate (drop i xs))) ≡ Some (forbidden_aggregate (aggregate_id (aggregate x)))
  among_first is = ap first_what (among_is ∙ ap (λ b. if b then forbidden_among a (map aggregate (drop (i + 1) xs)) else fault (forbidden_aggregate (aggregate_id (aggregate x))) at_start ∷ []) is)

pub among_end : (a : Allowed) (xs : List AggregateFn) (i : ℕ) → length xs ≤ i → forbidden_among a (map aggregate (drop i xs)) ≡ []
among_end a xs i h = ap (λ zs. forbidden_among a (map aggregate zs)) (drop_all i xs h)
