-- The columns that a table can have, one aggregate at a time.
use Rattle.std.proofs.Common.{◌≡◌, ℕ, ◌+◌, ◌<◌, List, [], ◌∷◌, ◌++◌, length, get_or, drop, map, refl, append_assoc, append-nil}
use Rattle.std.proofs.lemmas.List.{drop_more, drop_all, map_push}
use Rattle.vx_model.specs.Ty.{Ty}
use Rattle.vx_aggregate_spec.specs.Aggregate.{Column, state_type, with_state, held_aggregates}
use Rattle.vx_aggregate.specs.AggregateView.{aggregate}
use Rattle.vx_aggregate.specs.declared.aggregate.AggregateFn.{AggregateFn}

pub drop_held : (t : Ty) (xs : List AggregateFn) (i : ℕ) (a : AggregateFn) → i < length xs → a ≡ get_or xs i a
    → held_aggregates (map aggregate (drop i xs)) t ≡ with_state (aggregate a) (state_type (aggregate a) t) ++ held_aggregates (map aggregate (drop (i + 1) xs)) t
drop_held t xs i a lt is = rw (drop_more xs i a lt, ← is) refl

-- one more of them
pub next_held : (t : Ty) (xs : List AggregateFn) (i : ℕ) (a : AggregateFn) (held more all : List Column) → i < length xs → a ≡ get_or xs i a
    → more ≡ held ++ with_state (aggregate a) (state_type (aggregate a) t) → held ++ held_aggregates (map aggregate (drop i xs)) t ≡ all
    → more ++ held_aggregates (map aggregate (drop (i + 1) xs)) t ≡ all
next_held t xs i a held more all lt is e h = rw (e, append_assoc) (rw (drop_held t xs i a lt is) at h)

pub ruleset held_rules = (append_assoc, append-nil, map_push, drop_all, drop_held)
