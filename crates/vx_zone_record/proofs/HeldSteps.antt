-- The aggregates that a type can hold, one at a time.
use Rattle.std.proofs.Common.{◌≡◌, ℕ, ◌+◌, ◌<◌, ◌&&◌, Bool, true, false, List, [], ◌∷◌, ◌++◌, length, get_or, drop, map, refl, ap, ◌∙◌, sym, append_assoc, rules, Option, Some, None}
use Rattle.std.specs.Prelude.{is_some}
use Rattle.std.specs.Option.{option_map}
use Rattle.std.proofs.lemmas.List.{drop_more, drop_all, map_push, append-nil}
use Rattle.vx_model.specs.Words.{all_by}
use Rattle.vx_model.specs.Ty.{Ty}
use Rattle.vx_model.specs.TyView.{ty}
use Rattle.vx_model.specs.declared.dtype.DType.{DType}
use Rattle.vx_aggregate_spec.specs.Aggregate.{Aggregate, Column, state_type, with_state, held_aggregates}
use Rattle.vx_aggregate.specs.AggregateView.{aggregate}
use Rattle.vx_aggregate.specs.declared.aggregate.AggregateFn.{AggregateFn}
use Rattle.vx_zone_spec.specs.ZoneMap.{names_of}
use Rattle.vx_zone_record_spec.specs.Held.{has_state}

names_append : (xs ys : List Column) → names_of (xs ++ ys) ≡ names_of xs ++ names_of ys
names_append [] ys = refl
names_append (x ∷ xs) ys = ap (λ (ns : List Aggregate). x.0 ∷ ns) (names_append xs ys)

pub drop_names : (t : Ty) (xs : List AggregateFn) (i : ℕ) (a : AggregateFn) → i < length xs → a ≡ get_or xs i a
    → names_of (held_aggregates (map aggregate (drop i xs)) t) ≡ names_of (with_state (aggregate a) (state_type (aggregate a) t)) ++ names_of (held_aggregates (map aggregate (drop (i + 1) xs)) t)
drop_names t xs i a lt is = rw (drop_more xs i a lt, ← is) (names_append (with_state (aggregate a) (state_type (aggregate a) t)) (held_aggregates (map aggregate (drop (i + 1) xs)) t))

-- one more of them
pub next_names : (t : Ty) (xs : List AggregateFn) (i : ℕ) (a : AggregateFn) (kept more all : List Aggregate) → i < length xs → a ≡ get_or xs i a
    → more ≡ kept ++ names_of (with_state (aggregate a) (state_type (aggregate a) t)) → kept ++ names_of (held_aggregates (map aggregate (drop i xs)) t) ≡ all
    → more ++ names_of (held_aggregates (map aggregate (drop (i + 1) xs)) t) ≡ all
next_names t xs i a kept more all lt is e h = rw (e, append_assoc) (rw (drop_names t xs i a lt is) at h)

-- the aggregate's name where it has a state, and nothing where it has none
pub one_name : (a : Aggregate) (t : Ty) (o : Option DType) → option_map ty o ≡ state_type a t → is_some o ≡ true → names_of (with_state a (state_type a t)) ≡ a ∷ []
one_name a t None e h = cc
one_name a t (Some d) e h = ap (λ (z : Option Ty). names_of (with_state a z)) (sym e)

pub no_name : (a : Aggregate) (t : Ty) (o : Option DType) → option_map ty o ≡ state_type a t → is_some o ≡ false → names_of (with_state a (state_type a t)) ≡ []
no_name a t None e h = ap (λ (z : Option Ty). names_of (with_state a z)) (sym e)
no_name a t (Some d) e h = cc

-- ---- what is held is held again

again : (t : Ty) (gs : List Aggregate) → held_aggregates (names_of (held_aggregates gs t)) t ≡ held_aggregates gs t
again t [] = refl
again t (a ∷ gs) = go (state_type a t) refl (again t gs)
  where
    go : (o : Option Ty) → state_type a t ≡ o → held_aggregates (names_of (held_aggregates gs t)) t ≡ held_aggregates gs t
        → held_aggregates (names_of (with_state a o ++ held_aggregates gs t)) t ≡ with_state a o ++ held_aggregates gs t
    go None e ih = ih
    go (Some u) e ih = ap (λ (z : Option Ty). with_state a z ++ held_aggregates (names_of (held_aggregates gs t)) t) e ∙ ap (λ (cs : List Column). (a, u) ∷ cs) ih

all_held : (t : Ty) (gs : List Aggregate) → all_by (has_state t) (names_of (held_aggregates gs t)) ≡ true
all_held t [] = refl
all_held t (a ∷ gs) = go (state_type a t) refl (all_held t gs)
  where
    go : (o : Option Ty) → state_type a t ≡ o → all_by (has_state t) (names_of (held_aggregates gs t)) ≡ true → all_by (has_state t) (names_of (with_state a o ++ held_aggregates gs t)) ≡ true
    go None e ih = ih
    go (Some u) e ih = ap (λ (z : Option Ty). is_some z && all_by (has_state t) (names_of (held_aggregates gs t))) e ∙ ih

pub held_again : (t : Ty) (gs names : List Aggregate) → names ≡ names_of (held_aggregates gs t) → held_aggregates names t ≡ held_aggregates gs t
held_again t gs names e = ap (λ ns. held_aggregates ns t) e ∙ again t gs

pub held_states : (t : Ty) (gs names : List Aggregate) → names ≡ names_of (held_aggregates gs t) → all_by (has_state t) names ≡ true
held_states t gs names e = ap (all_by (has_state t)) e ∙ all_held t gs

-- where each has a state, none is left out
pub names_held : (t : Ty) (gs : List Aggregate) → all_by (has_state t) gs ≡ true → names_of (held_aggregates gs t) ≡ gs
names_held t [] h = refl
names_held t (a ∷ gs) h = go (state_type a t) h (names_held t gs)
  where
    go : (o : Option Ty) → (is_some o && all_by (has_state t) gs) ≡ true → (all_by (has_state t) gs ≡ true → names_of (held_aggregates gs t) ≡ gs) → names_of (with_state a o ++ held_aggregates gs t) ≡ a ∷ gs
    go None h ih = cc
    go (Some u) h ih = ap (λ (ns : List Aggregate). a ∷ ns) (ih h)

pub ruleset held_rules = (drop_names, held_again, held_states, append_assoc, append-nil, map_push, drop_all)

pub ruleset push_rules = (one_name, no_name, append-nil, map_push)
