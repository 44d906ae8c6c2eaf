-- Steps of reading aggregates.
use Rattle.std.proofs.Common.{◌≡◌, ℕ, ◌+◌, ◌<◌, ◌&&◌, ◌++◌, Bool, true, false, List, [], ◌∷◌, length, get_or, drop, map, Option, Some, None, Result, Ok, Err, refl, sym, ◌∙◌, ap, append_assoc}
use Rattle.std.proofs.lemmas.List.{append-nil, drop_more, drop_all, map_push}
use Rattle.vx_layout_spec.specs.Refusal.{Refusal, unknown_aggregate}
use Rattle.vx_aggregate_spec.specs.Aggregate.{Aggregate}
use Rattle.vx_metadata.specs.declared.zoned.AggregateSpec.{AggregateSpec}
use Rattle.vx_metadata.specs.Views.{spec_of}
use Rattle.vx_session.specs.declared.aggregates.AggregatesError.{AggregatesError}
use Rattle.vx_session.specs.declared.aggregates.AggregatesError.TheVariants as errors
use Rattle.vx_session.specs.Aggregates.{Fails}
use Rattle.vx_session.specs.Scope.{Context}
use Rattle.vx_session.specs.Kinds.{read_spec, read_specs, read_on}
use Rattle.vx_session.specs.Made.{◌>>=◌}

-- behind those that are read
abbrev pub behind : List Aggregate → Result (Option (List Aggregate)) Refusal → Result (Option (List Aggregate)) Refusal
behind front (Err e) = Err e
behind front (Ok None) = Ok None
behind front (Ok (Some others)) = Ok (Some (front ++ others))

one_more : (front : List Aggregate) (a : Aggregate) (others : Result (Option (List Aggregate)) Refusal)
    → behind front (read_on (Some a) others) ≡ behind (front ++ a ∷ []) others
one_more front a (Err e) = refl
one_more front a (Ok None) = refl
one_more front a (Ok (Some others)) = ap (λ (l : List Aggregate). Ok (Some l)) (sym (append_assoc front (a ∷ []) others))

split : (c : Context) (xs : List AggregateSpec) (i : ℕ) (s : AggregateSpec) → i < length xs → s ≡ get_or xs i s
    → read_specs c (map spec_of (drop i xs)) ≡ (read_spec c (spec_of s) >>= λ one. read_on one (read_specs c (map spec_of (drop (i + 1) xs))))
split c xs i s lt is = rw (drop_more xs i s lt, ← is) refl

pub goes_on : (c : Context) (xs : List AggregateSpec) (i : ℕ) (s : AggregateSpec) (front : List Aggregate) (a : Aggregate) → i < length xs → s ≡ get_or xs i s → read_spec c (spec_of s) ≡ Ok (Some a)
    → behind front (read_specs c (map spec_of (drop i xs))) ≡ behind (front ++ a ∷ []) (read_specs c (map spec_of (drop (i + 1) xs)))
goes_on c xs i s front a lt is e = rw (split c xs i s lt is, e) (one_more front a (read_specs c (map spec_of (drop (i + 1) xs))))

pub is_unknown : (c : Context) (xs : List AggregateSpec) (i : ℕ) (s : AggregateSpec) (front : List Aggregate) → i < length xs → s ≡ get_or xs i s → read_spec c (spec_of s) ≡ Ok None
    → behind front (read_specs c (map spec_of (drop i xs))) ≡ Ok None
is_unknown c xs i s front lt is e = rw (split c xs i s lt is, e) refl

pub is_refused : (c : Context) (xs : List AggregateSpec) (i : ℕ) (s : AggregateSpec) (front : List Aggregate) (r : Refusal) → i < length xs → s ≡ get_or xs i s → read_spec c (spec_of s) ≡ Err r
    → behind front (read_specs c (map spec_of (drop i xs))) ≡ Err r
is_refused c xs i s front r lt is e = rw (split c xs i s lt is, e) refl

-- the same refusal as of the spec that is read
pub spec_fails : (e : AggregatesError) (c : Context) (xs : List AggregateSpec) (i : ℕ) (s : AggregateSpec) (front : List Aggregate) → i < length xs → s ≡ get_or xs i s → Fails e (read_spec c (spec_of s))
    → behind front (read_specs c (map spec_of (drop i xs))) ≡ read_specs c (map spec_of xs) → Fails e (read_specs c (map spec_of xs))
spec_fails (errors.UnknownAggregate id) c xs i s front lt is h same = sym same ∙ is_refused c xs i s front (unknown_aggregate id) lt is h
spec_fails errors.OutOfMemory c xs i s front lt is h same = tt

pub ruleset specs_rules = (goes_on, is_unknown, is_refused, append-nil, drop_all, map_push)
