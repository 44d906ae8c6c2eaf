-- Overrides that a table takes are apart, and where it refuses one they aren't.
use Rattle.std.proofs.Common.{◌≡◌, ◌&&◌, Bool, true, false, List, [], ◌∷◌, inl, inr, refl, sym, ◌∙◌, ap, None}
use Rattle.std.proofs.lemmas.Bool.{and_parts, not-true}
use Rattle.std.specs.Prelude.{not}
use Rattle.vx_strategy_spec.specs.StrategyData.{StrategyData, StrategyList, no_ways, way_at}
use Rattle.vx_strategy_spec.specs.Admitted.{is_root, overlaps, overlaps_none, are_apart}
use Rattle.vx_strategy.specs.Overridden.{Names, PathWay, appended, all_appended, first_overlap, AllFit}
use Rattle.vx_strategy.specs.Causes.{OverrideRefused, OverridesRefused}
use Rattle.vx_strategy_options.specs.declared.error.BuildError.{BuildError}
use Rattle.vx_strategy_options.specs.declared.error.BuildError.TheVariants as causes
use Rattle.vx_strategy.proofs.Apart.{overlaps_sym, apart_more}
use Rattle.vx_strategy_json.specs.Forms.{overrides_of}
use Rattle.vx_strategy_json.proofs.Refused.{Tells, memory_told}

-- these, and those behind them
before : StrategyList → StrategyList → StrategyList
before no_ways more = more
before (way_at p w ws) more = way_at p w (before ws more)

before_none : (ws : StrategyList) → before ws no_ways ≡ ws
unfolding before
before_none no_ways = refl
before_none (way_at p w ws) = ap (way_at p w) (before_none ws)

appended_is : (ws : StrategyList) (path : Names) (w : StrategyData) (more : StrategyList) → before (appended ws path w) more ≡ before ws (way_at path w more)
unfolding before
appended_is no_ways path w more = refl
appended_is (way_at q v ws) path w more = ap (way_at q v) (appended_is ws path w more)

all_is : (ws : StrategyList) (ps : List PathWay) → all_appended ws ps ≡ before ws (overrides_of ps)
all_is ws [] = sym (before_none ws)
all_is ws (p ∷ ps) = all_is (appended ws p.0 p.1) ps ∙ appended_is ws p.0 p.1 (overrides_of ps)

pub appended_all : (ps : List PathWay) → all_appended no_ways ps ≡ overrides_of ps
unfolding before
appended_all ps = all_is no_ways ps

-- ---- where all fit, they are apart

fit_apart : (ws : StrategyList) (ps : List PathWay) → are_apart ws ≡ true → AllFit ws ps → are_apart (all_appended ws ps) ≡ true
fit_apart ws [] a fit = a
fit_apart ws (p ∷ ps) a fit = fit_apart (appended ws p.0 p.1) ps (apart_more p.0 p.1 ws fit.0.below fit.0.apart a) fit.1

pub all_apart : (ps : List PathWay) → AllFit no_ways ps → are_apart (overrides_of ps) ≡ true
all_apart ps fit = ap are_apart (sym (appended_all ps)) ∙ fit_apart no_ways ps refl fit

-- ---- where one is refused, they aren't

none_front : (p : Names) (ws more : StrategyList) → overlaps_none p (before ws more) ≡ true → overlaps_none p ws ≡ true
unfolding before
none_front p no_ways more e = refl
none_front p (way_at q w ws) more e =
    let parts = and_parts (not (overlaps p q)) (overlaps_none p (before ws more)) e in
    rw (parts.0, none_front p ws more parts.1) refl

front_apart : (ws more : StrategyList) → are_apart (before ws more) ≡ true → are_apart ws ≡ true
unfolding before
front_apart no_ways more e = refl
front_apart (way_at p w ws) more e =
    let parts = and_parts (not (is_root p)) (overlaps_none p (before ws more) && are_apart (before ws more)) e in
    let rest = and_parts (overlaps_none p (before ws more)) (are_apart (before ws more)) parts.1 in
    rw (parts.0, none_front p ws more rest.0, front_apart ws more rest.1) refl

none_last : (q path : Names) (w : StrategyData) (ws : StrategyList) → overlaps_none q (appended ws path w) ≡ true → overlaps q path ≡ false
none_last q path w no_ways e = not-true (overlaps q path) (and_parts (not (overlaps q path)) true e).0
none_last q path w (way_at p v ws) e = none_last q path w ws (and_parts (not (overlaps q p)) (overlaps_none q (appended ws path w)) e).1

last_below : (path : Names) (w : StrategyData) (ws : StrategyList) → are_apart (appended ws path w) ≡ true → is_root path ≡ false
last_below path w no_ways e = not-true (is_root path) (and_parts (not (is_root path)) true e).0
last_below path w (way_at q v ws) e =
    let rest = (and_parts (not (is_root q)) (overlaps_none q (appended ws path w) && are_apart (appended ws path w)) e).1 in
    last_below path w ws (and_parts (overlaps_none q (appended ws path w)) (are_apart (appended ws path w)) rest).1

last_free : (path : Names) (w : StrategyData) (ws : StrategyList) → are_apart (appended ws path w) ≡ true → first_overlap path ws ≡ None
last_free path w no_ways e = refl
last_free path w (way_at q v ws) e =
    let rest = (and_parts (not (is_root q)) (overlaps_none q (appended ws path w) && are_apart (appended ws path w)) e).1 in
    let parts = and_parts (overlaps_none q (appended ws path w)) (are_apart (appended ws path w)) rest in
    let off : overlaps path q ≡ false = overlaps_sym path q ∙ none_last q path w ws parts.0 in
    rw (off) (last_free path w ws parts.1)

not_apart : (b : Bool) → (b ≡ true → ⊥) → b ≡ false
not_apart true h = absurd (h refl)
not_apart false h = refl

one_told : (ws : StrategyList) (p : PathWay) (more : StrategyList) (e : BuildError) → OverrideRefused ws p.0 e → Tells e (are_apart (before (appended ws p.0 p.1) more))
one_told ws p more causes.OutOfMemory h = tt
one_told ws p more causes.ZeroBlockLen h = absurd h
one_told ws p more causes.ZeroConcurrency h = absurd h
one_told ws p more (causes.ZoneLength n) h = absurd h
one_told ws p more causes.RootPath h = not_apart _ (λ a. let below = last_below p.0 p.1 ws (front_apart (appended ws p.0 p.1) more a) in absurd (cc (h, below)))
one_told ws p more (causes.OverlappingPath standing new) h = not_apart _ (λ a. let free = last_free p.0 p.1 ws (front_apart (appended ws p.0 p.1) more a) in let found = h.2 in absurd (cc (found, free)))

some_told : (ws : StrategyList) (ps : List PathWay) (e : BuildError) → OverridesRefused ws ps e → Tells e (are_apart (all_appended ws ps))
some_told ws [] e h = memory_told e (are_apart ws) h
some_told ws (p ∷ ps) e (inl h) = rw (all_is (appended ws p.0 p.1) ps) (one_told ws p (overrides_of ps) e h)
some_told ws (p ∷ ps) e (inr h) = some_told (appended ws p.0 p.1) ps e h.1

pub paths_told : (ps : List PathWay) (e : BuildError) → OverridesRefused no_ways ps e → Tells e (are_apart (overrides_of ps))
paths_told ps e h = rw (appended_all ps) at (some_told no_ways ps e h)

pub ruleset path_rules = (appended_all, all_apart, paths_told)
