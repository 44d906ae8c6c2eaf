-- What a constructor refuses is wrong, and what it makes isn't.
use Rattle.std.proofs.Common.{◌≡◌, ℕ, ◌<◌, ◌≤◌, ◌^◌, ◌&&◌, Bool, true, false, List, [], ◌∷◌, ◌⊎◌, inl, inr, map, refl, arith, Option, Err}
use Rattle.std.proofs.lemmas.Bool.{lt-ltb, le-ltb, and_from, and_left, and_right}
use Rattle.std.specs.Prelude.{nat_lt}
use Rattle.vx_strategy_options.specs.Causes.{ZeroBlockLenOf, ZeroConcurrencyOf, NoZonesOf, AreZones}
use Rattle.vx_strategy.specs.WrapCauses.{Wraps as CanWrap, AllWrap, WrapRefused, FirstRefused}
use Rattle.vx_strategy.specs.Wrapped.{wraps_asked}
use Rattle.vx_strategy_options.specs.OptionViews.{zoned_options}
use Rattle.vx_strategy_options.specs.declared.options.RepartitionWriterOptions.{RepartitionWriterOptions}
use Rattle.vx_strategy_options.specs.declared.options.ZonedLayoutOptions.{ZonedLayoutOptions}
use Rattle.vx_strategy.specs.declared.wrapper.ListWrapper.{ListWrapper}
use Rattle.vx_strategy.specs.declared.wrapper.ListWrapper.TheVariants as asked
use Rattle.vx_strategy_options.specs.declared.error.BuildError.{BuildError}
use Rattle.vx_strategy_options.specs.declared.error.BuildError.TheVariants as causes
use Rattle.vx_json.specs.Steps.{when}
use Rattle.vx_strategy_json.specs.Options.{are_zones}
use Rattle.vx_strategy_json.specs.Forms.{can_wrap, all_can_wrap, wraps_of}
use Rattle.vx_strategy_json.specs.Refusals.{refusal}
use Rattle.vx_strategy_json.specs.Views.{Gives, wrap}

-- the refusal e stands where the condition c fails
abbrev pub Tells : BuildError → Bool → Type 0
Tells causes.OutOfMemory c = Unit {0}
Tells e c = c ≡ false

pub refused : {X Y : Type 0} (view : X → Y) (e : BuildError) (c : Bool) (y : Option Y) → Tells e c → Gives view (Err (refusal e)) (when c y)
refused view causes.OutOfMemory c y t = tt
refused view causes.ZeroBlockLen c y t = rw t refl
refused view causes.ZeroConcurrency c y t = rw t refl
refused view (causes.ZoneLength n) c y t = rw t refl
refused view causes.RootPath c y t = rw t refl
refused view (causes.OverlappingPath p q) c y t = rw t refl

pub above_zero : (n : ℕ) → 0 < n → nat_lt 0 n ≡ true
above_zero n h = lt-ltb 0 n h

is_zero : (n : ℕ) → n ≡ 0 → nat_lt 0 n ≡ false
is_zero n h = le-ltb 0 n (omega arith)

pub blocks_told : (o : RepartitionWriterOptions) (e : BuildError) → ZeroBlockLenOf o e → Tells e (nat_lt 0 o.block_len_multiple)
blocks_told o causes.OutOfMemory h = tt
blocks_told o causes.ZeroBlockLen h = is_zero o.block_len_multiple h
blocks_told o causes.ZeroConcurrency h = absurd h
blocks_told o (causes.ZoneLength n) h = absurd h
blocks_told o causes.RootPath h = absurd h
blocks_told o (causes.OverlappingPath p q) h = absurd h

pub concurrency_told : (n : ℕ) (e : BuildError) → ZeroConcurrencyOf n e → Tells e (nat_lt 0 n)
concurrency_told n causes.OutOfMemory h = tt
concurrency_told n causes.ZeroBlockLen h = absurd h
concurrency_told n causes.ZeroConcurrency h = is_zero n h
concurrency_told n (causes.ZoneLength m) h = absurd h
concurrency_told n causes.RootPath h = absurd h
concurrency_told n (causes.OverlappingPath p q) h = absurd h

pub zones_true : (o : ZonedLayoutOptions) → AreZones o → are_zones (zoned_options o) ≡ true
zones_true o h =
    and_from (nat_lt 0 o.block_size) (nat_lt o.block_size (2 ^ 32) && nat_lt 0 o.concurrency) (lt-ltb 0 o.block_size h.0.0)
    (and_from (nat_lt o.block_size (2 ^ 32)) (nat_lt 0 o.concurrency) (lt-ltb o.block_size (2 ^ 32) h.0.1) (lt-ltb 0 o.concurrency h.1))

zones_false : (o : ZonedLayoutOptions) (n : ℕ) → n ≡ o.block_size → (n ≡ 0) ⊎ (2 ^ 32 ≤ n) → are_zones (zoned_options o) ≡ false
zones_false o n is (inl none) = and_left (nat_lt 0 o.block_size) (nat_lt o.block_size (2 ^ 32) && nat_lt 0 o.concurrency) (le-ltb 0 o.block_size (omega arith))
zones_false o n is (inr long) =
    and_right (nat_lt 0 o.block_size) (nat_lt o.block_size (2 ^ 32) && nat_lt 0 o.concurrency)
    (and_left (nat_lt o.block_size (2 ^ 32)) (nat_lt 0 o.concurrency) (le-ltb o.block_size (2 ^ 32) (omega arith)))

no_room : (o : ZonedLayoutOptions) → o.concurrency ≡ 0 → are_zones (zoned_options o) ≡ false
no_room o h =
    and_right (nat_lt 0 o.block_size) (nat_lt o.block_size (2 ^ 32) && nat_lt 0 o.concurrency)
    (and_right (nat_lt o.block_size (2 ^ 32)) (nat_lt 0 o.concurrency) (is_zero o.concurrency h))

pub zones_told : (o : ZonedLayoutOptions) (e : BuildError) → NoZonesOf o e → Tells e (are_zones (zoned_options o))
zones_told o causes.OutOfMemory h = tt
zones_told o causes.ZeroBlockLen h = absurd h
zones_told o causes.ZeroConcurrency h = no_room o h.1
zones_told o (causes.ZoneLength n) h = zones_false o n h.0 h.1
zones_told o causes.RootPath h = absurd h
zones_told o (causes.OverlappingPath p q) h = absurd h

-- ---- wrappers

pub memory_told : (e : BuildError) (c : Bool) → e ≡ causes.OutOfMemory → Tells e c
memory_told causes.OutOfMemory c h = tt
memory_told causes.ZeroBlockLen c h = absurd (cc h)
memory_told causes.ZeroConcurrency c h = absurd (cc h)
memory_told (causes.ZoneLength n) c h = absurd (cc h)
memory_told causes.RootPath c h = absurd (cc h)
memory_told (causes.OverlappingPath p q) c h = absurd (cc h)

pub wrap_true : (w : ListWrapper) → CanWrap w → can_wrap (wrap w) ≡ true
wrap_true (asked.Repartition o) h = lt-ltb 0 o.block_len_multiple h
wrap_true (asked.Buffered size) h = refl
wrap_true (asked.Zoned stats o) h = zones_true o h

pub wraps_true : (ws : List ListWrapper) → AllWrap ws → all_can_wrap (map wrap ws) ≡ true
wraps_true [] h = refl
wraps_true (w ∷ ws) h = and_from (can_wrap (wrap w)) (all_can_wrap (map wrap ws)) (wrap_true w h.0) (wraps_true ws h.1)

wrap_told : (w : ListWrapper) (e : BuildError) → WrapRefused w e → Tells e (can_wrap (wrap w))
wrap_told (asked.Repartition o) e h = blocks_told o e h
wrap_told (asked.Buffered size) e h = memory_told e true h
wrap_told (asked.Zoned stats o) e h = zones_told o e h

first_told : (e : BuildError) (a b : Bool) → Tells e a → Tells e (a && b)
first_told causes.OutOfMemory a b h = tt
first_told causes.ZeroBlockLen a b h = and_left a b h
first_told causes.ZeroConcurrency a b h = and_left a b h
first_told (causes.ZoneLength n) a b h = and_left a b h
first_told causes.RootPath a b h = and_left a b h
first_told (causes.OverlappingPath p q) a b h = and_left a b h

later_told : (e : BuildError) (a b : Bool) → Tells e b → Tells e (a && b)
later_told causes.OutOfMemory a b h = tt
later_told causes.ZeroBlockLen a b h = and_right a b h
later_told causes.ZeroConcurrency a b h = and_right a b h
later_told (causes.ZoneLength n) a b h = and_right a b h
later_told causes.RootPath a b h = and_right a b h
later_told (causes.OverlappingPath p q) a b h = and_right a b h

pub wraps_told : (ws : List ListWrapper) (e : BuildError) → FirstRefused ws e → Tells e (all_can_wrap (map wrap ws))
wraps_told [] e h = memory_told e true h
wraps_told (w ∷ ws) e (inl h) = first_told e (can_wrap (wrap w)) (all_can_wrap (map wrap ws)) (wrap_told w e h)
wraps_told (w ∷ ws) e (inr h) = later_told e (can_wrap (wrap w)) (all_can_wrap (map wrap ws)) (wraps_told ws e h.1)

pub asked_wraps : (ws : List ListWrapper) → wraps_asked ws ≡ wraps_of (map wrap ws)
asked_wraps [] = refl
asked_wraps (asked.Repartition o ∷ ws) = rw (asked_wraps ws) refl
asked_wraps (asked.Buffered size ∷ ws) = rw (asked_wraps ws) refl
asked_wraps (asked.Zoned stats o ∷ ws) = rw (asked_wraps ws) refl

pub ruleset block_rules = (refused, blocks_told, above_zero)

pub ruleset concurrency_rules = (refused, concurrency_told, above_zero)

pub ruleset zone_rules = (refused, zones_told, zones_true)

pub ruleset table_rules = (refused, wraps_told, wraps_true, asked_wraps)
