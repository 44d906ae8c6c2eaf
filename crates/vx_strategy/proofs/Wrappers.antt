-- Wrappers one by one.
use Rattle.std.proofs.Common.{◌≡◌, List, [], ◌∷◌, ◌++◌, length, inl, refl, ap, arith}
use Rattle.vx_strategy_spec.specs.StrategyData.{Wraps, no_wraps}
use Rattle.vx_strategy.specs.WrapViews.{wrap, wraps}
use Rattle.vx_strategy.specs.Wrapped.{wraps_asked}
use Rattle.vx_strategy.specs.WrapCauses.{FirstRefused}
use Rattle.vx_strategy_options.specs.declared.error.BuildError.TheVariants.{OutOfMemory}
use Rattle.vx_strategy.specs.declared.wrapper.ListWrapper.{ListWrapper}
use Rattle.vx_strategy.specs.declared.wrapper.ListWrapper.TheVariants as asked
use Rattle.vx_strategy.specs.declared.wrapper.Wrapper.{Wrapper}

-- these wrappers around those
abbrev pub wraps_before : List Wrapper → Wraps → Wraps
wraps_before [] ws = ws
wraps_before (x ∷ xs) ws = wrap x (wraps_before xs ws)

pub before_more : (xs : List Wrapper) (x : Wrapper) (ws : Wraps) → wraps_before (xs ++ (x ∷ [])) ws ≡ wraps_before xs (wrap x ws)
before_more [] x ws = refl
before_more (y ∷ xs) x ws = ap (wrap y) (before_more xs x ws)

pub before_none : (xs : List Wrapper) → wraps_before xs no_wraps ≡ wraps xs
before_none [] = refl
before_none (y ∷ xs) = ap (wrap y) (before_none xs)

pub before_end : (xs : List Wrapper) (ys : List ListWrapper) → length ys ≡ 0 → wraps_before xs (wraps_asked ys) ≡ wraps xs
before_end xs [] e = before_none xs
before_end xs (y ∷ ys) e = absurd (omega arith)

-- memory may run out before any is looked at
pub memory_first : (ws : List ListWrapper) → FirstRefused ws OutOfMemory
memory_first [] = refl
memory_first (asked.Repartition o ∷ ws) = inl tt
memory_first (asked.Buffered size ∷ ws) = inl refl
memory_first (asked.Zoned stats o ∷ ws) = inl tt

pub ruleset wrap_rules = (before_more, before_none, before_end, memory_first)
