-- Why overrides are refused; memory may run out.
use Rattle.std.specs.Prelude.{◌≡◌, ◌⊎◌, true, false, List, [], ◌∷◌, Some}
use Rattle.vx_strategy_spec.specs.StrategyData.{StrategyList}
use Rattle.vx_strategy_spec.specs.Admitted.{is_root}
use Rattle.vx_strategy.specs.Overridden.{Names, PathWay, Fits, first_overlap, appended}
use Rattle.vx_strategy_options.specs.declared.error.BuildError.{BuildError}
use Rattle.vx_strategy_options.specs.declared.error.BuildError.TheVariants.{RootPath, OverlappingPath, OutOfMemory}

-- the root is looked at first; then the first standing path that overlaps is told, and the new one
abbrev pub OverrideRefused : StrategyList → Names → BuildError → Type 0
OverrideRefused ws path RootPath = is_root path ≡ true
OverrideRefused ws path (OverlappingPath standing new) = (new ≡ path) × (is_root path ≡ false) × (first_overlap path ws ≡ Some standing)
OverrideRefused ws path OutOfMemory = Unit {0}
OverrideRefused ws path e = ⊥

-- the first of several that is refused decides
abbrev pub OverridesRefused : StrategyList → List PathWay → BuildError → Type 0
OverridesRefused ws [] e = e ≡ OutOfMemory
OverridesRefused ws (p ∷ ps) e = OverrideRefused ws p.0 e ⊎ (Fits ws p.0 × OverridesRefused (appended ws p.0 p.1) ps e)
