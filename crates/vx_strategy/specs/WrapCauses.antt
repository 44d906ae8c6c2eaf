-- Why wrappers are refused.
use Rattle.std.specs.Prelude.{◌≡◌, ◌<◌, ◌⊎◌, List, [], ◌∷◌}
use Rattle.vx_strategy_options.specs.Causes.{ZeroBlockLenOf, AreZones, NoZonesOf}
use Rattle.vx_strategy_options.specs.declared.error.BuildError.{BuildError}
use Rattle.vx_strategy_options.specs.declared.error.BuildError.TheVariants.{OutOfMemory}
use Rattle.vx_strategy.specs.declared.wrapper.ListWrapper.{ListWrapper}
use Rattle.vx_strategy.specs.declared.wrapper.ListWrapper.TheVariants.{Repartition, Buffered, Zoned}

-- the constructor of the wrapped strategy takes the options
abbrev pub Wraps : ListWrapper → Type 0
Wraps (Repartition o) = 0 < o.block_len_multiple
Wraps (Buffered size) = Unit {0}
Wraps (Zoned stats o) = AreZones o

abbrev pub AllWrap : List ListWrapper → Type 0
AllWrap [] = Unit {0}
AllWrap (w ∷ ws) = Wraps w × AllWrap ws

abbrev pub WrapRefused : ListWrapper → BuildError → Type 0
WrapRefused (Repartition o) e = ZeroBlockLenOf o e
WrapRefused (Buffered size) e = e ≡ OutOfMemory
WrapRefused (Zoned stats o) e = NoZonesOf o e

-- the first that is refused decides
abbrev pub FirstRefused : List ListWrapper → BuildError → Type 0
FirstRefused [] e = e ≡ OutOfMemory
FirstRefused (w ∷ ws) e = WrapRefused w e ⊎ (Wraps w × FirstRefused ws e)
