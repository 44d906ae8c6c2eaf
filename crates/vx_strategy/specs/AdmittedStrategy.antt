-- Strategies that constructors make.
use Rattle.std.specs.Prelude.{◌≡◌, ◌&&◌, Bool, true, refl}
use Rattle.std.specs.Coded.{Coded}
use Rattle.vx_strategy_spec.specs.StrategyData.{StrategyData, StrategyList, no_ways}
use Rattle.vx_strategy_spec.specs.Admitted.{is_admitted, are_apart, are_admitted}
use Rattle.vx_strategy.specs.Passing.{Passing, passing_or, item_passing, passing_code}
use Rattle.vx_strategy.specs.StrategyCode.{nothing, way_code, ways_code}

abbrev pub AdmittedStrategy : Type 0
AdmittedStrategy = Passing StrategyData is_admitted

abbrev pub as_admitted : StrategyData → AdmittedStrategy
as_admitted w = passing_or is_admitted (record { item = nothing; passes = refl }) w

pub item_admitted : (w : StrategyData) → is_admitted w ≡ true → (as_admitted w).item ≡ w
item_admitted w h = item_passing is_admitted _ w h

abbrev pub admitted_code : Coded AdmittedStrategy
admitted_code = passing_code is_admitted way_code

-- ---- overrides: their paths are apart

abbrev pub are_overrides : StrategyList → Bool
are_overrides ws = are_apart ws && are_admitted ws

abbrev pub AdmittedOverrides : Type 0
AdmittedOverrides = Passing StrategyList are_overrides

abbrev pub as_overrides : StrategyList → AdmittedOverrides
as_overrides ws = passing_or are_overrides (record { item = no_ways; passes = refl }) ws

pub item_overrides : (ws : StrategyList) → are_overrides ws ≡ true → (as_overrides ws).item ≡ ws
item_overrides ws h = item_passing are_overrides _ ws h

abbrev pub overrides_code : Coded AdmittedOverrides
overrides_code = passing_code are_overrides ways_code
