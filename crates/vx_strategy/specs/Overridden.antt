-- Overrides of a table, one more at a time.
use Rattle.std.specs.Prelude.{◌≡◌, ℕ, Bool, true, false, if◌then◌else◌, List, [], ◌∷◌, Option, Some, None}
use Rattle.vx_strategy.specs.Places.{first_place}
use Rattle.vx_strategy_spec.specs.StrategyData.{StrategyData, StrategyList, no_ways, way_at}
use Rattle.vx_strategy_spec.specs.Admitted.{is_root, overlaps, overlaps_none}
use Rattle.vx_strategy.specs.declared.overrides.PathWriter.{PathWriter}

abbrev pub Names : Type 0
Names = List (List ℕ)

-- one more, behind the others
abbrev pub appended : StrategyList → Names → StrategyData → StrategyList
appended no_ways path w = way_at path w no_ways
appended (way_at q v ws) path w = way_at q v (appended ws path w)

-- the first standing path that overlaps
abbrev pub first_overlap : Names → StrategyList → Option Names
first_overlap path no_ways = None
first_overlap path (way_at q v ws) = if overlaps path q then Some q else first_overlap path ws

-- the path isn't the root, and overlaps no standing one
pub record Fits (ws : StrategyList) (path : Names) : Type 0 where
  pub below : is_root path ≡ false
  pub apart : overlaps_none path ws ≡ true

abbrev pub PathWay : Type 0
PathWay = Names × StrategyData

abbrev pub all_appended : StrategyList → List PathWay → StrategyList
all_appended ws [] = ws
all_appended ws (p ∷ ps) = all_appended (appended ws p.0 p.1) ps

abbrev pub AllFit : StrategyList → List PathWay → Type 0
AllFit ws [] = Unit {0}
AllFit ws (p ∷ ps) = Fits ws p.0 × AllFit (appended ws p.0 p.1) ps

abbrev pub is_over : Names → PathWriter → Bool
is_over path w = overlaps w.path path

-- the place of the first path that overlaps
abbrev pub overlap_place : Names → List PathWriter → Option ℕ
overlap_place path ws = first_place (is_over path) ws
