-- The columns that a strategy writes side by side.
use Rattle.std.specs.Prelude.{Bool, List, [], ◌∷◌}
use Rattle.vx_model.specs.Ty.{Ty, struct}
use Rattle.vx_model.specs.TyView.{ty}
use Rattle.vx_strategy_spec.specs.StrategyData.{StrategyData, structured}
use Rattle.vx_column_plan.specs.Columns.{Column, columns_by}
use Rattle.vx_column_ways.specs.declared.ways.ColumnWay.{ColumnWay}

abbrev pub column_of : ColumnWay → Column
column_of w = record { way = w.strategy.item; type = ty w.dtype; mark = w.marked }

-- a struct's columns, none of another strategy or type
abbrev pub columns_in : StrategyData → Ty → Bool → List Column
columns_in (structured v d ws) (struct fs n) m = columns_by v d ws m fs n
columns_in w t m = []

-- these columns before those
abbrev pub before : List ColumnWay → List Column → List Column
before [] cs = cs
before (w ∷ ws) cs = column_of w ∷ before ws cs
