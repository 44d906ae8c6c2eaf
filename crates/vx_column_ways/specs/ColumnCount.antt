-- How many columns a strategy writes side by side.
use Rattle.std.specs.Prelude.{ℕ, ◌+◌, if◌then◌else◌, length, Option, Some, None}
use Rattle.vx_model.specs.Ty.{Ty, struct, fields_in}
use Rattle.vx_strategy_spec.specs.StrategyData.{StrategyData, structured, tabled}

-- the fields of a struct, and a validity where it is nullable
abbrev pub columns_of : Ty → Option ℕ
columns_of (struct fs n) = Some (if n then length (fields_in fs) + 1 else length (fields_in fs))
columns_of t = None

-- of a strategy that writes structs column by column
abbrev pub column_count : StrategyData → Ty → Option ℕ
column_count (structured validity fallback fields) t = columns_of t
column_count (tabled validity leaf overrides lists wraps) t = columns_of t
column_count w t = None
