-- A constructor's refusal, and that of a part, as the reader's.
use Rattle.vx_strategy_options.specs.declared.error.BuildError.{BuildError}
use Rattle.vx_strategy_options.specs.declared.error.BuildError.TheVariants as causes
use Rattle.vx_json.specs.declared.error.JsonError.{JsonError}
use Rattle.vx_json.specs.declared.error.JsonError.TheVariants as parts
use Rattle.vx_strategy_json.specs.declared.error.StrategyError.{StrategyError}
use Rattle.vx_strategy_json.specs.declared.error.StrategyError.TheVariants.{Wrong, OutOfMemory}

abbrev pub refusal : BuildError → StrategyError
refusal causes.OutOfMemory = OutOfMemory
refusal e = Wrong

abbrev pub part_refusal : JsonError → StrategyError
part_refusal parts.Wrong = Wrong
part_refusal parts.OutOfMemory = OutOfMemory

-- to those who read a strategy as a part
abbrev pub as_part : StrategyError → JsonError
as_part Wrong = parts.Wrong
as_part OutOfMemory = parts.OutOfMemory
