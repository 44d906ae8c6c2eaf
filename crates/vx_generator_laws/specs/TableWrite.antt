-- How the generated table is written, and that it is valid input.
use Rattle.std.specs.Prelude.{ℕ, ◌≤◌, true, false, None}
use Rattle.vx_encodings.specs.AllEncodings.{all_encodings}
use Rattle.vx_compressor_spec.specs.TableImage.{table_image}
use Rattle.vx_machine_state.specs.Images.{images_of}
use Rattle.vx_plan.specs.PlanData.{Setting, Plan}
use Rattle.vx_plan.specs.SourcePlan.{source_plan}
use Rattle.vx_plan.specs.Valid.{Valid}
use Rattle.vx_setting.specs.Setting.{real}
use Rattle.vx_generator.specs.Generated.{table_type, table_batches}
use Rattle.vx_generator.specs.TableStrategy.{table_strategy}

-- all encodings and aggregates, and the table compressor's images
abbrev pub table_setting : Setting
table_setting = real all_encodings None (images_of table_image)

-- what is written of a table of so many rows
abbrev pub table_plan : ℕ → Plan
table_plan rows = source_plan table_setting table_strategy table_type false (table_batches rows) true

-- so many rows are written at most
abbrev pub most_rows : ℕ
most_rows = 1000000

-- A table of at most so many rows is valid input, of a sink and a tracker at 0.
abbrev pub TableIsValid : Type 0
TableIsValid = (rows : ℕ) → rows ≤ most_rows → Valid table_setting table_strategy table_type false 0 0 (table_batches rows)
