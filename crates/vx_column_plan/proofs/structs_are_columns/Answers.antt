use Rattle.vx_column_plan.proofs.ColumnLaws.{struct_is_columns}
use Rattle.vx_column_plan.proofs.structs_are_columns.Goals as goal

pub returns : goal.returns
returns c = struct_is_columns
