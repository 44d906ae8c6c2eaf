-- A struct node hands its columns the parts of each chunk, closes their queues at the end, and joins.
use Rattle.std.specs.Prelude.{ℕ, ◌+◌, [], ◌∷◌, length}
use Rattle.vx_model.specs.Ty.{struct}
use Rattle.vx_rules.specs.Columns.{struct_columns}
use Rattle.vx_tasks.specs.Task.Kind.{Take}
use Rattle.vx_plan.specs.PlanData.{Item, rows_in}
use Rattle.vx_machine_turns.specs.Locals.{StructNode, struct_local}
use Rattle.vx_machine_turns.specs.Acts.{Act, Turn, does, ends_as, struct_of}
use Rattle.vx_machine_turns.specs.Columns.{column_puts}

-- the columns' paths are made at the item: the pointer below its path comes behind the last one's
abbrev pub struct_turn : StructNode → ℕ → Item → Turn
struct_turn n rows i = record {
  first = record (does Take) { numbers = (rows + rows_in i.1) ∷ []; indices = length n.writers ∷ [] };
  more = column_puts 0 i.0 (struct_columns n.fields n.nullable i.1) n.writers;
  after = struct_local n (rows + rows_in i.1);
}

abbrev pub struct_end : StructNode → ℕ → Act
struct_end n rows = ends_as (struct_of (struct n.fields n.nullable) rows)
