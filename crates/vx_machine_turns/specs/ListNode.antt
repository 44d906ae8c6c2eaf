-- A list node does as a struct does with its columns, elements and offsets. Where its stream ends without a chunk, it
-- refuses, and its columns' streams stay open.
use Rattle.std.specs.Prelude.{ℕ, suc, ◌+◌, Bool, true, false, List, [], ◌∷◌, length, Some}
use Rattle.vx_model.specs.Ty.{list}
use Rattle.vx_rules.specs.Columns.{list_columns}
use Rattle.vx_tasks.specs.Task.Kind.{Take, TakeEnd}
use Rattle.vx_plan.specs.PlanData.{Item, empty_list, rows_in}
use Rattle.vx_plan.specs.ColumnNodes.{elements_in}
use Rattle.vx_machine_turns.specs.Locals.{ListNode, list_local}
use Rattle.vx_machine_turns.specs.Acts.{Act, Turn, does, ends_as, list_of}
use Rattle.vx_machine_turns.specs.Columns.{column_puts, column_ends}

-- it counts the rows, the offsets' rows, one more than these, and the elements; the columns' paths are made as a struct's are
abbrev pub list_turn : ListNode → Bool → ℕ → ℕ → Item → Turn
list_turn n first from rows i = record {
  first = record (does Take) {
    numbers = (rows + rows_in i.1) ∷ suc (rows + rows_in i.1) ∷ (from + elements_in i.1) ∷ [];
    indices = length n.writers ∷ [];
  };
  more = column_puts 0 i.0 (list_columns n.elements n.nullable first from i.1) n.writers;
  after = list_local n false (from + elements_in i.1) (rows + rows_in i.1);
}

abbrev pub list_end : ListNode → Bool → ℕ → Act
list_end n true rows = record (does TakeEnd) { refusal = Some empty_list }
list_end n false rows = ends_as (list_of (list n.elements n.nullable) rows)

abbrev pub list_ends : ListNode → Bool → List Act
list_ends n true = []
list_ends n false = column_ends n.writers
