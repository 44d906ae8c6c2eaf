use Rattle.std.proofs.Common.{◌≡◌, drop}
use Rattle.vx_table_dispatch.proofs.Dispatched.{writers_before, writers_of}
use Rattle.vx_table_dispatch.proofs.at_type.writers_of.Given as goal

abbrev pub invariant-loop-field : goal.invariant-loop-field
invariant-loop-field l = writers_before l.writers.items (writers_of l.table (drop l.field-index l.fields)) ≡ writers_of l.table l.fields
