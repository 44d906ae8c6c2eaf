-- Rows as they are held, in parts.
use Rattle.std.specs.Prelude.{◌≡◌, List, map, Option, Some, None, Result, Ok, Err}
use Rattle.std.specs.Global.{Vec}
use Rattle.vx_model.specs.Words.{joined_by}
use Rattle.vx_model.specs.TreeView.{val}
use Rattle.vx_model.specs.ChunkData.{row_values}
use Rattle.vx_model.specs.ValueData.{ValueData}
use Rattle.vx_layout_tree.specs.declared.kind.LayoutKind.{LayoutKind}
use Rattle.vx_layout_tree.specs.declared.kind.LayoutKind.TheVariants as kinds
use Rattle.vx_segment_map.specs.declared.error.ReadError.{ReadError}
use Rattle.vx_segment_map.specs.declared.error.ReadError.TheVariants.{OutOfMemory}
use Rattle.vx_read_chunk.specs.declared.held.HeldPart.{HeldPart}
use Rattle.vx_read_chunk.specs.declared.held.HeldPart.TheVariants.{Chunk, Values}
use Rattle.vx_read_chunk.specs.declared.held.HeldRows.{HeldRows}

abbrev pub part_rows : HeldPart → List ValueData
part_rows (Chunk c) = row_values c
part_rows (Values v) = map val v.items

abbrev pub parts_rows : Vec HeldPart → List ValueData
parts_rows v = joined_by part_rows v.items

abbrev pub held_rows : HeldRows → List ValueData
held_rows h = parts_rows h.parts

-- the rows where there are any, else an error; memory may run out
abbrev pub GivesHeld : Result HeldRows ReadError → Option (List ValueData) → Type 0
GivesHeld (Ok h) rows = rows ≡ Some (held_rows h)
GivesHeld (Err OutOfMemory) rows = Unit {0}
GivesHeld (Err e) rows = rows ≡ None

-- a kind with zones beside its data
abbrev pub IsZoned : LayoutKind → Type 0
IsZoned kinds.Zoned = Unit {0}
IsZoned kinds.LegacyStats = Unit {0}
IsZoned k = ⊥
