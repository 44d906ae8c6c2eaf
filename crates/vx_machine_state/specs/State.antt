-- The step machine as the program keeps it, in plain data: ids and pointers by their paths, chunks and layouts by their data.
use Rattle.std.specs.Prelude.{ℕ, Bool, List, Option}
use Rattle.vx_model.specs.Ty.{Ty}
use Rattle.vx_model.specs.CellData.{CellData}
use Rattle.vx_model.specs.ChunkData.{ChunkData}
use Rattle.vx_path.specs.Path.{Eof}
use Rattle.vx_layout_spec.specs.LayoutTree.{LayoutData, Spec}
use Rattle.vx_strategy_spec.specs.StrategyData.{FlatOptions}
use Rattle.vx_plan.specs.PlanData.{Item}
use Rattle.vx_machine_turns.specs.Forms.{Form}
use Rattle.vx_machine_state.specs.Zoned.{Zoner, Zones}
use Rattle.vx_machine_turns.specs.Locals.{RunsSoFar}
use Rattle.vx_machine_state.specs.Coder.{Coder}

-- a chunk's segment that is to be appended: its path, its bytes, and what its layout needs
pub record Stored : Type 0 where
  pub id : List ℕ
  pub bytes : List ℕ
  -- its tree of encodings, where the layout keeps it
  pub tree : Option (List ℕ)
  pub rows : ℕ
  pub type : Ty

-- how a layout is made of the children's
pub data Fold : Type 0 where
  fold_chunks : Ty → Fold
  -- of a struct's or a list's columns, with the rows
  fold_columns : Ty → ℕ → Fold
  -- of a zoned node's data and table, with the rows, the zone length and the table's columns
  fold_zones : Ty → ℕ → ℕ → List Spec → Fold
  -- of runs, each with its rows
  fold_runs : Ty → List ℕ → Fold

-- what is left of a task's present block
pub data Next : Type 0 where
  put : ℕ → Item → Next
  -- on the queue of its only child; so many bytes are then taken from the tracker
  hand_on : ℕ → Item → Next
  -- it calls the compressor under this number for the item's chunk; the image is then handed on in its place
  press : ℕ → Item → Next
  -- it calls the compressor for the first chunk, and goes on by the image: it cuts runs, or it starts the fallback at the pointer
  probe : Coder → Eof → Item → Next
  -- it starts codes and values of a run, from number j on, at the pointer, and puts the item on the codes' queue
  open_run : Coder → ℕ → Eof → Item → Next
  -- it puts the item on the queue of child j + 1, and closes that and child j's
  end_run : ℕ → Item → Next
  append : Stored → Next
  -- the queues of all children
  shut_kids : Next
  join_kids : Fold → Next
  -- Once the data child has done all: the table's child is started by its form, with this chunk alone; the pointer stands at the
  -- path that the chunk stands below.
  start_table : Form → Eof → ChunkData → Next
  -- once the only child has done all: the pointer isn't needed
  leave_kid : Eof → Next

-- what a task has in mind between two chunks
pub data Mind : Type 0 where
  -- a flat node's: no chunk came; one came
  no_chunk : FlatOptions → Ty → Mind
  one_chunk : Stored → Mind
  -- a chunked node's: whether a nullable struct stands above, type, child, the pointer at the next child's eof path, rows so far
  by_chunk : Bool → Ty → Form → Eof → ℕ → Mind
  -- a struct node's: type and rows so far
  by_column : Ty → ℕ → Mind
  -- a list node's: elements' type, nullable, whether no chunk came, the elements and the rows so far
  by_list : Ty → Bool → Bool → ℕ → ℕ → Mind
  -- a repartition's: block length, least bytes of a block, type; the rows held besides the newest chunk, that one, rows so far
  by_block : ℕ → ℕ → Ty → List CellData → Option Item → ℕ → Mind
  -- a buffer's: size in bytes; the chunks held besides the newest one, that one, rows so far
  by_size : ℕ → List ChunkData → Option Item → ℕ → Mind
  -- a collection's: type; the last path and the chunks so far, and their rows
  as_one : Ty → Option (List ℕ × List ChunkData) → ℕ → Mind
  -- a zoned node's: the pointer at its table's path, and the zones so far
  by_zone : Zoner → Eof → Zones → Mind
  -- a compressing node's: the compressor's number
  by_image : ℕ → Mind
  -- of one that hands on each chunk as it is
  as_is : Mind
  -- a dictionary node's: no chunk came, and its pointer; the first one is probed; it cuts runs: how far it came, the newest chunk, rows so far
  by_probe : Coder → Eof → Mind
  asking : Mind
  by_run : Coder → RunsSoFar → Item → ℕ → Mind
  -- it has seen the end of its stream
  ending : Mind
  -- so it has, and its layout is its only child's
  passing : Mind
  -- it has done all
  made : LayoutData ℕ → Mind

-- a task by itself
pub record Desk : Type 0 where
  pub name : List ℕ
  pub mind : Mind
  pub todo : List Next
  -- its queue, with its places, and whether it is closed
  pub inbox : List Item
  pub places : ℕ
  pub closed : Bool

-- the first task, its children, and its later siblings
pub data Tasks : Type 0 where
  no_tasks : Tasks
  task_then : Desk → Tasks → Tasks → Tasks
