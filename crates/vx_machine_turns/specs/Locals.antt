-- What a task has in mind between two items: what its node is, which never changes, and how far it has come.
use Rattle.std.specs.Prelude.{ℕ, Bool, List, Option}
use Rattle.vx_model.specs.Ty.{Ty, Tys}
use Rattle.vx_model.specs.CellData.{CellData}
use Rattle.vx_model.specs.ValueData.{ValueData}
use Rattle.vx_model.specs.ChunkData.{ChunkData}
use Rattle.vx_path.specs.Path.{Eof}
use Rattle.vx_named_tasks.specs.Names.{Outset}
use Rattle.vx_rules.specs.Blocks.{BlockOptions}
use Rattle.vx_rules.specs.Runs.{DictOptions}
use Rattle.vx_strategy_spec.specs.StrategyData.{FlatOptions, ZonedOptions}
use Rattle.vx_plan.specs.PlanData.{Item}
use Rattle.vx_machine_turns.specs.Forms.{Form, Writer}

-- ---- what a node is: `name` is its task's, `eof` its eof path

pub record ChunkedNode : Type 0 where
  pub name : List ℕ
  pub mark : Bool
  pub type : Ty
  pub child : Form

-- of a struct, with its columns: validity where it is nullable, then the fields
pub record StructNode : Type 0 where
  pub name : List ℕ
  pub fields : Tys
  pub nullable : Bool
  pub writers : List Writer
  pub eof : Eof

-- of a list, with the elements' type and the columns: elements, offsets, validity where it is nullable
pub record ListNode : Type 0 where
  pub name : List ℕ
  pub elements : Ty
  pub nullable : Bool
  pub writers : List Writer
  pub eof : Eof

pub record GroupedNode : Type 0 where
  pub name : List ℕ
  pub mark : Bool
  pub type : Ty
  pub child : Form
  pub eof : Eof

pub record CompressedNode : Type 0 where
  pub name : List ℕ
  pub mark : Bool
  -- the compressor's number, and how many chunks may wait behind it
  pub which : ℕ
  pub room : ℕ
  pub child : Form
  pub eof : Eof

pub record DictNode : Type 0 where
  pub name : List ℕ
  pub mark : Bool
  pub options : DictOptions
  pub type : Ty
  pub codes : Form
  pub values : Form
  pub fallback : Form
  pub eof : Eof

pub record ZonedNode : Type 0 where
  pub name : List ℕ
  pub options : ZonedOptions
  pub type : Ty
  pub child : Form
  -- the table's form, at the type that the records give
  pub table : Ty → Form
  pub eof : Eof

-- ---- how far a task has come

-- of the runs of a dictionary node, where the newest chunk isn't cut yet
pub record RunsSoFar : Type 0 where
  -- the run that goes on, or the next one: the number of its first child, and the eof path of that
  pub base : ℕ
  pub eof : Eof
  -- whether its children are started
  pub begun : Bool
  pub distinct : List CellData
  -- its rows, and those of each run before it
  pub rows : ℕ
  pub ended : List ℕ

pub data Local : Type 0 where
  -- a flat node's: no chunk came; this one, with its segment; another one
  flat_empty : FlatOptions → Ty → Local
  flat_full : FlatOptions → Ty → Item → Option (List ℕ) → Local
  flat_many : Local
  -- the number and eof path of the next child, and the rows so far
  chunked_local : ChunkedNode → ℕ → Eof → ℕ → Local
  -- rows so far
  struct_local : StructNode → ℕ → Local
  -- whether no chunk came, the elements and the rows so far
  list_local : ListNode → Bool → ℕ → ℕ → Local
  -- a regrouping by blocks, by held bytes: what is held, the newest chunk, the rows so far
  blocks_local : BlockOptions → GroupedNode → List CellData → Option Item → ℕ → Local
  bytes_local : ℕ → GroupedNode → List ChunkData → Option Item → ℕ → Local
  -- a collecting node's: the last path and the chunks so far, and the rows
  collect_local : GroupedNode → Option (List ℕ × List ChunkData) → ℕ → Local
  -- a compressing node's, and of what stands between it and its child
  compressed_local : CompressedNode → Local
  outlet_local : CompressedNode → Local
  -- a dictionary node's: no chunk came; it hands its stream to the fallback; it cuts runs, the newest chunk and the rows so far
  dict_local : DictNode → Local
  fallback_local : Local
  runs_local : DictNode → RunsSoFar → Item → ℕ → Local
  -- the records so far, the rows of the last chunk, the chunks and the rows so far
  zoned_local : ZonedNode → List (List ValueData) → ℕ → ℕ → ℕ → Local
  -- a node's that does nothing with its items
  idle_local : Local
  -- the source's: the root's form and mark, and where the machine begins; it takes no items
  source_local : Form → Bool → Outset → Local
  -- of what stands above the source, and has started it
  outside_local : Local
