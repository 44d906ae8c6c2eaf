-- What is written of a source's batches.
use Rattle.std.specs.Prelude.{ℕ, suc, Bool, false, if◌then◌else◌, List, [], ◌∷◌, ◌++◌, length, Option, Some, None}
use Rattle.vx_model.specs.Ty.{Ty, ty_eq}
use Rattle.vx_model.specs.ValueData.{ValueData}
use Rattle.vx_model.specs.ChunkData.{ChunkData, piece_type, row_values}
use Rattle.vx_path.specs.Path.{root_eof}
use Rattle.vx_plan.specs.PlanData.{Setting, Item, Plan, Node, What, Fault}
use Rattle.vx_strategy_spec.specs.StrategyData.{StrategyData}
use Rattle.vx_strategy_spec.specs.Walk.{Nodes, walk}
use Rattle.vx_plan.specs.FlatNode.{flat_node}
use Rattle.vx_plan.specs.ChunkedNode.{chunked_node}
use Rattle.vx_plan.specs.GroupNode.{grouped_node, compressed_node}
use Rattle.vx_plan.specs.DictNode.{dict_node}
use Rattle.vx_plan.specs.ZonedNode.{zoned_node}
use Rattle.vx_plan.specs.ColumnNodes.{not_struct_node, struct_node, list_node}

abbrev pub plan_nodes : Setting → Nodes Node
plan_nodes s = record {
  on_flat = flat_node s;
  on_chunked = chunked_node;
  on_grouped = grouped_node;
  on_compressed = compressed_node s;
  on_dict = dict_node s;
  on_zoned = zoned_node s;
  on_not_struct = not_struct_node;
  on_struct = struct_node;
  on_list = list_node;
}

-- what a strategy writes of a stream of the type
abbrev pub plan : Setting → StrategyData → Ty → Node
plan s w t = walk (plan_nodes s) w t

-- batch i has the path [0, i]
abbrev pub batch_items : ℕ → List ChunkData → List Item
batch_items i [] = []
batch_items i (b ∷ bs) = (0 ∷ i ∷ [], b) ∷ batch_items (suc i) bs

abbrev pub first_what : List Fault → Option What
first_what [] = None
first_what (f ∷ fs) = Some f.what

-- what a node refuses before a chunk comes: the first fault of its empty stream, not ended
abbrev pub start_fault : Setting → StrategyData → Ty → Bool → Option What
start_fault s w t m = first_what (plan s w t m [] false root_eof).faults

-- the indices of the source's pointer and of the root's eof path
abbrev pub with_root : List ChunkData → Plan → Plan
with_root batches p = record { pairs = p.pairs; faults = p.faults; layout = p.layout; numbers = length batches ∷ p.numbers; reserved = p.reserved }

-- what is written of the batches, the first ones where the source hasn't ended
abbrev pub source_plan : Setting → StrategyData → Ty → Bool → List ChunkData → Bool → Plan
source_plan s w t m batches ended = with_root batches (plan s w t m (batch_items 0 batches) ended root_eof)

-- the batches before the first of another type
abbrev pub of_schema : Ty → List ChunkData → List ChunkData
of_schema t [] = []
of_schema t (b ∷ bs) = if ty_eq (piece_type b) t then b ∷ of_schema t bs else []

-- what is written of the batches taken, without one of another type
abbrev pub taken_plan : Setting → StrategyData → Ty → Bool → List ChunkData → Bool → Plan
taken_plan s w t m taken ended = source_plan s w t m (of_schema t taken) ended

-- the row values of the batches
abbrev pub source_values : List ChunkData → List ValueData
source_values [] = []
source_values (b ∷ bs) = row_values b ++ source_values bs
