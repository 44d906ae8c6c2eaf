-- Tasks in plain data: ids and pointers by their paths, chunks and layouts by their data, strategies at types as forms.
use Rattle.std.specs.Prelude.{◌*◌, List, map, length}
use Rattle.std.specs.Arc.{arc_value}
use Rattle.vx_model.specs.Ty.{Ty, nullable}
use Rattle.vx_chunk_cells.specs.Parts.{element_type}
use Rattle.vx_model.specs.TyView.{ty}
use Rattle.vx_model.specs.declared.dtype.DType.{DType}
use Rattle.vx_layout_tree.specs.LayoutView.{layout_data}
use Rattle.vx_strategy.specs.FlatViews.{flat_options}
use Rattle.vx_strategy.specs.StrategyView.{strategy_data}
use Rattle.vx_strategy.specs.declared.strategy.Strategy.{Strategy}
use Rattle.vx_strategy_spec.specs.StrategyData.{StrategyData}
use Rattle.vx_strategy_spec.specs.Walk.{walk}
use Rattle.vx_plan.specs.PlanData.{Item as Piece}
use Rattle.vx_machine_turns.specs.Forms.{Form, form_nodes}
use Rattle.vx_machine_state.specs.State as view
use Rattle.vx_machine_node.specs.declared.item.Item.{Item}
use Rattle.vx_machine_node.specs.declared.item.Stored.{Stored}
use Rattle.vx_machine_node.specs.declared.item.Due.{Due}
use Rattle.vx_machine_node.specs.declared.item.Due.TheVariants.{Put, HandOn, Append, Close, Join, Table, Leave, Press, Ask, OpenRun, EndRun}
use Rattle.vx_machine_node.specs.declared.kinds.ChunkedNode.{ChunkedNode}
use Rattle.vx_machine_node.specs.declared.node.Local.{Local}
use Rattle.vx_machine_node.specs.declared.node.Local.TheVariants.{Empty, Full, Chunked, Columns, Lists, Grouped, Over, Passing, Made, Zoned, Pressing, AsIs, Probe, Asking, Runs}
use Rattle.vx_machine_node.specs.declared.node.Shape.{Shape}
use Rattle.vx_machine_node.specs.declared.node.Shape.TheVariants as shapes
use Rattle.vx_machine_node.specs.Ledger.{some_bytes}
use Rattle.vx_machine_node.specs.Regrouped.{mind_in}
use Rattle.std.specs.Int.NonZero.{non_zero_u32_get}
use Rattle.vx_model.specs.ChunkData.{piece_type}
use Rattle.vx_aggregate_spec.specs.Aggregate.{spec}
use Rattle.vx_aggregate.specs.AggregateView.{aggregate}
use Rattle.vx_zone_table.specs.BuilderView.{gathered}
use Rattle.vx_machine_state.specs.Zoned.{Zoner, Zones}
use Rattle.vx_machine_node.specs.declared.zoned_node.ZonedNode.{ZonedNode}
use Rattle.vx_model.specs.CellData.{CellData}
use Rattle.vx_rules.specs.Runs.{DictOptions, code_type}
use Rattle.vx_strategy_options.specs.OptionViews.{dict_options}
use Rattle.vx_machine_turns.specs.Locals.{RunsSoFar as SoFar}
use Rattle.vx_machine_state.specs.Coder.{Coder}
use Rattle.vx_machine_node.specs.declared.dict_node.DictNode.{DictNode}
use Rattle.vx_machine_node.specs.declared.dict_node.RunsSoFar.{RunsSoFar}
use Rattle.vx_machine_node.specs.RunPaths.{eof_at, run_eof}

-- a strategy at a type
abbrev pub form_at : StrategyData → Ty → Form
form_at w t = walk form_nodes w t

-- a strategy of the program at a type of the program
abbrev pub form_of : Strategy → DType → Form
form_of w t = form_at (strategy_data w) (ty t)

-- an item, of its path and its chunk's data
abbrev pub item_of : Item → Piece
item_of i = (i.id, i.chunk)

abbrev pub items_of : List Item → List Piece
items_of is = map item_of is

abbrev pub stored_of : Stored → view.Stored
stored_of x = record { id = x.id; bytes = x.segment.bytes.items; tree = x.segment.tree; rows = x.segment.rows; type = ty (arc_value x.segment.dtype) }

-- ---- dictionary nodes

abbrev pub options_in : DictNode → DictOptions
options_in n = dict_options n.constraints n.probe

abbrev pub coder_in : DictNode → Coder
coder_in n = record {
  mark = n.marked;
  options = options_in n;
  type = ty (arc_value n.dtype);
  codes = form_at n.codes.item (code_type (options_in n));
  values = form_at n.values.item (ty (arc_value n.dtype));
  fallback = form_at n.fallback.item (ty (arc_value n.dtype));
}

-- where the run that goes on has these distinct cells so far
abbrev pub runs_in : RunsSoFar → List CellData → SoFar
runs_in r ds = record { base = 2 * length r.ended.items; eof = run_eof r.pointer r.begun; begun = r.begun; distinct = ds; rows = r.rows; ended = r.ended.items }

-- ---- what is to be done, and what is in mind

abbrev pub fold_of : Shape → view.Fold
fold_of (shapes.Chunks t) = view.fold_chunks (ty (arc_value t))
fold_of (shapes.Columns n rows) = view.fold_columns (ty (arc_value n.dtype)) rows
fold_of (shapes.Lists n rows) = view.fold_columns (ty (arc_value n.dtype)) rows
fold_of (shapes.Runs n rows) = view.fold_runs (ty (arc_value (arc_value n).dtype)) rows.items
fold_of (shapes.Zones z) = view.fold_zones (ty (arc_value z.dtype)) z.rows (non_zero_u32_get z.zone_len) (map (λ a. spec (aggregate a)) z.aggregates.items)

abbrev pub next_of : Due → view.Next
next_of (Put c i) = view.put c (item_of i)
next_of (HandOn i r) = view.hand_on (some_bytes r) (item_of i)
next_of (Press which i) = view.press which (item_of i)
next_of (Append x) = view.append (stored_of x)
next_of Close = view.shut_kids
next_of (Join f) = view.join_kids (fold_of f)
next_of (Table t) = view.start_table (form_at t.stats.item (piece_type t.chunk)) t.eof t.chunk
next_of (Leave e) = view.leave_kid e
next_of (Ask p) = view.probe (coder_in (arc_value p.node)) p.pointer (item_of p.item)
next_of (OpenRun r i) = view.open_run (coder_in (arc_value r.node)) r.child (eof_at r.codes) (item_of i)
next_of (EndRun child i) = view.end_run child (item_of i)

abbrev pub todo_of : List Due → List view.Next
todo_of ds = map next_of ds

-- the form of a chunked node's child
abbrev pub child_form : ChunkedNode → Form
child_form n = form_at n.child.item (ty (arc_value n.dtype))

-- what a zoned node is, and its zones so far
abbrev pub zoner_in : ZonedNode → Zoner
zoner_in n = record { zone_len = non_zero_u32_get n.zone_len; type = ty (arc_value n.dtype); columns = n.guard.columns; table = λ u. form_at n.stats.item u }

abbrev pub zones_in : ZonedNode → Zones
zones_in n = record { records = (gathered n.records).records; last = n.guard.last; zones = length (gathered n.records).records; rows = n.rows }

abbrev pub mind_of : Local → view.Mind
mind_of (Empty n) = view.no_chunk (flat_options n.options) (ty (arc_value n.dtype))
mind_of (Full x) = view.one_chunk (stored_of x)
mind_of (Chunked n eof rows) = view.by_chunk n.marked (ty (arc_value n.dtype)) (child_form n) eof rows
mind_of (Columns n rows) = view.by_column (ty (arc_value n.dtype)) rows
mind_of (Lists n rows) = view.by_list (element_type (ty (arc_value n.dtype))) (nullable (ty (arc_value n.dtype))) n.split.first n.split.base rows
mind_of (Grouped n) = mind_in n.rule n.newest n.rows
mind_of (Zoned n) = view.by_zone (zoner_in n) n.eof (zones_in n)
mind_of (Pressing which) = view.by_image which
mind_of AsIs = view.as_is
mind_of (Probe n eof) = view.by_probe (coder_in (arc_value n)) eof
mind_of Asking = view.asking
mind_of (Runs r) = view.by_run (coder_in (arc_value r.node)) (runs_in r.runs r.cutter.distinct) (item_of r.newest) r.rows
mind_of Over = view.ending
mind_of Passing = view.passing
mind_of (Made l) = view.made (layout_data l)
