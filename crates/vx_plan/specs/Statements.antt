-- The laws of what is written.
use Rattle.std.specs.Prelude.{ℕ, ◌<◌, ◌≤◌, ◌≡◌, Bool, true, false, List, [], ◌++◌, length, Some, None}
use Rattle.vx_model.specs.Ty.{Ty}
use Rattle.vx_model.specs.ChunkData.{ChunkData}
use Rattle.vx_path.specs.Lists.{In, Each}
use Rattle.vx_path.specs.Path.{Eof, Scattered, Region, root_eof}
use Rattle.vx_layout_spec.specs.LayoutTree.{row_count, layout_type}
use Rattle.vx_layout_spec.specs.Rows.{rows}
use Rattle.vx_plan.specs.PlanData.{Setting, Item, Pair, Plan, Fault, What, paths, places, stream_values}
use Rattle.vx_strategy_spec.specs.StrategyData.{StrategyData, ZonedOptions}
use Rattle.vx_strategy_spec.specs.Admitted.{is_admitted}
use Rattle.vx_plan.specs.ZonedNode.{recorded, zone_faults, zone_records}
use Rattle.vx_plan.specs.ZonesHold.{zones_of, records_of, ZonesHold}
use Rattle.vx_plan.specs.SourcePlan.{plan, start_fault, first_what, source_plan, batch_items, source_values}
use Rattle.vx_plan.specs.Number.{sorted, segments, numbered, segment_at}
use Rattle.vx_plan.specs.Valid.{Fit, AllOf, Has, Keeps}

-- The rows of the numbered layout are the batches' rows, in order.
abbrev pub RowsComeBack : Type 0
RowsComeBack = (s : Setting) (w : StrategyData) (t : Ty) (m : Bool) (batches : List ChunkData) (first : ℕ) → Keeps s → AllOf t batches
    → (source_plan s w t m batches true).faults ≡ [] → Fit (source_plan s w t m batches true).numbers
    → rows s.codec (segment_at first (segments (source_plan s w t m batches true))) (numbered (source_plan s w t m batches true) first)
    ≡ Some (source_values batches)

-- No path of a segment is a prefix of another's, so all are distinct; each goes on from a batch's path or from one of the root's eof paths.
abbrev pub PathsDistinct : Type 0
PathsDistinct = (s : Setting) (w : StrategyData) (t : Ty) (m : Bool) (batches : List ChunkData) (ended : Bool)
    → Scattered (paths (source_plan s w t m batches ended).pairs)

abbrev pub PathsInRegion : Type 0
PathsInRegion = (s : Setting) (w : StrategyData) (t : Ty) (m : Bool) (batches : List ChunkData) (ended : Bool)
    → Each (Region (places (batch_items 0 batches)) root_eof) (paths (source_plan s w t m batches ended).pairs)

-- What holds of the first batches, the source not having ended, and of all.
pub record Within (p q : Plan) : Type 0 where
  pub pairs : (x : Pair) → In x p.pairs → In x q.pairs
  pub faults : (f : Fault) → In f p.faults → In f q.faults
  pub faultless : q.faults ≡ [] → p.faults ≡ []
  pub fit : q.faults ≡ [] → Fit q.numbers → Fit p.numbers
  pub reserved : p.reserved ≤ q.reserved

abbrev pub PrefixWithin : Type 0
PrefixWithin = (s : Setting) (w : StrategyData) (t : Ty) (m : Bool) (taken later : List ChunkData) (ended : Bool)
    → Within (source_plan s w t m taken false) (source_plan s w t m (taken ++ later) ended)

-- The same of the stream of any node, at any eof path.
abbrev pub StreamsGrow : Type 0
StreamsGrow = (s : Setting) (w : StrategyData) (t : Ty) (m : Bool) (xs ys : List Item) (ended : Bool) (e : Eof)
    → Within (plan s w t m xs false e) (plan s w t m (xs ++ ys) ended e)

-- ---- what a node refuses before a chunk comes

-- It is the same at each eof path.
abbrev pub StartFaultIsFixed : Type 0
StartFaultIsFixed = (s : Setting) (w : StrategyData) (t : Ty) (m : Bool) (e : Eof) → first_what (plan s w t m [] false e).faults ≡ start_fault s w t m

-- It stands in each plan.
abbrev pub StartFaultStands : Type 0
StartFaultStands = (s : Setting) (w : StrategyData) (t : Ty) (m : Bool) (x : What) → start_fault s w t m ≡ Some x
    → (items : List Item) (ended : Bool) (e : Eof) → Has x (plan s w t m items ended e).faults

-- Where there is none, nothing is wrong with an empty stream that may go on.
abbrev pub NoStartFault : Type 0
NoStartFault = (s : Setting) (w : StrategyData) (t : Ty) (m : Bool) → start_fault s w t m ≡ None → (e : Eof) → (plan s w t m [] false e).faults ≡ []

-- ---- fronts

-- A front of all sorted pairs that lies in the plan of the batches taken is a front of its sorted pairs.
abbrev pub FrontOfTaken : Type 0
FrontOfTaken = (s : Setting) (w : StrategyData) (t : Ty) (m : Bool) (taken later : List ChunkData) (ended : Bool) (done rest : List Pair)
    → sorted (source_plan s w t m (taken ++ later) ended).pairs ≡ done ++ rest
    → ((x : Pair) → In x done → In x (source_plan s w t m taken false).pairs)
    → (more : List Pair) × (sorted (source_plan s w t m taken false).pairs ≡ done ++ more)

-- The layout has the schema's type and as many rows as the batches.
abbrev pub CountsRows : Type 0
CountsRows = (s : Setting) (w : StrategyData) (t : Ty) (m : Bool) (batches : List ChunkData) → Keeps s → AllOf t batches
    → (source_plan s w t m batches true).faults ≡ [] → Fit (source_plan s w t m batches true).numbers
    → (layout_type (source_plan s w t m batches true).layout ≡ t)
    × (row_count (source_plan s w t m batches true).layout ≡ length (source_values batches))

-- ---- zones

-- Where no zone is cut wrong, record z is of the rows from z * zone_len to the next zone or the end: of the very rows, in
-- order, that the data child gives back.
abbrev pub RecordsAreOfZones : Type 0
RecordsAreOfZones = (s : Setting) (o : ZonedOptions) (t : Ty) (items : List Item) → 0 < length (recorded o t) → zone_faults o.zone_len (recorded o t) items ≡ []
    → zone_records s t (recorded o t) items ≡ records_of s t (recorded o t) (zones_of (length items) o.zone_len (stream_values items))

-- Each zoned node of the numbered layout, those of zone tables too, has a table of the records of exactly the rows of its zones.
abbrev pub ZonesAreTrue : Type 0
ZonesAreTrue = (s : Setting) (w : StrategyData) (t : Ty) (m : Bool) (batches : List ChunkData) (first : ℕ) → Keeps s → is_admitted w ≡ true → AllOf t batches
    → (source_plan s w t m batches true).faults ≡ [] → Fit (source_plan s w t m batches true).numbers
    → ZonesHold s (segment_at first (segments (source_plan s w t m batches true))) (numbered (source_plan s w t m batches true) first)
