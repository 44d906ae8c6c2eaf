-- A zoned node keeps a record a chunk beside its child.
use Rattle.std.specs.Prelude.{ℕ, ◌+◌, ◌==◌, ◌||◌, nat_lt, Bool, true, false, if◌then◌else◌, List, [], ◌∷◌, ◌++◌, length, Option, Some, None}
use Rattle.vx_model.specs.Ty.{Ty}
use Rattle.vx_model.specs.ValueData.{ValueData}
use Rattle.vx_model.specs.ChunkData.{cells, row_values}
use Rattle.vx_path.specs.Path.{Eof, inside, next, under, raised}
use Rattle.vx_layout_spec.specs.LayoutTree.{zoned_layout}
use Rattle.vx_aggregate_spec.specs.Aggregate.{Aggregate, Column, held_aggregates, default_aggregates, aggregate_id}
use Rattle.vx_zone_spec.specs.Record.{zone_record}
use Rattle.vx_zone_spec.specs.ZoneTable.{Filled, kept_columns, table_type, table_specs, table_piece}
use Rattle.vx_plan.specs.PlanData.{Setting, Item, Plan, Node, Fault, fault, forbidden_aggregate, zone_cut, at_start, at_chunk, row_total, row_totals}
use Rattle.vx_plan.specs.GroupNode.{with_numbers}
use Rattle.vx_plan.specs.ChunkedNode.{both_plans}
use Rattle.vx_strategy_spec.specs.StrategyData.{ZonedOptions}
use Rattle.vx_model.specs.Words.{lists_id}

-- the node's aggregates that the type can hold, in order
abbrev pub asked : Option (List Aggregate) → Ty → List Aggregate
asked None t = default_aggregates t
asked (Some aggregates) t = aggregates

abbrev pub recorded : ZonedOptions → Ty → List Column
recorded o t = held_aggregates (asked o.aggregates t) t

abbrev pub allows : Option (List (List ℕ)) → Aggregate → Bool
allows None a = true
allows (Some ids) a = lists_id (aggregate_id a) ids

-- the first that isn't allowed, in any stream
abbrev pub forbidden_faults : Option (List (List ℕ)) → List Column → List Fault
forbidden_faults allowed [] = []
forbidden_faults allowed (a ∷ columns) = if allows allowed a.0 then forbidden_faults allowed columns else fault (forbidden_aggregate (aggregate_id a.0)) at_start ∷ []

-- an empty chunk, or one longer than the zone
abbrev pub is_no_zone : ℕ → ℕ → Bool
is_no_zone zone n = (n == 0) || nat_lt zone n

abbrev pub cut_fault : ℕ → List ℕ → List Fault
cut_fault n path = fault (zone_cut n) (at_chunk path) ∷ []

-- The first chunk that isn't a zone: it is refused itself, or, where it is a shorter one, once another follows. So the
-- fault stands at that other chunk.
abbrev pub cut_faults : ℕ → List Item → List Fault
cut_faults zone [] = []
cut_faults zone (c ∷ []) = if is_no_zone zone (length (cells c.1)) then cut_fault (length (cells c.1)) c.0 else []
cut_faults zone (c ∷ d ∷ cs) =
    if is_no_zone zone (length (cells c.1)) then cut_fault (length (cells c.1)) c.0
    else if nat_lt (length (cells c.1)) zone then cut_fault (length (cells c.1)) d.0
    else cut_faults zone (d ∷ cs)

-- only where there is something to record
abbrev pub zone_faults : ℕ → List Column → List Item → List Fault
zone_faults zone [] items = []
zone_faults zone (a ∷ columns) items = cut_faults zone items

abbrev pub zone_records : Setting → Ty → List Column → List Item → List (List ValueData)
zone_records s t columns [] = []
zone_records s t columns (c ∷ cs) = zone_record s.hash t (row_values c.1) columns ∷ zone_records s t columns cs

abbrev pub with_faults : List Fault → Plan → Plan
with_faults fs p = record { pairs = p.pairs; faults = fs ++ p.faults; layout = p.layout; numbers = p.numbers; reserved = p.reserved }

-- the table as one chunk at the first path below e + 1, and e + 2 behind it
abbrev pub table_items : List Filled → ℕ → Eof → List Item
table_items cs zones e = (under (raised e 1) 0, table_piece cs zones) ∷ []

-- the rows, and the pointer behind the data child's eof path
abbrev pub data_numbers : List Item → Eof → List ℕ
data_numbers items e = row_totals items ++ ((e.last + 1) ∷ [])

-- the rows, the zones, and the pointer behind the zones child's eof path
abbrev pub zone_numbers : List Item → Eof → List ℕ
zone_numbers items e = row_totals items ++ (length items ∷ (e.last + 2) ∷ [])

abbrev pub with_table : Setting → ZonedOptions → Ty → (Ty → Node) → Bool → List Item → Eof → Plan → Option (List Filled) → Plan
with_table s o t stats m items e p None = with_numbers (data_numbers items e) 0 p
with_table s o t stats m items e p (Some cs) =
    both_plans (zoned_layout t (row_total items) o.zone_len (table_specs cs) p.layout (stats (table_type cs) m (table_items cs (length items) e) true (next (next e))).layout)
    (zone_numbers items e) p (stats (table_type cs) m (table_items cs (length items) e) true (next (next e)))

-- the columns of the table, once the stream has ended
abbrev pub table_of : Setting → ZonedOptions → Ty → List Item → Bool → Option (List Filled)
table_of s o t items ended = if ended then kept_columns (recorded o t) (zone_records s t (recorded o t) items) else None

abbrev pub unmarked_node : Setting → ZonedOptions → Ty → Node → (Ty → Node) → Node
unmarked_node s o t k stats m items ended e =
    with_faults (forbidden_faults s.allowed (recorded o t) ++ zone_faults o.zone_len (recorded o t) items)
    (with_table s o t stats m items e (k m items ended (inside e)) (table_of s o t items ended))

-- a marked one is its child alone
abbrev pub zoned_node : Setting → ZonedOptions → Ty → Node → (Ty → Node) → Node
zoned_node s o t k stats true items ended e = k true items ended e
zoned_node s o t k stats false items ended e = unmarked_node s o t k stats false items ended e
