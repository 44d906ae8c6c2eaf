-- Nodes as they stand before their first chunk.
use Rattle.std.specs.Prelude.{◌≡◌, if◌then◌else◌, Bool, true, false, List, [], ◌∷◌, Some, None}
use Rattle.vx_model.specs.Ty.{Ty, is_struct}
use Rattle.vx_path.specs.Path.{Eof}
use Rattle.vx_chunk_cells.specs.Parts.{struct_fields}
use Rattle.vx_strategy_spec.specs.StrategyData.{Grouping}
use Rattle.vx_strategy_spec.specs.Walk.{duplicate}
use Rattle.vx_machine_turns.specs.Forms.{Form, grouped_form}
use Rattle.vx_machine_state.specs.Start.{first_mind}
use Rattle.vx_write_answer.specs.declared.error.WriteError.{WriteError}
use Rattle.vx_write_answer.specs.declared.error.WriteError.TheVariants.{SourceFault, SinkFault, CompressFault, BatchType, NotStruct, DuplicateField, ManyChunks, EmptyList, ZoneCut, ForbiddenAggregate, ForbiddenEncoding, TooLarge, OutOfMemory, Stopped}
use Rattle.vx_machine_node.specs.declared.grouped_node.GroupedNode.{GroupedNode}
use Rattle.vx_machine_node.specs.declared.node.Local.TheVariants.{Grouped}
use Rattle.vx_machine_node.specs.Context.{Allowed}
use Rattle.vx_machine_node.specs.View.{mind_of, form_at, zoner_in, zones_in}
use Rattle.std.specs.Arc.{arc_value}
use Rattle.vx_model.specs.TyView.{ty}
use Rattle.vx_strategy_options.specs.RuleViews.{zone_rule}
use Rattle.vx_strategy.specs.declared.zoned.ZonedStrategy.{ZonedStrategy}
use Rattle.vx_plan.specs.SourcePlan.{first_what}
use Rattle.vx_plan.specs.PlanData.{Fault, fault, at_start, forbidden_aggregate}
use Rattle.vx_aggregate_spec.specs.Aggregate.{Aggregate, aggregate_id}
use Rattle.vx_sink.specs.ContextView.{allows_id}
use Rattle.vx_plan.specs.ZonedNode.{recorded, forbidden_faults}
use Rattle.vx_machine_state.specs.Zoned.{zoner, no_zones}
use Rattle.vx_machine_node.specs.declared.zoned_node.ZonedNode.{ZonedNode}

-- ---- refusals

-- a struct node at a type is refused
abbrev pub NodeRefused : Ty → WriteError → Type 0
NodeRefused t NotStruct = is_struct t ≡ false
NodeRefused t (DuplicateField name) = (is_struct t ≡ true) × (duplicate (struct_fields t) ≡ Some name)
NodeRefused t OutOfMemory = Unit {0}
NodeRefused t (TooLarge n) = ⊥
NodeRefused t SourceFault = ⊥
NodeRefused t SinkFault = ⊥
NodeRefused t CompressFault = ⊥
NodeRefused t (BatchType c) = ⊥
NodeRefused t ManyChunks = ⊥
NodeRefused t EmptyList = ⊥
NodeRefused t (ZoneCut n) = ⊥
NodeRefused t (ForbiddenAggregate id) = ⊥
NodeRefused t (ForbiddenEncoding id) = ⊥
NodeRefused t (Stopped by name) = ⊥

-- ---- of a node that regroups

-- it has taken nothing
pub record IsFresh (n : GroupedNode) : Type 0 where
  pub newest : n.newest ≡ None
  pub unreserved : n.reserved.items ≡ []

-- it is what such a form begins with
abbrev pub Begins : Grouping → Ty → GroupedNode → Type 0
Begins g t n = (k : Form) (m : Bool) (e : Eof) → mind_of (Grouped n) ≡ first_mind (grouped_form g t k) m e

-- ---- of a zoned node

-- it has recorded nothing, and what it would record may be recorded
pub record BeginsZones (a : Allowed) (w : ZonedStrategy) (n : ZonedNode) : Type 0 where
  pub stats : n.stats ≡ w.stats
  pub zoner : zoner_in n ≡ zoner (zone_rule w.rule) (ty (arc_value n.dtype)) (λ u. form_at w.stats.item u)
  pub zones : zones_in n ≡ no_zones (zoner_in n)
  pub allowed : forbidden_faults a (recorded (zone_rule w.rule) (ty (arc_value n.dtype))) ≡ []

-- the first of these that may not be recorded
abbrev pub forbidden_among : Allowed → List Aggregate → List Fault
forbidden_among a [] = []
forbidden_among a (x ∷ xs) = if allows_id a (aggregate_id x) then forbidden_among a xs else fault (forbidden_aggregate (aggregate_id x)) at_start ∷ []

-- one of these may not be recorded
abbrev pub ZonesRefused : List Fault → WriteError → Type 0
ZonesRefused faults (ForbiddenAggregate id) = first_what faults ≡ Some (forbidden_aggregate id)
ZonesRefused faults OutOfMemory = Unit {0}
ZonesRefused faults NotStruct = ⊥
ZonesRefused faults (DuplicateField name) = ⊥
ZonesRefused faults (TooLarge n) = ⊥
ZonesRefused faults SourceFault = ⊥
ZonesRefused faults SinkFault = ⊥
ZonesRefused faults CompressFault = ⊥
ZonesRefused faults (BatchType c) = ⊥
ZonesRefused faults ManyChunks = ⊥
ZonesRefused faults EmptyList = ⊥
ZonesRefused faults (ZoneCut n) = ⊥
ZonesRefused faults (ForbiddenEncoding id) = ⊥
ZonesRefused faults (Stopped by name) = ⊥
