-- Tasks do what the rules give, and guards record what is planned.
use Rattle.std.specs.Prelude.{◌≡◌, ℕ, suc, ◌+◌, ◌*◌, true, false, List, [], ◌∷◌, ◌++◌, Option, Some}
use Rattle.vx_model.specs.Ty.{Ty}
use Rattle.vx_model.specs.ValueData.{ValueData}
use Rattle.vx_model.specs.CellData.{CellData}
use Rattle.vx_model.specs.ChunkData.{ChunkData}
use Rattle.vx_rules.specs.Blocks.{BlockOptions}
use Rattle.vx_strategy_spec.specs.StrategyData.{ZonedOptions}
use Rattle.vx_zone_spec.specs.ZoneTable.{kept_columns}
use Rattle.vx_plan.specs.PlanData.{Setting, Item, rows_in}
use Rattle.vx_plan.specs.SourcePlan.{first_what}
use Rattle.vx_plan.specs.ZonedNode.{asked, recorded, zone_faults, table_of}
use Rattle.vx_react.specs.Reactor.{placed, reacting, collector}
use Rattle.vx_react.specs.Cutter.{Cutting, cutter}
use Rattle.vx_machine_turns.specs.Locals.{Local, GroupedNode, DictNode, RunsSoFar, ZonedNode, collect_local, runs_local, zoned_local}
use Rattle.vx_machine_turns.specs.Grouped.{Grouper, block_grouper, byte_grouper, group_turn, group_ends}
use Rattle.vx_machine_turns.specs.Collected.{collected_so_far, collect_turn, collect_ends}
use Rattle.vx_machine_turns.specs.Dict.{after_cut, runs_turn, runs_first, runs_ends}
use Rattle.vx_machine_turns.specs.Zoned.{zone_columns, zoned_turn}
use Rattle.vx_turn_laws.specs.Given.{put_by, for_children, at_path}
use Rattle.vx_turn_laws.specs.Guard.{Guard, guard, refused_at, record_at, behind, first_refused, told_zones}

-- ---- regrouping

-- x is held when the newest chunk j is acted on, at the next one or at the end
pub record GroupTurn {S : Type 0} (g : Grouper S) (x : S) (j : Item) : Type 0 where
  pub gives : (after : S → Option Item → ℕ → Local) (rows : ℕ) (i : Item) → put_by (group_turn g after x (Some j) rows i).more ≡ for_children (placed j.0 0 ((reacting g.rule).gives x j.1 false))
  pub ends : put_by (group_ends g x (Some j)) ≡ for_children (placed j.0 0 ((reacting g.rule).gives x j.1 true))

pub record GroupsReact (j : Item) : Type 0 where
  pub by_blocks : (o : BlockOptions) (t : Ty) (rows : List CellData) → GroupTurn (block_grouper o t) rows j
  pub by_bytes : (size : ℕ) (ps : List ChunkData) → GroupTurn (byte_grouper size) ps j

abbrev pub GroupTurnsReact : Type 0
GroupTurnsReact = (j : Item) → GroupsReact j

-- ---- collecting

-- what is collected behind chunk i, where x was before
pub record CollectTurn (n : GroupedNode) (x : Option (List ℕ × List ChunkData)) (rows : ℕ) (i : Item) : Type 0 where
  pub holds : (collect_turn n x rows i).after ≡ collect_local n (Some (i.0, (collector n.type).holds (collected_so_far x) i.1)) (rows + rows_in i.1)
  pub gives : put_by (collect_turn n x rows i).more ≡ at_path i.0 ((collector n.type).gives (collected_so_far x) i.1 false)
  -- where it is the last chunk
  pub ends : put_by (collect_ends n (Some (i.0, (collector n.type).holds (collected_so_far x) i.1))) ≡ at_path i.0 ((collector n.type).gives (collected_so_far x) i.1 true)

abbrev pub CollectTurnsReact : Type 0
CollectTurnsReact = (n : GroupedNode) (x : Option (List ℕ × List ChunkData)) (rows : ℕ) (i : Item) → CollectTurn n x rows i

-- ---- runs

-- how far a task's runs have come is what the cutter knows
pub record Knows (r : RunsSoFar) (c : Cutting) : Type 0 where
  pub base : r.base ≡ 2 * c.number
  pub distinct : r.distinct ≡ c.distinct

-- the newest chunk j is cut, at the next one or at the end
pub record RunTurn (s : Setting) (n : DictNode) (r : RunsSoFar) (c : Cutting) (j : Item) : Type 0 where
  pub gives : (rows : ℕ) (i : Item) → put_by (runs_turn s n r j rows i).more ≡ for_children (placed j.0 0 ((cutter n.options n.type).gives c j.1 false))
  pub holds : Knows (after_cut n r j) ((cutter n.options n.type).holds c j.1)
  pub ends : put_by (runs_ends s n r j) ≡ for_children (placed j.0 0 ((cutter n.options n.type).gives c j.1 true))

abbrev pub RunTurnsReact : Type 0
RunTurnsReact = (s : Setting) (n : DictNode) (r : RunsSoFar) (c : Cutting) (j : Item) → Knows r c → RunTurn s n r c j

-- behind the first chunk no run has come further than the cutter at its start
pub record StartsAs (n : DictNode) (i : Item) : Type 0 where
  pub runs : RunsSoFar
  pub after : (runs_first n i).after ≡ runs_local n runs i (0 + rows_in i.1)
  pub knows : Knows runs (cutter n.options n.type).start

abbrev pub RunsStart : Type 0
RunsStart = (n : DictNode) (i : Item) → StartsAs n i

-- ---- zones

-- behind a chunk of so many rows
abbrev pub guard_of : ZonedNode → ℕ → Guard
guard_of n last = record { typed = n.type; zone_len = n.options.zone_len; columns = zone_columns n; last = last }

pub record GuardTurn (s : Setting) (n : ZonedNode) (records : List (List ValueData)) (last zones rows : ℕ) (i : Item) : Type 0 where
  pub refuses : (zoned_turn s n records last zones rows i).first.refusal ≡ refused_at (guard_of n last) i.1
  pub holds : (zoned_turn s n records last zones rows i).after
      ≡ zoned_local n (records ++ (record_at s.hash (guard_of n last) i.1 ∷ [])) (behind (guard_of n last) i.1).last (suc zones) (rows + rows_in i.1)
  -- the chunk itself goes on to the data child
  pub gives : put_by (zoned_turn s n records last zones rows i).more ≡ (0, i) ∷ []

abbrev pub ZonedTurnsGuard : Type 0
ZonedTurnsGuard = (s : Setting) (n : ZonedNode) (records : List (List ValueData)) (last zones rows : ℕ) (i : Item) → GuardTurn s n records last zones rows i

-- of a node's options, before the first chunk
abbrev pub guard_by : ZonedOptions → Ty → Guard
guard_by o t = guard o.zone_len (asked o.aggregates t) t

pub record GuardIsPlanned (s : Setting) (o : ZonedOptions) (t : Ty) (items : List Item) : Type 0 where
  pub refuses : first_refused (guard_by o t) items ≡ first_what (zone_faults o.zone_len (recorded o t) items)
  pub table : kept_columns (recorded o t) (told_zones s.hash (guard_by o t) items) ≡ table_of s o t items true

abbrev pub GuardsArePlanned : Type 0
GuardsArePlanned = (s : Setting) (o : ZonedOptions) (t : Ty) (items : List Item) → GuardIsPlanned s o t items
