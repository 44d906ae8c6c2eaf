-- The start, against the plan of its batches.
use Rattle.std.specs.Prelude.{◌≡◌, ℕ, Bool, true, List, [], ◌∷◌, length, None}
use Rattle.vx_model.specs.Ty.{Ty}
use Rattle.vx_model.specs.ChunkData.{ChunkData}
use Rattle.vx_path.specs.Lists.{In}
use Rattle.vx_tasks.specs.Task.{Forest}
use Rattle.vx_tasks.specs.State.Counts.{Zeros}
use Rattle.vx_tasks.specs.Rules.{KeepsOrder, Rises, names}
use Rattle.vx_named_tasks.specs.Names.{Outset, root_outset, CanBegin}
use Rattle.vx_strategy_spec.specs.StrategyData.{StrategyData}
use Rattle.vx_strategy_spec.specs.Walk.{walk}
use Rattle.vx_plan.specs.PlanData.{Setting, Plan, What}
use Rattle.vx_plan.specs.Valid.{Has}
use Rattle.vx_plan.specs.SourcePlan.{source_plan, start_fault}
use Rattle.vx_machine_turns.specs.Forms.{form_nodes}
use Rattle.vx_machine_turns.specs.Fuels.{Fuel, whole_fuel}
use Rattle.vx_machine_turns.specs.Readings.{Reading, pair_reading, fault_reading, layout_reading, number_reading, index_reading, start_reading, raise_reading, lower_reading}
use Rattle.vx_machine_turns.specs.Planned.{AtMost}
use Rattle.vx_machine_turns.specs.Source.{stream_plan}
use Rattle.vx_machine_steps.specs.Tree.{Tree, read, forest, counts}
use Rattle.vx_machine_steps.specs.Stands.{Stands}
use Rattle.vx_machine_steps.specs.Start.{start_at}
use Rattle.vx_machine_steps.specs.Laws.{OneEach}

-- how deep the machine of a strategy at a type may grow
abbrev pub machine_fuel : StrategyData → Ty → Fuel
machine_fuel w t = whole_fuel (walk form_nodes w t)

-- its start, with its mark, for these batches to come, which begin there; and that of whole machines

abbrev pub started_at : StrategyData → Ty → Bool → Outset → List ChunkData → Bool → Tree
started_at w t m o bs fits = start_at (machine_fuel w t) (walk form_nodes w t) m o bs fits

abbrev pub started : StrategyData → Ty → Bool → List ChunkData → Bool → Tree
started w t m bs fits = started_at w t m root_outset bs fits

-- what is read off the start, and its tree of scripts

abbrev pub started_reads : {F : Type 0} → Reading F → Setting → StrategyData → Ty → Bool → Outset → List ChunkData → Bool → F
started_reads v s w t m o bs fits = read s v (machine_fuel w t) 0 [] (started_at w t m o bs fits)

abbrev pub forest_at : Setting → StrategyData → Ty → Bool → Outset → List ChunkData → Bool → Forest
forest_at s w t m o bs fits = forest s (machine_fuel w t) (started_at w t m o bs fits)

abbrev pub started_forest : Setting → StrategyData → Ty → Bool → List ChunkData → Bool → Forest
started_forest s w t m bs fits = forest_at s w t m root_outset bs fits

-- It stands in order, nothing is done, and what is read off it is what is planned.
pub record IsPlannedAt (s : Setting) (w : StrategyData) (t : Ty) (m : Bool) (o : Outset) (bs : List ChunkData) (fits : Bool) (p : Plan) : Type 0 where
  pub stands : Stands s (machine_fuel w t) (started_at w t m o bs fits)
  pub order : KeepsOrder (forest_at s w t m o bs fits)
  pub rises : Rises (names (forest_at s w t m o bs fits))
  pub zeros : counts (started_at w t m o bs fits) ≡ Zeros
  pub pairs : started_reads pair_reading s w t m o bs fits ≡ p.pairs
  pub one : OneEach (started_reads pair_reading s w t m o bs fits)
  -- what a task refuses is a fault; where none refuses and the start doesn't, there is none
  pub cause : (x : What) → In x (started_reads fault_reading s w t m o bs fits) → Has x p.faults
  pub clean : started_reads fault_reading s w t m o bs fits ≡ [] → start_fault s w t m ≡ None → p.faults ≡ []
  pub layout : fits ≡ true → p.faults ≡ [] → started_reads layout_reading s w t m o bs fits ≡ p.layout ∷ []
  pub numbers : (n : ℕ) → In n (started_reads number_reading s w t m o bs fits) → In n p.numbers
  -- how far pointers come, in moves and at starts, is at most one of the numbers
  pub indices : (n : ℕ) → In n (started_reads index_reading s w t m o bs fits) → AtMost n p.numbers
  pub starts : (n : ℕ) → In n (started_reads start_reading s w t m o bs fits) → AtMost n p.numbers
  pub raises : started_reads raise_reading s w t m o bs fits ≡ p.reserved
  pub lowers : fits ≡ true → started_reads lower_reading s w t m o bs fits ≡ p.reserved

-- where it can begin there with these batches
abbrev pub StartAtIsPlanned : Type 0
StartAtIsPlanned = (s : Setting) (w : StrategyData) (t : Ty) (m : Bool) (o : Outset) (bs : List ChunkData) (fits : Bool) → CanBegin o (length bs)
    → IsPlannedAt s w t m o bs fits (stream_plan s w t m o bs fits)

-- as whole machines can with any
abbrev pub IsPlanned : Setting → StrategyData → Ty → Bool → List ChunkData → Bool → Type 0
IsPlanned s w t m bs fits = IsPlannedAt s w t m root_outset bs fits (source_plan s w t m bs fits)

abbrev pub StartIsPlanned : Type 0
StartIsPlanned = (s : Setting) (w : StrategyData) (t : Ty) (m : Bool) (bs : List ChunkData) (fits : Bool) → IsPlanned s w t m bs fits
