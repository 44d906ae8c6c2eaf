-- What the reading of a source comes to.
use Rattle.std.specs.Prelude.{◌≡◌, ℕ, ◌^◌, ◌≤◌, Bool, true, false, List, [], ◌∷◌, Option, Some, None, Result, Ok, Err}
use Rattle.vx_model.specs.Ty.{Ty}
use Rattle.vx_model.specs.ChunkData.{ChunkData, piece_type}
use Rattle.vx_path.specs.Lists.{In}
use Rattle.vx_layout_spec.specs.Real.{Of}
use Rattle.vx_chunk.specs.declared.node.Chunk.{Chunk}
use Rattle.vx_fault.specs.Faults.{Called, FaultsTold}
use Rattle.vx_fault.specs.Told.{before_told, NoneTold, answers_in, TookLast}
use Rattle.vx_plan.specs.PlanData.{row_totals}
use Rattle.vx_plan.specs.SourcePlan.{batch_items}
use Rattle.vx_write_answer.specs.declared.error.WriteError.{WriteError}
use Rattle.vx_write_answer.specs.declared.error.WriteError.TheVariants.{SourceFault, BatchType, OutOfMemory}
use Rattle.vx_write_answer.specs.Causes.{is_source_fault}

-- the source's answers: so many batches, and its end where it was heard
pub record SourceTold (faults faults_now : ℕ) (may must : ℕ → Type 0) (to_come to_come_now : Option (List ChunkData)) (taken : List ChunkData) (heard failed : Bool) : Type 0 where
  pub came : to_come ≡ before_told taken to_come_now
  pub ended : heard ≡ true → NoneTold to_come_now
  pub asked : FaultsTold faults faults_now may must (answers_in taken heard) failed

-- One call: a batch of the type, the end, or why there is neither.
abbrev pub NextTold : Ty → ℕ → ℕ → (ℕ → Type 0) → (ℕ → Type 0) → (ℕ → Type 0) → (ℕ → Type 0) → Option (List ChunkData) → Option (List ChunkData) → Result (Option Chunk) WriteError → Type 0
NextTold t before now may may_then must must_then to_come to_come_now (Ok (Some b)) = Called before now may may_then must must_then false × (to_come ≡ before_told (b ∷ []) to_come_now) × Of t b
NextTold t before now may may_then must must_then to_come to_come_now (Ok None) = Called before now may may_then must must_then false × (to_come_now ≡ to_come) × NoneTold to_come_now
NextTold t before now may may_then must must_then to_come to_come_now (Err SourceFault) = Called before now may may_then must must_then true × (to_come_now ≡ to_come)
NextTold t before now may may_then must must_then to_come to_come_now (Err (BatchType b)) = Called before now may may_then must must_then false × (to_come ≡ before_told (b ∷ []) to_come_now) × (¬ (piece_type b ≡ t))
NextTold t before now may may_then must must_then to_come to_come_now (Err OutOfMemory) = Called before now may may_then must must_then false × (to_come_now ≡ to_come)
NextTold t before now may may_then must must_then to_come to_come_now (Err e) = ⊥

-- why it was refused, behind these batches
abbrev pub StopsBehind : Ty → List ChunkData → WriteError → Type 0
StopsBehind t taken SourceFault = Unit {0}
StopsBehind t taken (BatchType c) = (¬ (piece_type c ≡ t)) × TookLast taken c
StopsBehind t taken OutOfMemory = Unit {0}
StopsBehind t taken e = ⊥

pub record ReadStops (t : Ty) (faults faults_now : ℕ) (may must : ℕ → Type 0) (to_come to_come_now : Option (List ChunkData)) (e : WriteError) : Type 0 where
  pub taken : List ChunkData
  pub told : SourceTold faults faults_now may must to_come to_come_now taken false (is_source_fault e)
  pub cause : StopsBehind t taken e

-- so many rows are in some first batches, and don't fit 64 bits
abbrev pub IsRowsPast : List ChunkData → ℕ → Type 0
IsRowsPast bs n = (2 ^ 64 ≤ n) × In n (row_totals (batch_items 0 bs))
