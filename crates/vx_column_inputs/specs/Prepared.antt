-- What the workers of a write by columns are given, and why there are none.
use Rattle.std.specs.Prelude.{◌≡◌, ◌⊎◌, ℕ, suc, ◌+◌, Bool, true, false, List, [], ◌∷◌, ◌++◌, map, length, Option, None, Some}
use Rattle.std.specs.List.{range_with_len}
use Rattle.vx_model.specs.Ty.{Ty, nullable}
use Rattle.vx_model.specs.TyView.{ty}
use Rattle.vx_model.specs.ChunkData.{ChunkData}
use Rattle.vx_model.specs.declared.encoding.EncodingId.{EncodingId}
use Rattle.vx_chunk_cells.specs.Parts.{struct_fields}
use Rattle.vx_strategy_spec.specs.Walk.{duplicate}
use Rattle.vx_plan.specs.PlanData.{row_total, row_totals}
use Rattle.vx_plan.specs.SourcePlan.{batch_items}
use Rattle.vx_plan.specs.Valid.{OfSchema, AllOf, Fit}
use Rattle.vx_sink.specs.ContextView.{listed, allowed_in, is_marked, counted}
use Rattle.vx_sink.specs.declared.list_source.ListSource.{ListSource}
use Rattle.vx_seats.specs.Turns.{NeverFails}
use Rattle.vx_column_plan.specs.Columns.{Column}
use Rattle.vx_own_plans.specs.OwnPlans.{column_chunks}
use Rattle.vx_column_ways.specs.Ways.{column_of}
use Rattle.vx_write_answer.specs.declared.error.WriteError.{WriteError}
use Rattle.vx_write_answer.specs.declared.error.WriteError.TheVariants.{DuplicateField, TooLarge, OutOfMemory}
use Rattle.vx_column_inputs.specs.declared.inputs.Columns.{Columns}
use Rattle.vx_column_inputs.specs.declared.inputs.Input.{Input}
use Rattle.vx_column_inputs.specs.Reading.{SourceTold, ReadStops, IsRowsPast}

-- The column's way, its chunks as a source that never fails, and a context of its own, which lists and allows what the write's does,
-- is marked as the column is, and counts nothing. The last four tell of the source.
pub record IsInput (ids : List EncodingId) (allowed : Option (List (List ℕ))) (c : Column) (chunks : List ChunkData) (i : Input)
    (kind : Ty) (may_fail : ℕ → Type 0) (to_come : Option (List ChunkData)) (left : ℕ) : Type 0 where
  pub way_is : column_of i.way ≡ c
  pub kind_is : kind ≡ ty i.way.dtype
  pub steady : NeverFails may_fail
  pub told : to_come ≡ Some chunks
  pub left_is : left ≡ length chunks
  pub typed : OfSchema (ty i.way.dtype) chunks
  pub listed_is : listed i.ctx ≡ ids
  pub allowed_is : allowed_in i.ctx ≡ allowed
  pub marked : is_marked i.ctx ≡ i.way.marked
  pub none : counted i.ctx ≡ 0

-- so are all, from column k of these batches on
abbrev pub AreInputs : List EncodingId → Option (List (List ℕ)) → (ListSource → Ty) → (ListSource → ℕ → Type 0) → (ListSource → Option (List ChunkData)) → (ListSource → ℕ) → Ty → List ChunkData → ℕ → List Column → List Input → Type 0
AreInputs ids allowed kind may_fail to_come left t taken k [] [] = Unit {0}
AreInputs ids allowed kind may_fail to_come left t taken k (c ∷ cs) (i ∷ is) =
    IsInput ids allowed c (column_chunks k (struct_fields t) (nullable t) taken) i (kind i.source) (may_fail i.source) (to_come i.source) (left i.source)
    × AreInputs ids allowed kind may_fail to_come left t taken (suc k) cs is
AreInputs ids allowed kind may_fail to_come left t taken k cs is = ⊥

-- so are they of these columns and their chunks
abbrev pub AreOwnInputs : List EncodingId → Option (List (List ℕ)) → (ListSource → Ty) → (ListSource → ℕ → Type 0) → (ListSource → Option (List ChunkData)) → (ListSource → ℕ) → List Column → List (List ChunkData) → List Input → Type 0
AreOwnInputs ids allowed kind may_fail to_come left [] [] [] = Unit {0}
AreOwnInputs ids allowed kind may_fail to_come left (c ∷ cs) (p ∷ ps) (i ∷ is) =
    IsInput ids allowed c p i (kind i.source) (may_fail i.source) (to_come i.source) (left i.source) × AreOwnInputs ids allowed kind may_fail to_come left cs ps is
AreOwnInputs ids allowed kind may_fail to_come left cs ps is = ⊥

-- Each column's chunks are of its type, and where the write is marked each column is.
abbrev pub FitColumns : Bool → List Column → List (List ChunkData) → Type 0
FitColumns m [] [] = Unit {0}
FitColumns m (c ∷ cs) (p ∷ ps) = OfSchema c.type p × (m ≡ true → c.mark ≡ true) × FitColumns m cs ps
FitColumns m cs ps = ⊥

-- The workers are given these batches of the type, split into so many columns. What the struct's node itself counts fits.
pub record ArePrepared (ids : List EncodingId) (allowed : Option (List (List ℕ))) (kind : ListSource → Ty) (may_fail : ListSource → ℕ → Type 0) (to_come : ListSource → Option (List ChunkData))
    (left : ListSource → ℕ) (t : Ty) (taken : List ChunkData) (cs : List Column) (count : ℕ) (columns : Columns) : Type 0 where
  pub typed : OfSchema t taken
  pub whole : AllOf t taken
  pub distinct : duplicate (struct_fields t) ≡ None
  pub fit : Fit (length taken ∷ (row_totals (batch_items 0 taken) ++ (count ∷ (1 + count) ∷ [])))
  pub type_is : ty columns.dtype ≡ t
  pub rows_are : columns.rows ≡ row_total (batch_items 0 taken)
  pub batches_are : columns.batches ≡ length taken
  -- the first batches' paths, which are the columns' least before their first steps
  pub fronts_are : columns.fronts.items ≡ map (λ k. 0 ∷ 0 ∷ k ∷ []) (range_with_len 0 count)
  pub inputs_are : AreInputs ids allowed kind may_fail to_come left t taken 0 cs columns.inputs.items

-- ---- refusals

-- the type was refused, or memory
abbrev pub NamesStop : Ty → WriteError → Type 0
NamesStop t (DuplicateField name) = duplicate (struct_fields t) ≡ Some name
NamesStop t OutOfMemory = Unit {0}
NamesStop t e = ⊥

-- why all batches, once read, were refused
abbrev pub SplitStops : Ty → List ChunkData → WriteError → Type 0
SplitStops t taken (DuplicateField name) = duplicate (struct_fields t) ≡ Some name
SplitStops t taken (TooLarge n) = (duplicate (struct_fields t) ≡ None) × IsRowsPast taken n
SplitStops t taken OutOfMemory = Unit {0}
SplitStops t taken e = ⊥

-- all was read, and refused
pub record RefusedWhole (t : Ty) (faults faults_now : ℕ) (may must : ℕ → Type 0) (to_come to_come_now : Option (List ChunkData)) (e : WriteError) : Type 0 where
  pub taken : List ChunkData
  pub told : SourceTold faults faults_now may must to_come to_come_now taken true false
  pub typed : OfSchema t taken
  pub whole : AllOf t taken
  pub cause : SplitStops t taken e

-- the reading was refused, or all that was read
abbrev pub PrepareStops : Ty → ℕ → ℕ → (ℕ → Type 0) → (ℕ → Type 0) → Option (List ChunkData) → Option (List ChunkData) → WriteError → Type 0
PrepareStops t faults faults_now may must to_come to_come_now e =
    ReadStops t faults faults_now may must to_come to_come_now e ⊎ RefusedWhole t faults faults_now may must to_come to_come_now e
