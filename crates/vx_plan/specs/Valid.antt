-- When an input is valid, and what holds of a setting.
use Rattle.std.specs.Prelude.{ℕ, ◌+◌, ◌^◌, ◌<◌, ◌≤◌, ◌≡◌, ◌⊎◌, Bool, true, List, [], ◌∷◌, length}
use Rattle.vx_model.specs.Ty.{Ty}
use Rattle.vx_model.specs.ChunkData.{ChunkData, piece_type, row_values}
use Rattle.vx_path.specs.Lists.{In}
use Rattle.vx_layout_spec.specs.Real.{Of}
use Rattle.vx_layout_spec.specs.Codec.{Lawful}
use Rattle.vx_plan.specs.PlanData.{Setting, Fault, What}
use Rattle.vx_strategy_spec.specs.StrategyData.{StrategyData}
use Rattle.vx_plan.specs.SourcePlan.{source_plan}

-- each number fits 64 bits
abbrev pub Fit : List ℕ → Type 0
Fit [] = Unit {0}
Fit (n ∷ ns) = (n < 2 ^ 64) × Fit ns

-- A number that doesn't fit 64 bits and is one of the list, or the first that doesn't fit, where a number of the list
-- doesn't: an index, which rises by one, passes that on its way.
abbrev pub IsPast : ℕ → List ℕ → Type 0
IsPast n ns = (2 ^ 64 ≤ n) × (In n ns ⊎ ((n ≡ 2 ^ 64) × ((k : ℕ) × In k ns × (2 ^ 64 ≤ k))))

-- each batch has the schema's type
abbrev pub OfSchema : Ty → List ChunkData → Type 0
OfSchema t [] = Unit {0}
OfSchema t (b ∷ bs) = (piece_type b ≡ t) × OfSchema t bs

-- each batch is a whole chunk of the type
abbrev pub AllOf : Ty → List ChunkData → Type 0
AllOf t [] = Unit {0}
AllOf t (b ∷ bs) = Of t b × AllOf t bs

-- The input is valid: the plan of all batches has no fault, every batch is of the schema, and all numbers fit.
-- `first` is the number of the first segment, `tracker` what the tracker counts at the start.
pub record Valid (s : Setting) (w : StrategyData) (t : Ty) (m : Bool) (first tracker : ℕ) (batches : List ChunkData) : Type 0 where
  pub faultless : (source_plan s w t m batches true).faults ≡ []
  pub of_schema : OfSchema t batches
  pub numbered : first + length (source_plan s w t m batches true).pairs ≤ 2 ^ 32
  pub fit : Fit (source_plan s w t m batches true).numbers
  pub tracked : tracker + (source_plan s w t m batches true).reserved < 2 ^ 64

-- a fault of this kind stands somewhere
abbrev pub Has : What → List Fault → Type 0
Has w fs = (f : Fault) × In f fs × (f.what ≡ w)

-- What the codec and the compressor keep.
pub record Keeps (s : Setting) : Type 0 where
  pub codec : Lawful s.codec s.encodings
  -- the image of a whole chunk is one of the same type
  pub image_of : (which : ℕ) (t : Ty) (p : ChunkData) → Of t p → Of t (s.image which p)
  -- with the same row values
  pub image_rows : (which : ℕ) (t : Ty) (p : ChunkData) → Of t p → row_values (s.image which p) ≡ row_values p
