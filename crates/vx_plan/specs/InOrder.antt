-- What chunking over flat writes: each batch's segment, in order.
use Rattle.std.specs.Prelude.{ℕ, suc, ◌+◌, ◌^◌, ◌<◌, ◌≤◌, ◌≡◌, Bool, List, [], ◌∷◌, ◌++◌, length, Option, Some, None}
use Rattle.vx_model.specs.Ty.{Ty}
use Rattle.vx_model.specs.ChunkData.{ChunkData, cells}
use Rattle.vx_layout_spec.specs.LayoutTree.{LayoutData, flat_layout, gathered}
use Rattle.vx_plan.specs.PlanData.{Setting, Pair, Fault}
use Rattle.vx_strategy_spec.specs.StrategyData.{StrategyData, FlatOptions, chunked, leaf}
use Rattle.vx_plan.specs.FlatNode.{segment, pair_at, refusals, inlined}
use Rattle.vx_plan.specs.SourcePlan.{source_plan}
use Rattle.vx_plan.specs.Number.{sorted, segments, numbered}
use Rattle.vx_plan.specs.Valid.{Fit, IsPast}

-- batch i has the path [0, i]
abbrev pub batch_pairs : Setting → FlatOptions → ℕ → List ChunkData → List Pair
batch_pairs s o i [] = []
batch_pairs s o i (b ∷ bs) = pair_at (0 ∷ i ∷ []) (segment s o (0 ∷ i ∷ [], b)) ++ batch_pairs s o (suc i) bs

abbrev pub batch_refusals : Setting → ℕ → List ChunkData → List Fault
batch_refusals s i [] = []
batch_refusals s i (b ∷ bs) = refusals s (0 ∷ i ∷ [], b) ++ batch_refusals s (suc i) bs

abbrev pub there : {A : Type 0} → Option A → List A
there None = []
there (Some x) = x ∷ []

-- the batches' segments, in order
abbrev pub batch_segments : Setting → FlatOptions → List ChunkData → List (List ℕ)
batch_segments s o [] = []
batch_segments s o (b ∷ bs) = there (s.codec.encode s.encodings o.padding b) ++ batch_segments s o bs

-- a flat layout a batch, numbered from the first
abbrev pub batch_flats : Setting → FlatOptions → Ty → ℕ → List ChunkData → List (LayoutData ℕ)
batch_flats s o t first [] = []
batch_flats s o t first (b ∷ bs) = flat_layout t (length (cells b)) s.encodings (inlined s o ([], b)) first ∷ batch_flats s o t (suc first) bs

-- rows of all batches
abbrev pub batch_rows : List ChunkData → ℕ
batch_rows [] = 0
batch_rows (b ∷ bs) = length (cells b) + batch_rows bs

pub record InOrder (s : Setting) (o : FlatOptions) (w : StrategyData) (t : Ty) (m : Bool) (batches : List ChunkData) (ended : Bool) : Type 0 where
  pub pairs : (source_plan s w t m batches ended).pairs ≡ batch_pairs s o 0 batches
  pub segments : segments (source_plan s w t m batches ended) ≡ batch_segments s o batches
  pub sorted : sorted (source_plan s w t m batches ended).pairs ≡ batch_pairs s o 0 batches
  pub faults : (source_plan s w t m batches ended).faults ≡ batch_refusals s 0 batches
  -- one flat layout, or a chunked one of none or several; their numbers count on from the first
  pub layout : batch_refusals s 0 batches ≡ [] → ((padding : Bool) (p : ChunkData) → s.codec.refused s.encodings p ≡ None → (b : List ℕ) × (s.codec.encode s.encodings padding p ≡ Some b))
      → (first : ℕ) → numbered (source_plan s w t m batches ended) first ≡ gathered t (batch_rows batches) (batch_flats s o t first batches)
  -- the rows of all batches fit 64 bits where the plan's numbers do, and else are past them by one of these
  pub rows : Fit (source_plan s w t m batches ended).numbers → batch_rows batches < 2 ^ 64
  pub past : 2 ^ 64 ≤ batch_rows batches → IsPast (batch_rows batches) (source_plan s w t m batches ended).numbers

-- Chunking over a strategy that ends at a flat one writes each batch's segment, in order.
abbrev pub ChunksInOrder : Type 0
ChunksInOrder = (s : Setting) (o : FlatOptions) (w : StrategyData) (t : Ty) (m : Bool) (batches : List ChunkData) (ended : Bool)
    → leaf w ≡ Some o → InOrder s o (chunked w) t m batches ended
