-- The array trees of what was written.
use Rattle.std.specs.Prelude.{ℕ, ◌≡◌, Bool, true, List, [], Some, None}
use Rattle.vx_model.specs.Ty.{Ty}
use Rattle.vx_model.specs.ChunkData.{ChunkData}
use Rattle.vx_plan.specs.PlanData.{Setting}
use Rattle.vx_strategy_spec.specs.StrategyData.{StrategyData}
use Rattle.vx_strategy_spec.specs.Admitted.{is_admitted}
use Rattle.vx_plan.specs.Valid.{Fit, AllOf, Keeps}
use Rattle.vx_plan.specs.SourcePlan.{source_plan}
use Rattle.vx_plan.specs.Number.{segments, numbered, segment_at}
use Rattle.vx_array_tree_laws.specs.Flats.{flats, FlatsHold}

-- a chunk is encoded where no encoding is refused
abbrev pub Encodes : Setting → Type 0
Encodes s = (padding : Bool) (p : ChunkData) → s.codec.refused s.encodings p ≡ None → (b : List ℕ) × (s.codec.encode s.encodings padding p ≡ Some b)

-- where chunks of the layout are known to be whole ones of their types
pub record Good (s : Setting) (w : StrategyData) (t : Ty) (m : Bool) (batches : List ChunkData) : Type 0 where
  pub keeps : Keeps s
  pub admitted : is_admitted w ≡ true
  pub of_schema : AllOf t batches
  pub fit : Fit (source_plan s w t m batches true).numbers

-- Each flat node of the numbered layout, those of zone tables too, has an array tree exactly where the strategy's node
-- inlines, and it is the tree part of the node's segment.
abbrev pub ArrayTrees : Type 0
ArrayTrees = (s : Setting) (w : StrategyData) (t : Ty) (m : Bool) (batches : List ChunkData) (first : ℕ) → Encodes s
    → (source_plan s w t m batches true).faults ≡ []
    → FlatsHold s (flats w) (Good s w t m batches) (segment_at first (segments (source_plan s w t m batches true))) (numbered (source_plan s w t m batches true) first)
