-- The laws of the segments that a plan's layout names.
use Rattle.std.specs.Prelude.{◌≡◌, Bool, true, List, []}
use Rattle.vx_model.specs.Ty.{Ty}
use Rattle.vx_path.specs.Path.{Eof}
use Rattle.vx_plan.specs.PlanData.{Setting, Item, Plan}
use Rattle.vx_strategy_spec.specs.StrategyData.{StrategyData}
use Rattle.vx_plan.specs.SourcePlan.{plan}
use Rattle.vx_array_tree_laws.specs.Statements.{Encodes}
use Rattle.vx_layout_segment_laws.specs.Named.{SegmentsArePairs, NamesEach}

-- What is written of a stream that has ended without a fault, at any paths and any eof path.
abbrev pub LayoutsNamePairs : Type 0
LayoutsNamePairs = (s : Setting) (w : StrategyData) (t : Ty) (m : Bool) (items : List Item) (e : Eof) → Encodes s
    → (plan s w t m items true e).faults ≡ [] → SegmentsArePairs (plan s w t m items true e)

abbrev pub PairsNamedOnce : Type 0
PairsNamedOnce = (p : Plan) → SegmentsArePairs p → NamesEach p
