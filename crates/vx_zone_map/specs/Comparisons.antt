-- Comparisons as predicates, and their opposites.
use Rattle.std.specs.Prelude.{Bool, true, false}
use Rattle.vx_model.specs.ValueData.{ValueData}
use Rattle.vx_zone_spec.specs.Pruning.{Predicate, eq, not_eq, lt, lt_eq, gt, gt_eq, pushed, opposite}
use Rattle.vx_zone_map.specs.declared.comparison.Comparison.{Comparison}
use Rattle.vx_zone_map.specs.declared.comparison.Comparison.TheVariants.{Eq, NotEq, Lt, LtEq, Gt, GtEq}

abbrev pub comparison_data : Comparison → ValueData → Predicate
comparison_data Eq v = eq v
comparison_data NotEq v = not_eq v
comparison_data Lt v = lt v
comparison_data LtEq v = lt_eq v
comparison_data Gt v = gt v
comparison_data GtEq v = gt_eq v

abbrev pub opposite_comparison : Comparison → Comparison
opposite_comparison Eq = NotEq
opposite_comparison NotEq = Eq
opposite_comparison Lt = GtEq
opposite_comparison LtEq = Gt
opposite_comparison Gt = LtEq
opposite_comparison GtEq = Lt

abbrev pub turned_comparison : Bool → Comparison → Comparison
turned_comparison true c = opposite_comparison c
turned_comparison false c = c

-- a predicate without Not, or its opposite
abbrev pub turned : Bool → Predicate → Predicate
turned true p = opposite p
turned false p = pushed p
