-- A predicate as contracts see it.
use Rattle.vx_model.specs.TreeView.{val}
use Rattle.vx_zone_spec.specs.Pruning.{eq, not_eq, lt, lt_eq, gt, gt_eq, is_null, is_not_null, both, either, negated}
use Rattle.vx_zone_spec.specs.Pruning as pruning
use Rattle.vx_zone_map.specs.declared.predicate.Predicate.{Predicate, fold-Predicate}
use Rattle.vx_zone_map.specs.declared.predicate.Predicate.TheOpen.{Predicate-F}

abbrev pub predicate_step : Predicate-F pruning.Predicate → pruning.Predicate
predicate_step (Predicate-F.Eq v) = eq (val v)
predicate_step (Predicate-F.NotEq v) = not_eq (val v)
predicate_step (Predicate-F.Lt v) = lt (val v)
predicate_step (Predicate-F.LtEq v) = lt_eq (val v)
predicate_step (Predicate-F.Gt v) = gt (val v)
predicate_step (Predicate-F.GtEq v) = gt_eq (val v)
predicate_step Predicate-F.IsNull = is_null
predicate_step Predicate-F.IsNotNull = is_not_null
predicate_step (Predicate-F.And p q) = both p.value q.value
predicate_step (Predicate-F.Or p q) = either p.value q.value
predicate_step (Predicate-F.Not p) = negated p.value

abbrev pub predicate_data : Predicate → pruning.Predicate
predicate_data = fold-Predicate pruning.Predicate predicate_step
