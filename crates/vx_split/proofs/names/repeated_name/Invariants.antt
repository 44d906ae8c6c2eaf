use Rattle.std.proofs.Common.{◌≡◌, ℕ, List, map, take, drop}
use Rattle.vx_model.specs.Ty.{tys_of}
use Rattle.vx_model.specs.TyView.{field_ty}
use Rattle.vx_strategy_spec.specs.Walk.{is_name, repeated, duplicate}
use Rattle.vx_split.proofs.NameSteps.{names_of, has}
use Rattle.vx_split.proofs.names.repeated_name.Given as goal

abbrev pub invariant-loop-field : goal.invariant-loop-field
invariant-loop-field l = record {
  same : repeated (names_of (take l.field-index l.fields)) (tys_of (map field_ty (drop l.field-index l.fields))) ≡ duplicate (tys_of (map field_ty l.fields));
  seen : (name : List ℕ) → has l.before name ≡ is_name name (names_of (take l.field-index l.fields));
}
