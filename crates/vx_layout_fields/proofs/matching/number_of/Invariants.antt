use Rattle.std.proofs.Common.{◌≡◌, drop, map}
use Rattle.std.specs.List.{position, position_from}
use Rattle.vx_model.specs.TyView.{field_ty}
use Rattle.vx_layout_fields.specs.Matching.{is_named}
use Rattle.vx_layout_fields.proofs.matching.number_of.Given as goal

abbrev pub invariant-loop-i : goal.invariant-loop-i
invariant-loop-i l = position_from (is_named l.name) l.i (map field_ty (drop l.i l.fields)) ≡ position (is_named l.name) (map field_ty l.fields)
