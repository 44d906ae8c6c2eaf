use Rattle.std.proofs.Common.{◌≡◌, map, take}
use Rattle.vx_model.specs.TyView.{field_ty}
use Rattle.vx_model.proofs.dtype.+copy.Given as goal

abbrev pub invariant-copy_fields-loop-field : goal.invariant-copy_fields-loop-field
invariant-copy_fields-loop-field l = map field_ty l.copies.items ≡ map field_ty (take l.field-index l.fields.items)
