use Rattle.std.proofs.Common.{◌≡◌, drop, map}
use Rattle.vx_model.specs.TyView.{field_ty}
use Rattle.vx_layout_fields.specs.Matching.{each_match}
use Rattle.vx_layout_fields.proofs.Steps.{onto}
use Rattle.vx_layout_fields.proofs.matching.each_match.Given as goal

abbrev pub invariant-loop-mask : goal.invariant-loop-mask
invariant-loop-mask l = onto l.matches.items (each_match (map field_ty l.fields) (drop l.mask-index l.masks)) ≡ each_match (map field_ty l.fields) l.masks
