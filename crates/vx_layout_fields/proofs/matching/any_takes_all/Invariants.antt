use Rattle.std.proofs.Common.{◌≡◌, drop}
use Rattle.std.specs.List.{list_any}
use Rattle.vx_field_path.specs.Masks.{takes_all}
use Rattle.vx_layout_fields.proofs.matching.any_takes_all.Given as goal

abbrev pub invariant-loop-mask : goal.invariant-loop-mask
invariant-loop-mask l = list_any takes_all (drop l.mask-index l.masks) ≡ list_any takes_all l.masks
