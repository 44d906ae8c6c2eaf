use Rattle.std.proofs.Common.{◌≡◌, take}
use Rattle.vx_field_path.proofs.path.FieldPathClone.clone.Given as goal

abbrev pub invariant-loop-name : goal.invariant-loop-name
invariant-loop-name l = l.parts.items ≡ take l.name-index l.self
