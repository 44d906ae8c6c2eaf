use Rattle.std.proofs.Common.{◌≡◌, ◌==◌, List, ℕ, ◌++◌, true, drop, map}
use Rattle.std.specs.Fmt.{HasWritten, IsPlainFormatter}
use Rattle.vx_model.specs.Ty.{tys_of}
use Rattle.vx_model.specs.TyView.{field_ty}
use Rattle.vx_model.specs.Shown.{fields_text}
use Rattle.vx_model.proofs.display.+shown.Given as goal

abbrev pub invariant-write_fields-loop-i : goal.invariant-write_fields-loop-i
invariant-write_fields-loop-i g l =
    IsPlainFormatter l.initial.f → (done : List ℕ) × HasWritten g.W.Write.write_str_gives l.initial.f done l.f
    × (done ++ fields_text (l.i == 0) (tys_of (map field_ty (drop l.i l.fields))) ≡ fields_text true (tys_of (map field_ty l.fields)))
