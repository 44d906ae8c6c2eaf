use Rattle.std.proofs.Common.{◌≡◌, ◌++◌, drop, map}
use Rattle.std.specs.Prelude.{string_bytes, nat_lt}
use Rattle.vx_model.specs.TyView.{ty, field_ty}
use Rattle.vx_report.specs.ZoneText.{names_from, column_names}
use Rattle.vx_report.proofs.zone_text.push_names.Given as goal

abbrev pub invariant-loop-i : goal.invariant-loop-i
invariant-loop-i l = string_bytes l.out ++ names_from (nat_lt 0 l.i) (map field_ty (drop l.i l.fields)) ≡ string_bytes l.fn.out ++ column_names (ty l.dtype)
