-- Whether two types are the same.
use Rattle.std.proofs.Common.{◌≡◌, ◌≢◌, true, false, sym, ◌∙◌}
use Rattle.std.proofs.lemmas.Bool.{true≢false}
use Rattle.vx_model.specs.Ty.{Ty, ty_eq}
use Rattle.vx_model.specs.TyLaws.{ty_eq_decides}

pub same_types : (t u : Ty) → ty_eq t u ≡ true → t ≡ u
same_types t u e = (ty_eq_decides t u).0 e

pub other_types : (t u : Ty) → ty_eq t u ≡ false → t ≢ u
other_types t u e f = true≢false (sym ((ty_eq_decides t u).1 f) ∙ e)

pub ruleset type_rules = (same_types, other_types)
