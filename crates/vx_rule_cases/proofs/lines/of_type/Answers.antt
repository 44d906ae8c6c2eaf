use Rattle.std.proofs.Common.{◌≡◌, Bool, true, false, refl, sym, ◌∙◌}
use Rattle.std.specs.Prelude.{not}
use Rattle.vx_model.specs.TyView.{ty}
use Rattle.vx_model.specs.Ty.{ty_eq}
use Rattle.vx_model.specs.TyLaws.{ty_eq_decides}
use Rattle.vx_rule_cases.proofs.lines.of_type.Goals as goal

not_false : (b : Bool) → not b ≡ false → b ≡ true
not_false true e = refl
not_false false e = cc

pub returns : goal.returns
returns c =
    let same : ty_eq (ty c.dtype.result.now) (ty c.args.dtype.now) ≡ true = not_false _ (sym c.ne.ensures ∙ c.if-ne.false) in
    sym c.dtype.ensures ∙ (ty_eq_decides (ty c.dtype.result.now) (ty c.args.dtype.now)).0 same
