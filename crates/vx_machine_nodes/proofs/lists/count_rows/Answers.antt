use Rattle.std.proofs.Common.{◌≡◌, ◌+◌, suc, false, [], ◌∷◌, refl, subst, inl, inr, arith}
use Rattle.std.proofs.lemmas.Result.{err_from_is_err_and}
use Rattle.vx_machine_nodes.specs.Acting.{SplitRefused}
use Rattle.vx_machine_nodes.proofs.RefusalSteps.{by_one}
use Rattle.vx_machine_nodes.proofs.lists.count_rows.Goals as goal

pub returns-in_err-total-clause-refused : goal.returns-in_err-total-clause-refused
returns-in_err-total-clause-refused c =
    let p = err_from_is_err_and c.from_residual.result c.from_residual.ensures.1 in
    rw (p.1, p.2) (by_one (c.args.rows + c.args.more) ((c.args.rows + c.args.more) ∷ suc (c.args.rows + c.args.more) ∷ []) c.in_err-total.field-0.0 (inl refl) c.in_err-total.ensures.refused)

pub returns-in_err-add_rows-clause-refused : goal.returns-in_err-add_rows-clause-refused
returns-in_err-add_rows-clause-refused c =
    let p = err_from_is_err_and c.from_residual-in_err-add_rows.result c.from_residual-in_err-add_rows.ensures.1 in
    let e : c.in_ok-total.total + 1 ≡ suc (c.args.rows + c.args.more) = omega (arith, c.in_ok-total.ensures.ok) in
    rw (p.1, p.2) (by_one (suc (c.args.rows + c.args.more)) ((c.args.rows + c.args.more) ∷ suc (c.args.rows + c.args.more) ∷ []) c.in_err-add_rows.field-0.0 (inr (inl refl))
    (subst (λ n. SplitRefused false n c.in_err-add_rows.field-0.0) e c.in_err-add_rows.ensures.refused))
