use Rattle.std.proofs.Common.{◌+◌, sym, ap, subst, arith}
use Rattle.std.proofs.lemmas.Result.{err_from_is_err_and}
use Rattle.vx_path.specs.Path.{Eof}
use Rattle.vx_machine_nodes.specs.Runs.{CutRefused}
use Rattle.vx_machine_nodes.proofs.RunSteps.{full_eofs}
use Rattle.vx_machine_nodes.proofs.cuts.take_both.Goals as goal

pub returns-in_err-first-clause-refused : goal.returns-in_err-first-clause-refused
returns-in_err-first-clause-refused g c =
    let p = err_from_is_err_and c.from_residual.result c.from_residual.ensures.1 in
    rw (p.1, p.2) (λ below. full_eofs c.args.pointer.now.last (c.args.pointer.now.last + 2) below c.in_err-first.field-0.0 c.in_err-first.ensures.full (omega arith))

pub returns-in-Err-clause-refused : goal.returns-in-Err-clause-refused
returns-in-Err-clause-refused g c = λ below.
    subst (λ e. CutRefused (c.args.pointer.now.last + 2) below e) (sym c.into.ensures)
    (full_eofs _ (c.args.pointer.now.last + 2) below c.in-Err.error c.in-Err.ensures.full (omega (arith, ap (λ (z : Eof). z.last) c.in_ok-first.ensures.next)))
