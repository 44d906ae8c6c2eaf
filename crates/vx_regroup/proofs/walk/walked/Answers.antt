use Rattle.std.proofs.Common.{◌≡◌, ℕ, suc, ◌≤◌, ◌-◌, ◌+◌, ◌*◌, ◌/◌, [], ◌∷◌, ◌++◌, length, arith, sym, ap, subst, ◌∙◌}
use Rattle.vx_model.specs.TyView.{ty}
use Rattle.vx_column.specs.ColumnView.{column_cells}
use Rattle.vx_rules.specs.Blocks.{block_sizes as sizes_of, tested_sizes as tests_of, check_points, steps}
use Rattle.vx_regroup.specs.Refusals.{first_past, Refuses}
use Rattle.vx_regroup.specs.Walks.{Stands, sizes_with, past_with}
use Rattle.vx_regroup.proofs.Lists.{len_times}
use Rattle.vx_regroup.proofs.WalkSteps.{next_point, next_past, next_refused}
use Rattle.std.proofs.lemmas.List.{append-nil}
use Rattle.std.proofs.lemmas.Result.{err_from_is_err_and}
use Rattle.vx_regroup.proofs.walk.walked.Goals as goal

pub loop-k-preserved : goal.loop-k-preserved
loop-k-preserved c =
    let less : c.args.len * suc (c.saturating_sub.result / c.args.len - (c.loop-k.k + 1)) ≡ c.args.len * (c.saturating_sub.result / c.args.len - (c.loop-k.k + 1)) + c.args.len = len_times c.args.len (c.saturating_sub.result / c.args.len - (c.loop-k.k + 1)) in
    let one : c.saturating_sub.result / c.args.len - c.loop-k.k ≡ suc (c.saturating_sub.result / c.args.len - (c.loop-k.k + 1)) = omega arith in
    let seen : c.check.new.walk.seen ≡ c.loop-k.walk.seen + c.args.len = c.in_ok-check.ensures.seen in
    let bound : c.loop-k.walk.seen + c.args.len * suc (c.saturating_sub.result / c.args.len - (c.loop-k.k + 1)) ≤ length (column_cells c.args.column.now) = subst (λ z. c.loop-k.walk.seen + c.args.len * z ≤ length (column_cells c.args.column.now)) one c.loop-k.invariant.bound in
    record {
      stands = subst (λ z. Stands (ty c.args.dtype.now) (column_cells c.args.column.now) c.check.new.walk.sizes.items c.check.new.walk.cut z c.check.new.walk.total) (sym seen) c.in_ok-check.ensures.stands;
      bound = omega arith;
      sizes = subst (λ z. sizes_with c.args.len c.args.minimum (ty c.args.dtype.now) (column_cells c.args.column.now) c.check.new.walk.sizes.items c.check.new.walk.cut (steps z c.args.len (c.saturating_sub.result / c.args.len - (c.loop-k.k + 1)) ++ (length (column_cells c.args.column.now) ∷ [])) ≡ (sizes_of c.args.len c.args.minimum (ty c.args.dtype.now) 0 (column_cells c.args.column.now) (check_points c.args.len c.args.held (length (column_cells c.args.column.now) - c.args.held)))) (sym seen)
          (next_point c.args.len c.args.minimum (ty c.args.dtype.now) (column_cells c.args.column.now) c.loop-k.walk.sizes.items c.check.new.walk.sizes.items c.loop-k.walk.cut c.check.new.walk.cut c.loop-k.walk.seen (c.saturating_sub.result / c.args.len - (c.loop-k.k + 1)) (length (column_cells c.args.column.now)) (sizes_of c.args.len c.args.minimum (ty c.args.dtype.now) 0 (column_cells c.args.column.now) (check_points c.args.len c.args.held (length (column_cells c.args.column.now) - c.args.held)))
          (subst (λ z. sizes_with c.args.len c.args.minimum (ty c.args.dtype.now) (column_cells c.args.column.now) c.loop-k.walk.sizes.items c.loop-k.walk.cut (steps c.loop-k.walk.seen c.args.len z ++ (length (column_cells c.args.column.now) ∷ [])) ≡ (sizes_of c.args.len c.args.minimum (ty c.args.dtype.now) 0 (column_cells c.args.column.now) (check_points c.args.len c.args.held (length (column_cells c.args.column.now) - c.args.held)))) one c.loop-k.invariant.sizes)
          c.in_ok-check.ensures.sizes);
      past = subst (λ z. past_with c.args.len c.args.minimum (ty c.args.dtype.now) (column_cells c.args.column.now) c.check.new.walk.cut (steps z c.args.len (c.saturating_sub.result / c.args.len - (c.loop-k.k + 1)) ++ (length (column_cells c.args.column.now) ∷ [])) ≡ first_past (tests_of c.args.len c.args.minimum (ty c.args.dtype.now) 0 (column_cells c.args.column.now) (check_points c.args.len c.args.held (length (column_cells c.args.column.now) - c.args.held)))) (sym seen)
          (next_past c.args.len c.args.minimum (ty c.args.dtype.now) (column_cells c.args.column.now) c.loop-k.walk.cut c.check.new.walk.cut c.loop-k.walk.seen (c.saturating_sub.result / c.args.len - (c.loop-k.k + 1)) (length (column_cells c.args.column.now)) (first_past (tests_of c.args.len c.args.minimum (ty c.args.dtype.now) 0 (column_cells c.args.column.now) (check_points c.args.len c.args.held (length (column_cells c.args.column.now) - c.args.held))))
          (subst (λ z. past_with c.args.len c.args.minimum (ty c.args.dtype.now) (column_cells c.args.column.now) c.loop-k.walk.cut (steps c.loop-k.walk.seen c.args.len z ++ (length (column_cells c.args.column.now) ∷ [])) ≡ first_past (tests_of c.args.len c.args.minimum (ty c.args.dtype.now) 0 (column_cells c.args.column.now) (check_points c.args.len c.args.held (length (column_cells c.args.column.now) - c.args.held)))) one c.loop-k.invariant.past)
          c.in_ok-check.ensures.fits);
    }

pub returns-clause-sizes : goal.returns-clause-sizes
returns-clause-sizes c =
    let none : c.saturating_sub.result / c.args.len - c.loop-k.k ≡ 0 = omega arith in
    sym (append-nil c.check-2.new.walk.sizes.items) ∙ c.in_ok-check-2.ensures.sizes []
    ∙ ap (λ (n : ℕ). sizes_with c.args.len c.args.minimum (ty c.args.dtype.now) (column_cells c.args.column.now) c.loop-k.walk.sizes.items c.loop-k.walk.cut (n ∷ [])) c.len-count.ensures
    ∙ subst (λ z. sizes_with c.args.len c.args.minimum (ty c.args.dtype.now) (column_cells c.args.column.now) c.loop-k.walk.sizes.items c.loop-k.walk.cut (steps c.loop-k.walk.seen c.args.len z ++ (length (column_cells c.args.column.now) ∷ [])) ≡ (sizes_of c.args.len c.args.minimum (ty c.args.dtype.now) 0 (column_cells c.args.column.now) (check_points c.args.len c.args.held (length (column_cells c.args.column.now) - c.args.held)))) none c.loop-k.invariant.sizes

pub returns-clause-fits : goal.returns-clause-fits
returns-clause-fits c =
    let none : c.saturating_sub.result / c.args.len - c.loop-k.k ≡ 0 = omega arith in
    sym (subst (λ z. past_with c.args.len c.args.minimum (ty c.args.dtype.now) (column_cells c.args.column.now) c.loop-k.walk.cut (steps c.loop-k.walk.seen c.args.len z ++ (length (column_cells c.args.column.now) ∷ [])) ≡ first_past (tests_of c.args.len c.args.minimum (ty c.args.dtype.now) 0 (column_cells c.args.column.now) (check_points c.args.len c.args.held (length (column_cells c.args.column.now) - c.args.held)))) none c.loop-k.invariant.past)
    ∙ ap (λ (n : ℕ). past_with c.args.len c.args.minimum (ty c.args.dtype.now) (column_cells c.args.column.now) c.loop-k.walk.cut (n ∷ [])) (sym c.len-count.ensures)
    ∙ sym (c.in_ok-check-2.ensures.fits [])

pub returns-in_err-check-clause-refused : goal.returns-in_err-check-clause-refused
returns-in_err-check-clause-refused c =
    let p = err_from_is_err_and c.from_residual.result c.from_residual.ensures.1 in
    let one : c.saturating_sub.result / c.args.len - c.loop-k.k ≡ suc (c.saturating_sub.result / c.args.len - (c.loop-k.k + 1)) = omega arith in
    rw (p.1, p.2) (next_refused c.args.len c.args.minimum (ty c.args.dtype.now) (column_cells c.args.column.now) c.loop-k.walk.cut c.loop-k.walk.seen (c.saturating_sub.result / c.args.len - (c.loop-k.k + 1)) (length (column_cells c.args.column.now)) (first_past (tests_of c.args.len c.args.minimum (ty c.args.dtype.now) 0 (column_cells c.args.column.now) (check_points c.args.len c.args.held (length (column_cells c.args.column.now) - c.args.held)))) c.in_err-check.field-0.0
    (subst (λ z. past_with c.args.len c.args.minimum (ty c.args.dtype.now) (column_cells c.args.column.now) c.loop-k.walk.cut (steps c.loop-k.walk.seen c.args.len z ++ (length (column_cells c.args.column.now) ∷ [])) ≡ first_past (tests_of c.args.len c.args.minimum (ty c.args.dtype.now) 0 (column_cells c.args.column.now) (check_points c.args.len c.args.held (length (column_cells c.args.column.now) - c.args.held)))) one c.loop-k.invariant.past)
    c.in_err-check.ensures.refused)

pub returns-in_err-check-2-clause-refused : goal.returns-in_err-check-2-clause-refused
returns-in_err-check-2-clause-refused c =
    let p = err_from_is_err_and c.from_residual-in_err-check-2.result c.from_residual-in_err-check-2.ensures.1 in
    let none : c.saturating_sub.result / c.args.len - c.loop-k.k ≡ 0 = omega arith in
    rw (p.1, p.2) (subst (λ z. Refuses z c.in_err-check-2.field-0.0)
    (subst (λ z. past_with c.args.len c.args.minimum (ty c.args.dtype.now) (column_cells c.args.column.now) c.loop-k.walk.cut (steps c.loop-k.walk.seen c.args.len z ++ (length (column_cells c.args.column.now) ∷ [])) ≡ first_past (tests_of c.args.len c.args.minimum (ty c.args.dtype.now) 0 (column_cells c.args.column.now) (check_points c.args.len c.args.held (length (column_cells c.args.column.now) - c.args.held)))) none c.loop-k.invariant.past)
    (subst (λ n. Refuses (past_with c.args.len c.args.minimum (ty c.args.dtype.now) (column_cells c.args.column.now) c.loop-k.walk.cut (n ∷ [])) c.in_err-check-2.field-0.0) c.len-count.ensures (c.in_err-check-2.ensures.refused [])))
