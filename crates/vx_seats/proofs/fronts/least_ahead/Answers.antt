use Rattle.std.proofs.Common.{◌+◌, ◌∙◌, sym, ap, subst, arith}
use Rattle.std.specs.Option.{option_copied}
use Rattle.vx_seats.specs.Fronts.{IsBest, NoneAhead}
use Rattle.vx_seats.proofs.Ahead.{best_more, best_none, best_not_ahead, best_ahead, is_at, if_none}
use Rattle.vx_seats.proofs.fronts.least_ahead.Goals as goal

pub loop-k-preserved : goal.loop-k-preserved
loop-k-preserved c =
    let at = is_at c.args.fronts.now c.args.column c.loop-k.k c.other_front.result c.other_front.ensures.none c.other_front.ensures.some in
    let more = best_more c.args.fronts.now c.args.column c.loop-k.k (option_copied c.loop-k.best) (option_copied c.other_front.result) c.loop-k.invariant at in
    subst (IsBest c.args.fronts.now c.args.column (c.loop-k.k + 1)) (sym c.lesser-best.ensures) more

pub returns-in_err-q-clause-none : goal.returns-in_err-q-clause-none
returns-in_err-q-clause-none c = if_none (NoneAhead c.args.fronts.now c.args.column c.args.path.now) c.from_residual.result
    (best_none c.args.fronts.now c.args.column c.loop-k.k c.args.path.now (option_copied c.loop-k.best) (omega (arith, c.loop-k-test.false)) (ap option_copied c.in_err-q.was) c.loop-k.invariant)

pub returns-then-path_le-clause-none : goal.returns-then-path_le-clause-none
returns-then-path_le-clause-none c =
    best_not_ahead c.args.fronts.now c.args.column c.loop-k.k c.args.path.now c.in_ok-q.q.now (option_copied c.loop-k.best) (omega (arith, c.loop-k-test.false)) (ap option_copied c.in_ok-q.was) c.loop-k.invariant
    (sym c.path_le.ensures ∙ c.if-path_le.true)

pub returns-else-path_le-clause-some : goal.returns-else-path_le-clause-some
returns-else-path_le-clause-some c =
    best_ahead c.args.fronts.now c.args.column c.loop-k.k c.args.path.now c.in_ok-q.q.now (option_copied c.loop-k.best) (omega (arith, c.loop-k-test.false)) (ap option_copied c.in_ok-q.was) c.loop-k.invariant
    (sym c.path_le.ensures ∙ c.if-path_le.false)
