use Rattle.std.proofs.Common.{◌≡◌, ◌<◌, ◌^◌, ap, arith, rules}
use Rattle.std.proofs.lemmas.Result.{IfErr-weaker}
use Rattle.vx_split.specs.ListState.{ListState, elements_to}
use Rattle.vx_split.specs.Causes.{IsPast, Tells}
use Rattle.vx_split.proofs.ListSteps.{fits_u128, tells}
use Rattle.vx_split.proofs.lists.ListSplit.react.Goals as goal

pub returns-in_err-columns-clause-exact : goal.returns-in_err-columns-clause-exact
returns-in_err-columns-clause-exact c = λ whole.
    let s = c.args.self.now in
    let n = elements_to s c.args.chunk in
    let base : c.self.inside.base ≡ s.base = ap (λ (state : ListState). state.base) c.self.view_is in
    let short : s.base < 2 ^ 64 = omega arith in
    let few : n < 2 ^ 128 = fits_u128 c.args.chunk s.base short whole in
    IfErr-weaker c.from_residual.result (IsPast n) (Tells n) (λ e past. tells n e few past) (search rules)
