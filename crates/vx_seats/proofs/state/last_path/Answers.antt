use Rattle.std.proofs.Common.{List, ℕ, sym, subst}
use Rattle.vx_seats.specs.History.{paths}
use Rattle.vx_seats.specs.Turns.{IsLast}
use Rattle.vx_seats.proofs.History.{last_is}
use Rattle.vx_seats.proofs.state.last_path.Goals as goal

pub returns-clause-some : goal.returns-clause-some
returns-clause-some c =
    subst (λ (x : List ℕ). IsLast (paths c.args.history.now) x) (sym c.as_slice.ensures) (last_is c.args.history.now c.in_ok-last.last.now c.in_ok-last.ensures.value)
