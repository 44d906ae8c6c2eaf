use Rattle.std.proofs.Common.{◌∙◌, sym}
use Rattle.vx_seats.specs.History.{paths}
use Rattle.vx_seats.proofs.History.{is_new}
use Rattle.vx_seats.proofs.state.smaller.Goals as goal

pub returns-else-path_le-clause-none : goal.returns-else-path_le-clause-none
returns-else-path_le-clause-none c =
    (c.in_default.ensures.none, is_new (paths c.args.history.now) c.args.path.now c.in_ok-last.last.now c.in_ok-last.ensures.some (sym c.path_le.ensures ∙ c.if-path_le.false))
