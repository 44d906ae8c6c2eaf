use Rattle.std.proofs.Common.{ap, ◌∙◌, arith, sym, subst}
use Rattle.vx_path.specs.Lists.{In}
use Rattle.vx_seats.specs.History.{paths as written_paths}
use Rattle.vx_column_plan.specs.Shared.{number_by}
use Rattle.vx_column_layouts.proofs.Places.{number_pushed}
use Rattle.vx_column_layouts.proofs.numbers.numbers_at.Goals as goal

pub loop-path-preserved : goal.loop-path-preserved
loop-path-preserved c = λ first all.
    number_pushed c.args.history.now c.args.paths.now c.loop-path.path-index c.path-item.result first c.loop-path.numbers.items c.push.new.self.items _ (omega (arith, c.loop-path-test.true)) c.path-item.is c.in_ok-push.ensures.items
    (λ i. c.number_at.ensures first (subst (λ z. In z (written_paths c.args.history.now)) (sym c.as_slice.ensures) i) ∙ ap (number_by first c.args.history.now) c.as_slice.ensures) all (c.loop-path.invariant first all)
