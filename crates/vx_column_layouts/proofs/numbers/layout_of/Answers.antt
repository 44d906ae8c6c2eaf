use Rattle.std.proofs.Common.{subst, sym, Some}
use Rattle.vx_layout_tree.specs.LayoutView.{layout_data}
use Rattle.vx_column_machine.specs.Causes.{IsDone}
use Rattle.vx_column_layouts.specs.Numbers.{IsLaid}
use Rattle.vx_column_layouts.proofs.numbers.layout_of.Goals as goal

pub returns-clause-laid : goal.returns-clause-laid
returns-clause-laid c =
    subst (λ o. IsLaid c.args.history.now o (Some c.in_ok-numbered.field-0)) (sym c.in-Ok.is)
    (λ first p done stands. c.in_ok-numbered.ensures first p (subst (IsDone p (layout_data c.in-Ok.done.0)) (sym c.as_slice.ensures.value) done) stands)
