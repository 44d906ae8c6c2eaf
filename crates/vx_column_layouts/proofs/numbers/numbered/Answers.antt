use Rattle.std.proofs.Common.{◌≡◌, ℕ, map, ap, ◌∙◌}
use Rattle.std.proofs.lemmas.Result.{IfOk-weaker}
use Rattle.vx_layout_spec.specs.LayoutTree.{renamed}
use Rattle.vx_layout_segments.specs.InTurn.{in_turn}
use Rattle.vx_layout_tree.specs.LayoutView.{layout_data, number}
use Rattle.vx_plan.specs.PlanData.{Plan}
use Rattle.vx_column_plan.specs.Shared.{number_by}
use Rattle.vx_column_machine.specs.Causes.{IsDone}
use Rattle.vx_column_layouts.specs.Numbers.{StandsIn}
use Rattle.vx_column_layouts.proofs.Numbered.{numbered_is}
use Rattle.vx_column_layouts.proofs.numbers.numbered.Goals as goal

pub returns : goal.returns
returns c =
    IfOk-weaker c.renumbered.result (λ l. layout_data l ≡ in_turn (map number c.as_slice.result.now) (layout_data c.args.layout.now))
    (λ l. (first : ℕ) (p : Plan) → IsDone p (layout_data c.args.layout.now) c.args.paths.now → StandsIn c.args.history.now p → layout_data l ≡ renamed (number_by first c.args.history.now) p.layout)
    (λ l same first p done stands.
    numbered_is c.args.history.now first p (layout_data c.args.layout.now) c.args.paths.now done stands (layout_data l) (map number c.as_slice.result.now)
    (λ all. ap (map number) c.as_slice.ensures.value ∙ c.in_ok-numbers.ensures first all) same)
    c.renumbered.ensures
