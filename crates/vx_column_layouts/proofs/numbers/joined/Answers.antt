use Rattle.std.proofs.Common.{◌≡◌, map, length, ap, subst, sym, ◌∙◌, arith}
use Rattle.std.proofs.lemmas.List.{length-map}
use Rattle.vx_model.specs.TyView.{ty}
use Rattle.vx_layout_spec.specs.LayoutTree.{struct_layout}
use Rattle.vx_layout_tree.specs.LayoutView.{layout_data}
use Rattle.vx_column_plan.specs.Shared.{number_by}
use Rattle.vx_column_layouts.specs.Numbers.{AllStandIn, layouts_by}
use Rattle.vx_column_layouts.proofs.Joining.{laid_by}
use Rattle.vx_column_layouts.proofs.numbers.joined.Goals as goal

pub returns-clause-laid : goal.returns-clause-laid
unfolding layout_data
returns-clause-laid c = λ first ps done stands.
    let many : length c.in_ok-layouts.layouts.items ≡ c.args.outcomes.len = omega (arith, c.in_ok-layouts.ensures.count, c.in_ok-layouts.layouts.ok.0) in
    laid_by (ty c.args.dtype) c.args.rows c.args.outcomes.len (map layout_data c.in_ok-layouts.layouts.items) c.in-Ok.fields c.requires.count
    (length-map c.in_ok-layouts.layouts.items layout_data ∙ many) c.in-Ok.ensures.made
    ∙ ap (struct_layout (ty c.args.dtype) c.args.rows)
    (c.in_ok-layouts.ensures.laid first ps done (subst (λ h. AllStandIn h ps) (sym c.as_slice.ensures.value) stands) ∙ ap (λ h. layouts_by (number_by first h) ps) c.as_slice.ensures.value)
