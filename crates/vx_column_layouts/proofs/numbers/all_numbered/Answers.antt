use Rattle.std.proofs.Common.{◌≡◌, ◌++◌, ◌∷◌, [], map, length, ap, ◌∙◌, sym, subst, arith}
use Rattle.std.proofs.lemmas.List.{length-map, map_push}
use Rattle.std.proofs.lemmas.Result.{err_from_is_err_and}
use Rattle.std.specs.Vec.Iter.{into_iter_items}
use Rattle.vx_layout_tree.specs.LayoutView.{layout_data}
use Rattle.vx_column_layouts.specs.Numbers.{IsLaid}
use Rattle.vx_column_layouts.proofs.Joining.{SoFar, so_far_none, so_far_laid, so_far_stopped, so_far_refused, ended_ok, ended_count, ended_laid}
use Rattle.vx_column_layouts.proofs.numbers.all_numbered.Goals as goal

pub columns-init : goal.columns-init
columns-init c =
    let gives : into_iter_items c.into_iter-outcome-iterator.result ≡ c.args.outcomes.items = c.into_iter-outcome-iterator.ensures.into_iter_gives.0 in
    subst (λ os. SoFar c.args.history.now c.args.outcomes.items os (map layout_data c.in_ok-layouts.layouts.items)) (sym gives)
    (subst (λ ls. SoFar c.args.history.now c.args.outcomes.items c.args.outcomes.items (map layout_data ls)) (sym c.in_ok-layouts.ensures.items) (so_far_none c.args.history.now c.args.outcomes.items))

pub returns-in_err-layout-clause-refused : goal.returns-in_err-layout-clause-refused
returns-in_err-layout-clause-refused c =
    let p = err_from_is_err_and c.from_residual-in_err-layout.result c.from_residual-in_err-layout.ensures.1 in
    rw (p.1, p.2)
    (so_far_refused c.args.history.now c.args.outcomes.items (into_iter_items c.columns.outcome-iterator) (into_iter_items c.next.new.self) c.in-Some.outcome (map layout_data c.columns.layouts.items) c.columns.invariant c.in-Some.ensures.steps.0 c.in_err-layout.field-0.0
    c.in_err-layout.ensures.refused)

pub columns-preserved-in-Continue-branch-4 : goal.columns-preserved-in-Continue-branch-4
columns-preserved-in-Continue-branch-4 c =
    subst (SoFar c.args.history.now c.args.outcomes.items (into_iter_items c.next.new.self)) (sym (ap (map layout_data) c.in_ok-push.ensures.items ∙ map_push layout_data c.columns.layouts.items c.in-Some-2.layout))
    (so_far_laid c.args.history.now c.args.outcomes.items (into_iter_items c.columns.outcome-iterator) (into_iter_items c.next.new.self) c.in-Some.outcome (map layout_data c.columns.layouts.items) c.columns.invariant c.in-Some.ensures.steps.0 c.in-Some-2.layout
    (subst (IsLaid c.args.history.now c.in-Some.outcome) c.in-Some-2.is c.in_ok-layout.ensures.laid))

pub columns-preserved : goal.columns-preserved
columns-preserved c =
    so_far_stopped c.args.history.now c.args.outcomes.items (into_iter_items c.columns.outcome-iterator) (into_iter_items c.next.new.self) c.in-Some.outcome (map layout_data c.columns.layouts.items) c.columns.invariant c.in-Some.ensures.steps.0
    (subst (IsLaid c.args.history.now c.in-Some.outcome) c.in_default.is c.in_ok-layout.ensures.laid)

pub returns-clause-laid : goal.returns-clause-laid
returns-clause-laid c =
    ended_laid c.args.history.now c.args.outcomes.items (into_iter_items c.columns.outcome-iterator) (map layout_data c.columns.layouts.items) c.columns.invariant (omega (arith, c.in-None.ensures.steps.0, c.columns.outcome-iterator.rest.ok.0)) c.requires.own

pub returns-clause-count : goal.returns-clause-count
returns-clause-count c =
    let n : length (map layout_data c.columns.layouts.items) ≡ length c.args.outcomes.items
    = ended_count c.args.history.now c.args.outcomes.items (into_iter_items c.columns.outcome-iterator) (map layout_data c.columns.layouts.items) c.columns.invariant (omega (arith, c.in-None.ensures.steps.0, c.columns.outcome-iterator.rest.ok.0)) c.requires.own in
    omega (arith, n, length-map c.columns.layouts.items layout_data, c.columns.layouts.ok.0, c.args.outcomes.ok.0)

pub returns-clause-all : goal.returns-clause-all
returns-clause-all c =
    ended_ok c.args.history.now c.args.outcomes.items (into_iter_items c.columns.outcome-iterator) (map layout_data c.columns.layouts.items) c.columns.invariant (omega (arith, c.in-None.ensures.steps.0, c.columns.outcome-iterator.rest.ok.0)) c.requires.own
