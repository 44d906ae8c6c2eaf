use Rattle.std.proofs.Common.{◌≡◌, ◌++◌, length, map, reverse, sym, ap, ◌∙◌, arith}
use Rattle.std.specs.Vec.Iter.{into_iter_items}
use Rattle.vx_model.specs.TyView.{ty}
use Rattle.vx_layout_tree.specs.LayoutView.{layout_data}
use Rattle.vx_machine_state.specs.Coding.{runs_laid}
use Rattle.vx_machine_node.proofs.ListParts.{none_is}
use Rattle.vx_machine_acts.proofs.RunJoins.{none_laid, run_laid, all_laid, no_codes, no_values}
use Rattle.vx_machine_acts.proofs.dict_join.run_layouts.Goals as goal

pub runs-init : goal.runs-init
runs-init c =
    let same : into_iter_items c.into_iter-count-iterator.result ≡ c.args.rows.items = c.into_iter-count-iterator.ensures.into_iter_gives.0 in
    record {
      seen = ap (λ z. map layout_data c.in_ok-runs.runs.items ++ runs_laid (ty c.args.dtype.now) z (map layout_data (reverse c.in_order-layouts.result.items))) same
          ∙ none_laid (ty c.args.dtype.now) c.args.rows.items c.in_ok-runs.runs.items c.args.layouts.items c.in_order-layouts.result.items c.in_ok-runs.ensures.items c.in_order-layouts.ensures.items;
    }

pub runs-preserved : goal.runs-preserved
runs-preserved c = record {
  seen = run_laid (ty c.args.dtype.now) (into_iter_items c.runs.count-iterator) (into_iter_items c.next.new.self) c.in-Some.count c.runs.layouts.items c.pop.new.self.items c.pop-in-runs.new.self.items c.runs.runs.items c.push.new.self.items
      c.in-Some-pop.codes c.in-Some-pop-2.values c.in_ok-run_layout.field-0 _ c.in-Some.ensures.steps.0 c.in-Some-pop.ensures.items c.in-Some-pop-2.ensures.items c.in_ok-push.ensures.items c.in_ok-run_layout.ensures c.runs.invariant.seen;
}

-- no codes are left, or no values
pub returns-in_default : goal.returns-in_default
returns-in_default c =
    no_codes (ty c.args.dtype.now) (into_iter_items c.runs.count-iterator) c.runs.layouts.items c.runs.runs.items _ (none_is c.runs.layouts.items (sym c.runs.layouts.ok.0 ∙ c.in_default.ensures.cases.0)) c.runs.invariant.seen

pub returns-in_default-pop : goal.returns-in_default-pop
returns-in_default-pop c =
    no_values (ty c.args.dtype.now) (into_iter_items c.runs.count-iterator) c.runs.layouts.items c.pop.new.self.items c.runs.runs.items c.in-Some-pop.codes _ c.in-Some-pop.ensures.items
    (none_is c.pop.new.self.items (sym c.pop.new.self.ok.0 ∙ c.in_default-pop.ensures.cases.0)) c.runs.invariant.seen

pub returns : goal.returns
returns c =
    let none : length (into_iter_items c.runs.count-iterator) ≡ 0 = omega (arith, c.in-None.ensures.steps.0, c.runs.count-iterator.rest.ok.0) in
    all_laid (ty c.args.dtype.now) (into_iter_items c.runs.count-iterator) c.runs.layouts.items c.runs.runs.items _ (none_is (into_iter_items c.runs.count-iterator) none) c.runs.invariant.seen
