use Rattle.std.proofs.Common.{◌≡◌, ◌+◌, ◌<◌, ◌==◌, ◌++◌, length, Ok, arith, refl}
use Rattle.std.proofs.lemmas.Result.{err_from_is_err_and}
use Rattle.std.specs.Prelude.{codes, string_bytes}
use Rattle.vx_layout_spec.specs.LayoutTree.{children_of}
use Rattle.vx_layout_tree.specs.Children.{child_in}
use Rattle.vx_layout_tree.specs.LayoutView.{layout_data}
use Rattle.vx_display.specs.Text.{branch_to, trunk_by, label}
use Rattle.vx_display.specs.Views.{style, map_of}
use Rattle.vx_display.proofs.BuildSteps.{next_built}
use Rattle.vx_display.proofs.TreeSteps.{child_stops, below_stops, next_faults, next_lines}
use Rattle.vx_display.proofs.tree.+push_tree.Goals as goal

pub returns-in_err-child-clause-fault : goal.returns-in_err-child-clause-fault
returns-in_err-child-clause-fault t c =
    let p = err_from_is_err_and c.from_residual-in_err-child.result c.from_residual-in_err-child.ensures.1 in
    let lt : c.loop-i.i < length (children_of (layout_data c.args.layout.now)) = omega (arith, c.loop-i-test.true, c.nchildren-count.ensures) in
    rw (p.1, p.2) (child_stops (map_of c.args.style.now) (layout_data c.args.layout.now) c.loop-i.i _ lt c.loop-i.invariant.built c.in_err-child.ensures)

pub returns-in_err-pushed-clause-fault : goal.returns-in_err-pushed-clause-fault
returns-in_err-pushed-clause-fault t c =
    let p = err_from_is_err_and c.from_residual-in_err-pushed.result c.from_residual-in_err-pushed.ensures.1 in
    let lt : c.loop-i.i < length (children_of (layout_data c.args.layout.now)) = omega (arith, c.loop-i-test.true, c.nchildren-count.ensures) in
    let at : child_in (children_of (layout_data c.args.layout.now)) c.loop-i.i ≡ Ok (layout_data c.layout.result.now) = cc (c.in_ok-child.ensures, c.layout.ensures) in
    rw (p.1, p.2) (below_stops (map_of c.args.style.now) (layout_data c.args.layout.now) c.loop-i.i _ (layout_data c.layout.result.now) lt c.loop-i.invariant.fault c.loop-i.invariant.built at c.in_err-pushed.ensures.fault)

pub loop-i-preserved : goal.loop-i-preserved
loop-i-preserved t c =
    let lt : c.loop-i.i < length (children_of (layout_data c.args.layout.now)) = omega (arith, c.loop-i-test.true, c.nchildren-count.ensures) in
    let at : child_in (children_of (layout_data c.args.layout.now)) c.loop-i.i ≡ Ok (layout_data c.layout.result.now) = cc (c.in_ok-child.ensures, c.layout.ensures) in
    let last : (c.loop-i.i + 1 == c.nchildren-count.result) ≡ (c.loop-i.i + 1 == length (children_of (layout_data c.args.layout.now))) = rw c.nchildren-count.ensures refl in
    let before : c.deref.result.now ≡ c.args.rest.now ++ (branch_to (c.loop-i.i + 1 == c.nchildren-count.result) ++ (label (layout_data c.args.layout.now) c.loop-i.i ++ codes ": ")) = cc (c.deref.ensures, c.in_ok-first.ensures) in
    let trunk : c.deref-in-loop-i.result.now ≡ c.args.rest.now ++ trunk_by (c.loop-i.i + 1 == c.nchildren-count.result) = cc (c.deref-in-loop-i.ensures, c.in_ok-below.ensures) in
    record {
      text = next_lines (style c.args.style.now) c.args.rest.now c.deref.result.now c.deref-in-loop-i.result.now (string_bytes c.loop-i.out) (string_bytes c.push_tree-pushed.new.out) _ (layout_data c.args.layout.now) c.loop-i.i (layout_data c.layout.result.now) _ lt at last before trunk c.in_ok-pushed.ensures.text c.loop-i.invariant.text;
      fault = next_faults (map_of c.args.style.now) (layout_data c.args.layout.now) c.loop-i.i (layout_data c.layout.result.now) lt c.loop-i.invariant.fault at c.in_ok-pushed.ensures.fault.0;
      built = next_built (layout_data c.args.layout.now) c.loop-i.i (layout_data c.layout.result.now) _ lt c.loop-i.invariant.built at c.in_ok-pushed.ensures.fault.1;
    }
