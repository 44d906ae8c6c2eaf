use Rattle.std.proofs.Common.{◌≡◌, ◌<◌, ◌≤◌, [], ◌∷◌, ◌++◌, length, map, Ok, arith}
use Rattle.std.proofs.lemmas.List.{map_push}
use Rattle.std.proofs.lemmas.Result.{err_from_is_err_and}
use Rattle.vx_layout_spec.specs.LayoutTree.{children_of}
use Rattle.vx_layout_bytes.specs.Views.{raw}
use Rattle.vx_layout_tree.specs.Children.{child_in}
use Rattle.vx_layout_tree.specs.LayoutView.{layout_data}
use Rattle.vx_layout_codec.proofs.FitSteps.{all_fit_more}
use Rattle.vx_layout_codec.proofs.WalkSteps.{child_fails, below_fails, next_built, next_node, whole_node}
use Rattle.vx_layout_codec.proofs.spell.+node_of.Goals as goal

pub returns-in_err-child-clause-node : goal.returns-in_err-child-clause-node
returns-in_err-child-clause-node t c =
    let p = err_from_is_err_and c.from_residual.result c.from_residual.ensures.1 in
    let lt : c.loop-i.i < length (children_of (layout_data c.args.layout.now)) = omega (arith, c.loop-i-test.true, c.nchildren-i-end.ensures) in
    rw (p.1, p.2) (child_fails (layout_data c.args.layout.now) c.loop-i.i _ _ lt c.loop-i.invariant.built c.in_err-child.ensures)

pub returns-in_err-node-clause-node : goal.returns-in_err-node-clause-node
returns-in_err-node-clause-node t c =
    let p = err_from_is_err_and c.from_residual-in_err-node.result c.from_residual-in_err-node.ensures.1 in
    let lt : c.loop-i.i < length (children_of (layout_data c.args.layout.now)) = omega (arith, c.loop-i-test.true, c.nchildren-i-end.ensures) in
    let at : child_in (children_of (layout_data c.args.layout.now)) c.loop-i.i ≡ Ok (layout_data c.layout.result.now) = cc (c.in_ok-child.ensures, c.layout.ensures) in
    rw (p.1, p.2) (below_fails (layout_data c.args.layout.now) c.loop-i.i _ (layout_data c.layout.result.now) _ _ lt c.loop-i.invariant.built at c.in_err-node.ensures.node)

pub loop-i-preserved : goal.loop-i-preserved
loop-i-preserved t c =
    let lt : c.loop-i.i < length (children_of (layout_data c.args.layout.now)) = omega (arith, c.loop-i-test.true, c.nchildren-i-end.ensures) in
    let at : child_in (children_of (layout_data c.args.layout.now)) c.loop-i.i ≡ Ok (layout_data c.layout.result.now) = cc (c.in_ok-child.ensures, c.layout.ensures) in
    let more : map raw c.push.new.self.items ≡ map raw c.loop-i.children.items ++ (raw c.in_ok-node.field-0 ∷ []) = rw c.in_ok-push.ensures.items (map_push _ _ _) in
    record {
      built = next_built (layout_data c.args.layout.now) c.loop-i.i (layout_data c.layout.result.now) _ _ lt c.loop-i.invariant.built at c.in_ok-node.ensures.node;
      nodes = next_node c.args.ctx.now (layout_data c.args.layout.now) c.loop-i.i (layout_data c.layout.result.now) (map raw c.loop-i.children.items) _ (raw c.in_ok-node.field-0) _ lt at c.in_ok-node.ensures.node (rw c.in_ok-push.ensures.items (map_push _ _ _)) c.loop-i.invariant.nodes;
      fits = rw more (all_fit_more (map raw c.loop-i.children.items) (raw c.in_ok-node.field-0) c.loop-i.invariant.fits c.in_ok-node.ensures.fits);
    }

pub returns-clause-node : goal.returns-clause-node
returns-clause-node t c =
    let le : length (children_of (layout_data c.args.layout.now)) ≤ c.loop-i.i = omega (arith, c.loop-i-test.false, c.nchildren-i-end.ensures) in
    whole_node c.args.ctx.now (layout_data c.args.layout.now) c.loop-i.i (map raw c.loop-i.children.items) _ le c.loop-i.invariant.built c.loop-i.invariant.nodes c.in_ok-own_node.ensures.node

pub returns-clause-fits : goal.returns-clause-fits
returns-clause-fits t c = c.in_ok-own_node.ensures.fits c.loop-i.invariant.fits
