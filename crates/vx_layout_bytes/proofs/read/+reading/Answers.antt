use Rattle.std.proofs.Common.{◌≡◌, ◌++◌, ◌∷◌, [], map, arith}
use Rattle.std.proofs.lemmas.Result.{err_from_is_err_and}
use Rattle.std.proofs.lemmas.List.{map_push}
use Rattle.vx_layout_bytes.specs.Node.{nodes_of}
use Rattle.vx_layout_bytes.specs.Reading.{node_at, many_nodes}
use Rattle.vx_layout_bytes.specs.Views.{own, raw}
use Rattle.vx_layout_bytes.proofs.Loops.{node_done, nodes_go_on, nodes_end, nodes_done}
use Rattle.vx_layout_bytes.proofs.read.+reading.Goals as goal

pub node_at-returns : goal.node_at-returns
node_at-returns t c =
    rw c.with_children.ensures (node_done c.args.depth c.args.stop c.args.left c.args.bytes.now (own c.in_ok-own.own) c.in_ok-own.count c.own_at.new.bytes (nodes_of (map raw c.in_ok-children.children.items)) c.in_ok-children.left c.nodes_at.new.bytes
    (omega (arith, c.if-depth-eq0.false)) (omega (arith, c.if-left-eq0.false)) c.in_ok-own.ensures c.in_ok-children.ensures)

pub nodes_at-returns-in_err-node : goal.nodes_at-returns-in_err-node
nodes_at-returns-in_err-node t c =
    let p = err_from_is_err_and c.from_residual.result c.from_residual.ensures.1 in
    rw (p.1, p.2) (nodes_end c.in_err-node.field-0.0 (node_at c.args.depth c.args.stop) (map raw c.loop.nodes.items) c.args.count c.loop.counter c.loop.left c.loop.bytes (many_nodes (node_at c.args.depth c.args.stop) c.args.count c.args.left c.args.bytes.now) c.loop-test.true c.in_err-node.ensures c.loop.invariant)

pub nodes_at-loop-preserved : goal.nodes_at-loop-preserved
nodes_at-loop-preserved t c =
    let e : map raw c.push.new.self.items ≡ map raw c.loop.nodes.items ++ raw c.in_ok-node.node ∷ [] = rw c.in_ok-push.ensures.items (map_push _ c.loop.nodes.items c.in_ok-node.node) in
    rw e (nodes_go_on (node_at c.args.depth c.args.stop) (map raw c.loop.nodes.items) c.args.count c.loop.counter c.loop.left c.loop.bytes (raw c.in_ok-node.node) c.in_ok-node.fewer c.node_at.new.bytes (many_nodes (node_at c.args.depth c.args.stop) c.args.count c.args.left c.args.bytes.now) c.loop-test.true c.in_ok-node.ensures c.loop.invariant)

pub nodes_at-returns : goal.nodes_at-returns
nodes_at-returns t c = nodes_done (node_at c.args.depth c.args.stop) (map raw c.loop.nodes.items) c.args.count c.loop.counter c.loop.left c.loop.bytes (many_nodes (node_at c.args.depth c.args.stop) c.args.count c.args.left c.args.bytes.now) c.loop-test.false c.loop.invariant
