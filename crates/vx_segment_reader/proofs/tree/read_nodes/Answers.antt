use Rattle.std.proofs.Common.{◌≡◌, ◌-◌, ◌++◌, ◌∷◌, [], length, map, arith}
use Rattle.std.proofs.lemmas.Result.{err_from_is_err_and}
use Rattle.std.proofs.lemmas.List.{map_push}
use Rattle.vx_segment_spec.specs.Reading.{nodes_at}
use Rattle.vx_segment_reader.specs.Views.{head}
use Rattle.vx_segment_reader.proofs.Loops.{nodes_go_on, nodes_end, nodes_done, nodes_short}
use Rattle.vx_segment_reader.proofs.tree.read_nodes.Goals as goal

pub returns-then-pending-eq0 : goal.returns-then-pending-eq0
returns-then-pending-eq0 c =
    nodes_done c.args.stop (map head c.loop.nodes.items) (length c.args.bytes.now - c.loop.counter) c.loop.pending c.loop.rest.now (nodes_at (length c.args.bytes.now) 1 c.args.stop c.args.bytes.now) (omega (arith, c.if-pending-eq0.true)) c.loop.invariant.read

pub returns-in_err-node : goal.returns-in_err-node
returns-in_err-node c =
    let p = err_from_is_err_and c.from_residual.result c.from_residual.ensures.1 in
    rw (p.1, p.2) (nodes_end c.in_err-node.field-0.0 c.args.stop (map head c.loop.nodes.items) (length c.args.bytes.now) c.loop.counter c.loop.pending c.loop.rest.now (nodes_at (length c.args.bytes.now) 1 c.args.stop c.args.bytes.now) c.loop-test.true (omega (arith, c.if-pending-eq0.false)) c.in_err-node.ensures c.loop.invariant.read)

pub loop-preserved : goal.loop-preserved
loop-preserved c =
    let e : map head c.push.new.self.items ≡ map head c.loop.nodes.items ++ head c.in_ok-node.node ∷ [] = rw c.in_ok-push.ensures.items (map_push _ c.loop.nodes.items c.in_ok-node.node) in
    record {
      read = rw e (nodes_go_on c.args.stop (map head c.loop.nodes.items) (length c.args.bytes.now) c.loop.counter c.loop.pending c.loop.rest.now (head c.in_ok-node.node) c.in_ok-node.after.now (nodes_at (length c.args.bytes.now) 1 c.args.stop c.args.bytes.now) c.loop-test.true (omega (arith, c.if-pending-eq0.false)) c.in_ok-node.ensures c.loop.invariant.read);
      bounded = omega (arith, c.loop.invariant.bounded, c.if-pending-eq0.false, c.read_node.type_inv);
    }

pub returns-then-pending-gt0 : goal.returns-then-pending-gt0
returns-then-pending-gt0 c =
    rw c.fault_at.ensures (nodes_short c.args.stop (map head c.loop.nodes.items) (length c.args.bytes.now) c.loop.counter c.loop.pending c.loop.rest.now (nodes_at (length c.args.bytes.now) 1 c.args.stop c.args.bytes.now) c.loop-test.false (omega (arith, c.if-pending-gt0.true)) c.loop.invariant.read)

pub returns : goal.returns
returns c =
    nodes_done c.args.stop (map head c.loop.nodes.items) (length c.args.bytes.now - c.loop.counter) c.loop.pending c.loop.rest.now (nodes_at (length c.args.bytes.now) 1 c.args.stop c.args.bytes.now) (omega (arith, c.if-pending-gt0.false)) c.loop.invariant.read
