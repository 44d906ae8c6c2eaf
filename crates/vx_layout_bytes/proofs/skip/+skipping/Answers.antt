use Rattle.std.proofs.lemmas.Result.{err_from_is_err_and}
use Rattle.vx_layout_bytes.specs.Reading.{node_at, many_nodes}
use Rattle.vx_layout_bytes.specs.There.{behind}
use Rattle.vx_layout_bytes.proofs.Skips.{skip_goes_on, skip_ends, skip_done}
use Rattle.vx_layout_bytes.proofs.skip.+skipping.Goals as goal

pub skip_nodes-returns-in_err-fewer : goal.skip_nodes-returns-in_err-fewer
skip_nodes-returns-in_err-fewer t c =
    let p = err_from_is_err_and c.from_residual.result c.from_residual.ensures.1 in
    rw (p.1, p.2) (skip_ends c.in_err-fewer.field-0.0 (node_at c.args.depth c.args.stop) c.args.count c.loop.counter c.loop.left c.loop.bytes (behind (many_nodes (node_at c.args.depth c.args.stop) c.args.count c.args.left c.args.bytes.now)) c.loop-test.true c.in_err-fewer.ensures c.loop.invariant)

pub skip_nodes-loop-preserved : goal.skip_nodes-loop-preserved
skip_nodes-loop-preserved t c =
    skip_goes_on (node_at c.args.depth c.args.stop) c.args.count c.loop.counter c.loop.left c.loop.bytes c.in_ok-fewer.fewer c.skip_node.new.bytes (behind (many_nodes (node_at c.args.depth c.args.stop) c.args.count c.args.left c.args.bytes.now)) c.loop-test.true c.in_ok-fewer.ensures c.loop.invariant

pub skip_nodes-returns : goal.skip_nodes-returns
skip_nodes-returns t c = skip_done (node_at c.args.depth c.args.stop) c.args.count c.loop.counter c.loop.left c.loop.bytes (behind (many_nodes (node_at c.args.depth c.args.stop) c.args.count c.args.left c.args.bytes.now)) c.loop-test.false c.loop.invariant
