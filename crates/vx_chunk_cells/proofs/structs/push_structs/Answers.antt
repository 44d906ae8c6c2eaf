use Rattle.std.proofs.Common.{ap, length, arith}
use Rattle.vx_chunk_cells.proofs.Steps.{structs_more}
use Rattle.vx_chunk_cells.proofs.structs.push_structs.Goals as goal

pub loop-row-preserved : goal.loop-row-preserved
loop-row-preserved c = record {
  count = omega (arith, ap length c.in-Some.ensures.steps.0);
  cells = rw c.in_ok-push.ensures.items (structs_more c.loop-row.out.items c.flag_at.result c.in-Some.row _ _ c.loop-row.i c.args.valid.now _ c.in-Some.ensures.steps.0 c.flag_at.ensures c.loop-row.invariant.cells);
}
