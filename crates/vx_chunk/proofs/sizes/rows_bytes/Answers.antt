use Rattle.vx_chunk.proofs.SizeLaws.{all_rows}
use Rattle.vx_chunk.proofs.sizes.rows_bytes.Goals as goal

pub returns : goal.returns
returns c = rw (← all_rows c.args.chunk.now c.len.result c.len.ensures.sound c.len.ensures.rows) c.span_bytes.ensures
