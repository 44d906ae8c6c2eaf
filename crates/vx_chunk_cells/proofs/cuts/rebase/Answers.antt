use Rattle.vx_model.specs.Words.{head_or}
use Rattle.vx_chunk_cells.specs.Window.{last_of}
use Rattle.vx_chunk_cells.proofs.ListSteps.{first_is, from_first}
use Rattle.vx_chunk_cells.proofs.cuts.rebase.Goals as goal

pub overflow_sub-offset : goal.overflow_sub-offset
overflow_sub-offset c =
    let os = c.args.offsets.now in
    rw (first_is os) (from_first (head_or 0 os) (last_of os) os c.loop-offset.offset-index c.requires c.loop-offset-test.true)
