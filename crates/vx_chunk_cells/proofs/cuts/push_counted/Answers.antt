use Rattle.std.proofs.Common.{arith}
use Rattle.vx_model.specs.Words.{head_or}
use Rattle.vx_chunk_cells.specs.Window.{last_of}
use Rattle.vx_chunk_cells.proofs.ListSteps.{first_is, from_first, to_last}
use Rattle.vx_chunk_cells.proofs.cuts.push_counted.Goals as goal

pub overflow_sub-offsets : goal.overflow_sub-offsets
overflow_sub-offsets c =
    let os = c.args.offsets.now in
    rw (first_is os) (from_first (head_or 0 os) (last_of os) os c.loop-i.i c.requires.ascend (omega arith))

pub overflow_add-base : goal.overflow_add-base
overflow_add-base c =
    let os = c.args.offsets.now in
    rw (first_is os) (omega (arith, to_last (head_or 0 os) (last_of os) os c.loop-i.i c.requires.ascend (omega arith), c.requires.room))
