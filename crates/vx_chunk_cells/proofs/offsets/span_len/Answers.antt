use Rattle.std.proofs.Common.{◌-◌, length, arith}
use Rattle.vx_model.specs.Words.{head_or}
use Rattle.vx_chunk_cells.specs.Window.{last_of}
use Rattle.vx_chunk_cells.proofs.ListSteps.{first_is, from_first, last_at}
use Rattle.vx_chunk_cells.proofs.offsets.span_len.Goals as goal

pub overflow_sub-places-2 : goal.overflow_sub-places-2
overflow_sub-places-2 c =
    let os = c.args.places.now in
    rw (first_is os) (from_first (head_or 0 os) (last_of os) os (length os - 1) c.requires.ascend (omega (arith, c.requires.some)))

pub returns-clause-span : goal.returns-clause-span
returns-clause-span c = rw (first_is c.args.places.now, last_at c.args.places.now c.requires.some) at c.from.ensures
