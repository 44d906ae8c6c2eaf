use Rattle.vx_chunk.proofs.Joined.{held_sum, row_sum, slice_sum}
use Rattle.vx_chunk.proofs.laws.sizes_add_up.Goals as goal

pub returns-clause-held : goal.returns-clause-held
returns-clause-held c = λ t ps. held_sum ps

pub returns-clause-rows : goal.returns-clause-rows
returns-clause-rows c = row_sum

pub returns-clause-slices : goal.returns-clause-slices
returns-clause-slices c = slice_sum
