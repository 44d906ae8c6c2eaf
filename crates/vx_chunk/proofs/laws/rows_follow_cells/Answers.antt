use Rattle.std.proofs.Common.{refl}
use Rattle.vx_chunk.proofs.Joined.{rows_cut, rows_joined, rows_count}
use Rattle.vx_chunk.proofs.laws.rows_follow_cells.Goals as goal

pub returns-clause-slice : goal.returns-clause-slice
returns-clause-slice c = rows_cut

pub returns-clause-joined : goal.returns-clause-joined
returns-clause-joined c = rows_joined

pub returns-clause-plain : goal.returns-clause-plain
returns-clause-plain c = λ p. refl

pub returns-clause-count : goal.returns-clause-count
returns-clause-count c = rows_count
