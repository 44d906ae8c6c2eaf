use Rattle.std.proofs.Common.{arith}
use Rattle.vx_chunk_cells.proofs.RealSteps.{all_bytes}
use Rattle.vx_chunk_cells.proofs.real.real_bytes.Goals as goal

pub returns-clause-bytes : goal.returns-clause-bytes
returns-clause-bytes c = all_bytes c.args.bytes.now (λ i. omega (arith, c.type_inv.bytes i))
