use Rattle.std.proofs.Common.{arith}
use Rattle.vx_chunk_cells.proofs.RealSteps.{all_bytes}
use Rattle.vx_strings.specs.StringCells.{strings_between}
use Rattle.vx_strings.proofs.StringSteps.{all_strings, real_strings}
use Rattle.vx_strings.proofs.read.are_strings.Goals as goal

pub returns : goal.returns
returns c = record {
  strings = all_strings c.args.kind (strings_between c.args.bytes.now c.args.offsets.now) c.args.valid.now;
  real = real_strings c.args.kind c.args.bytes.now c.args.offsets.now c.args.valid.now c.requires.strings (all_bytes c.args.bytes.now (λ i. omega (arith, c.type_inv.bytes i))) (omega arith);
}
