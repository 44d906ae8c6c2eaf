use Rattle.std.proofs.Common.{◌∙◌}
use Rattle.vx_bloom.proofs.Lanes.{covers_of}
use Rattle.vx_bloom.proofs.block.covers.Goals as goal

pub returns : goal.returns
returns c = c.are_same.ensures ∙ covers_of c.args.block c.args.bits c.fits-block.0 c.fits-bits.0
