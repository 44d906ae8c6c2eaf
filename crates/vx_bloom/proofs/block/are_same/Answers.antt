use Rattle.vx_bloom.proofs.Lanes.{are_same_of}
use Rattle.vx_bloom.proofs.block.are_same.Goals as goal

pub returns : goal.returns
returns c = are_same_of c.args.a c.args.b c.fits-a.0 c.fits-b.0
