use Rattle.vx_bloom.proofs.Lanes.{or_lanes_of}
use Rattle.vx_bloom.proofs.block.or_lanes.Goals as goal

pub returns : goal.returns
returns c = or_lanes_of c.args.a c.args.b c.fits-a.0 c.fits-b.0
