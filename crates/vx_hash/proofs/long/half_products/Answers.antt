use Rattle.vx_hash.proofs.Lanes.{half_products_of}
use Rattle.vx_hash.proofs.long.half_products.Goals as goal

pub returns : goal.returns
returns c = half_products_of 8 c.args.x c.fits-x.0 c.fits-x.1
