use Rattle.vx_hash.proofs.Lanes.{scrambled_of}
use Rattle.vx_hash.proofs.long.scrambled.Goals as goal

pub returns : goal.returns
returns c = rw c.key_words.ensures (scrambled_of c.args.lanes c.fits-lanes.0)
