use Rattle.vx_hash.proofs.Lanes.{stripe_of}
use Rattle.vx_hash.proofs.long.after_stripe.Goals as goal

pub returns : goal.returns
returns c =
    rw (c.half_products.ensures, c.key_words.ensures, c.words-own.ensures)
    (stripe_of c.args.lanes c.args.bytes.now c.args.at c.args.key c.fits-lanes.0)
