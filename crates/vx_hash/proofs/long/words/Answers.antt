use Rattle.std.proofs.Common.{w8}
use lib.Lanes.{chunk}
use Rattle.std.proofs.lemmas.Simd.{chunk-fits, below_from_Fits}
use Rattle.vx_hash.proofs.Lanes.{words_read}
use Rattle.vx_hash.proofs.long.words.Goals as goal

pub returns : goal.returns
returns c =
    let stripe = chunk c.args.at 64 c.args.bytes.now in
    words_read c.args.bytes.now c.args.at (below_from_Fits w8 stripe (chunk-fits w8 c.args.at 64 c.args.bytes.now c.type_inv.bytes)) c.requires
