use Rattle.vx_chunk.proofs.Sound.{dict_sound}
use Rattle.vx_chunk.proofs.node.Chunk.dict.Goals as goal

pub invariant_of-result : goal.invariant_of-result
invariant_of-result c = rw (c.in-Ok.ensures.ok, c.in_ok-values-in-Ok.ensures.ok) (dict_sound c.args.codes c.args.values c.sound.ensures c.sound-2.ensures c.requires)
