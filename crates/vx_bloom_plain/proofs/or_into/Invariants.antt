use Rattle.vx_bloom_spec.proofs.Places.{Laid}
use Rattle.vx_bloom_plain.proofs.or_into.Given as goal

abbrev pub invariant-places : goal.invariant-places
invariant-places l = Laid l.fn.blocks.items l.others l.blocks.items l.place
