use Rattle.std.proofs.Common.{sym, ◌∙◌}
use Rattle.vx_bloom_spec.proofs.ReadBack.{same_filter_bytes}
use Rattle.vx_bloom.proofs.partial.BloomPartial.deserialize.Goals as goal

pub returns-clause-whole : goal.returns-clause-whole
returns-clause-whole g c = λ p are e.
    same_filter_bytes c.in_ok-blocks.blocks.items p c.in_ok-blocks.ensures.sound are (c.in_ok-blocks.ensures.bytes ∙ sym e)
