use Rattle.std.proofs.Common.{◌∙◌, sym}
use Rattle.vx_bloom_spec.proofs.ReadBack.{count_of}
use Rattle.vx_bloom.proofs.ValueLaws.{val_binary}
use Rattle.vx_bloom.proofs.filter.BloomFilter.partial_from_scalar.Goals as goal

pub returns-then-block_count-get-clause-answer : goal.returns-then-block_count-get-clause-answer
returns-then-block_count-get-clause-answer c =
    let read = c.in_ok-partial-in-Binary.ensures.answer in
    let count = count_of c.in_ok-partial-in-Binary.partial c.as_slice.result.now read.1 read.0 in
    rw (c.in-Binary.is, val_binary, ← c.as_slice.ensures)
    (read.2, λ e. c.if-block_count-get.true (c.block_count.ensures ∙ sym count ∙ e ∙ sym c.blocks_count.ensures ∙ sym c.get.ensures.value))
