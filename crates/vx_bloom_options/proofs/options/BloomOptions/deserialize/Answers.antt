use Rattle.std.proofs.Common.{◌∙◌, rules, arith}
use Rattle.vx_bloom_options.specs.Options.{hash_fn_in}
use Rattle.vx_bloom_options.proofs.ReadOptions.{hash_number_zero, reads_options, same_read}
use Rattle.vx_bloom_options.proofs.options.BloomOptions.deserialize.Goals as goal

pub returns-then-bytes-ne8-clause-whole : goal.returns-then-bytes-ne8-clause-whole
returns-then-bytes-ne8-clause-whole c = λ o low e.
    absurd (c.if-bytes-ne8.true ((reads_options c.args.bytes.now o low e).len))

pub returns-in_default-clause-whole : goal.returns-in_default-clause-whole
returns-in_default-clause-whole c = λ o low e.
    absurd (c.in_default.ensures.0 (c.number_at-number.ensures
    ∙ (reads_options c.args.bytes.now o low e).second ∙ hash_number_zero (hash_fn_in o)))

pub returns-in_default-new-clause-whole : goal.returns-in_default-new-clause-whole
returns-in_default-new-clause-whole c = λ o low e.
    absurd (omega (arith, o.blocks.ok, c.in_default-new.ensures, c.number_at.ensures, (reads_options c.args.bytes.now o low e).first))

pub returns-clause-whole : goal.returns-clause-whole
returns-clause-whole c = λ o low e.
    same_read c.args.bytes.now o (record { blocks = c.in-Some.blocks; hash_fn = c.in-Ok.hash_fn })
    (reads_options c.args.bytes.now o low e) (search rules) (search rules)
