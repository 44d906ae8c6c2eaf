use Rattle.std.proofs.Common.{◌≡◌, length, rules}
use Rattle.vx_bloom_spec.proofs.Filters.{same_count}
use Rattle.vx_bloom.proofs.partial.BloomPartial.union.Goals as goal

pub returns-then-len-clause-filter : goal.returns-then-len-clause-filter
returns-then-len-clause-filter g c = λ blocks xs ys e e'.
    let same : length c.args.self.now ≡ length c.args.other.now = same_count c.args.self.now c.args.other.now blocks xs ys e e' in
    absurd (c.if-len.true (search (rules, same)))
