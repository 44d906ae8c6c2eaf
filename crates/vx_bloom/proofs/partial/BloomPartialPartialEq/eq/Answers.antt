use Rattle.std.proofs.Common.{rules}
use Rattle.vx_bloom_spec.proofs.Filters.{told_same, same_of}
use Rattle.vx_bloom.proofs.partial.BloomPartialPartialEq.eq.Goals as goal

pub returns-clause-same : goal.returns-clause-same
returns-clause-same g c = told_same c.args.self.now c.args.other.now c.eq.result (search rules)

pub returns-clause-inserted : goal.returns-clause-inserted
returns-clause-inserted g c = λ blocks xs ys e e' same.
    (told_same c.args.self.now c.args.other.now c.eq.result (search rules)).1
    (same_of c.args.self.now c.args.other.now blocks xs ys e e' same)
