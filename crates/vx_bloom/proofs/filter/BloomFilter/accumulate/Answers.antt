use Rattle.std.proofs.Common.{◌≡◌, map, ◌∙◌, arith}
use Rattle.std.proofs.lemmas.Grind.{common_steps}
use Rattle.vx_hash.specs.XxHash3.{xxhash3_64}
use Rattle.vx_model.specs.TyView.{ty}
use Rattle.vx_model.specs.TreeView.{val}
use Rattle.vx_bloom_spec.specs.Values.{value_hashes, all_inserted}
use Rattle.vx_bloom.proofs.ValueLaws.{all_inserted_of}
use Rattle.vx_bloom.proofs.filter.BloomFilter.accumulate.Goals as goal

pub returns-clause-filter : goal.returns-clause-filter
returns-clause-filter c = λ blocks hashes e.
    let hashed = value_hashes xxhash3_64 (ty c.args.dtype.now) (map val c.args.values.now) in
    let all : c.inserts.partial ≡ all_inserted c.args.partial.now hashed = grind (arith, common_steps) in
    all ∙ all_inserted_of c.args.partial.now blocks hashes hashed e
