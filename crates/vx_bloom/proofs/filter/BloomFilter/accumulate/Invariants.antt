use Rattle.std.proofs.Common.{◌≡◌, map, drop}
use Rattle.vx_hash.specs.XxHash3.{xxhash3_64}
use Rattle.vx_model.specs.TyView.{ty}
use Rattle.vx_model.specs.TreeView.{val}
use Rattle.vx_bloom_spec.specs.Values.{any_unsupported, value_hashes, all_inserted}
use Rattle.vx_bloom.proofs.filter.BloomFilter.accumulate.Given as goal

abbrev pub invariant-tests : goal.invariant-tests
invariant-tests l = any_unsupported (ty l.dtype) (map val (drop l.value-index l.values)) ≡ any_unsupported (ty l.dtype) (map val l.values)

abbrev pub invariant-inserts : goal.invariant-inserts
invariant-inserts l =
    all_inserted l.partial (value_hashes xxhash3_64 (ty l.dtype) (map val (drop l.value-index l.values)))
    ≡ all_inserted l.fn.partial (value_hashes xxhash3_64 (ty l.dtype) (map val l.values))
