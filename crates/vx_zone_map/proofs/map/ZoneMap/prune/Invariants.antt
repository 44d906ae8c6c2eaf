use Rattle.std.proofs.Common.{◌≡◌, ◌++◌, drop}
use Rattle.vx_hash.specs.XxHash3.{xxhash3_64}
use Rattle.vx_zone_spec.specs.ZoneMap.{skips, skips_from}
use Rattle.vx_zone_map.specs.PredicateView.{predicate_data}
use Rattle.vx_zone_map.specs.MapView.{zone_map}
use Rattle.vx_zone_map.proofs.map.ZoneMap.prune.Given as goal

abbrev pub invariant-loop-place : goal.invariant-loop-place
invariant-loop-place l =
    l.skips.items ++ skips_from xxhash3_64 (zone_map l.self) (predicate_data l.predicate) l.place (drop l.place (zone_map l.self).zones) ≡ skips xxhash3_64 (zone_map l.self) (predicate_data l.predicate)
