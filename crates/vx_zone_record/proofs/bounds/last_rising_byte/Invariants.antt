use Rattle.std.proofs.Common.{◌≡◌, ◌≤◌, suc, length, take}
use Rattle.vx_zone_spec.specs.Bounds.{byte_rises, raised_last}
use Rattle.vx_zone_record.proofs.bounds.last_rising_byte.Given as goal

abbrev pub invariant-loop-end : goal.invariant-loop-end
invariant-loop-end l = record {
  within : l.end ≤ length l.bytes;
  same : raised_last byte_rises suc (take l.end l.bytes) ≡ raised_last byte_rises suc l.bytes;
}

abbrev pub decreases-loop-end : goal.decreases-loop-end
decreases-loop-end l = l.end
