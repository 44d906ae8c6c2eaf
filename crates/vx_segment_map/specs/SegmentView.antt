-- Segments by their numbers.
use Rattle.std.specs.Prelude.{ℕ, ◌-◌, nat_lt, if◌then◌else◌, List, Option, None, slice_get}
use Rattle.vx_segment_map.specs.declared.segments.SegmentMap.{SegmentMap}

-- the bytes of segment n, where the map has it
abbrev pub segment_in : SegmentMap → ℕ → Option (List ℕ)
segment_in m n = if nat_lt n m.first then None else slice_get m.list.items (n - m.first)
