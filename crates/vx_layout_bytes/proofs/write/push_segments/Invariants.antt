use Rattle.std.proofs.Common.{◌≡◌, ◌++◌, drop}
use Rattle.vx_model.specs.Words.{joined_by}
use Rattle.vx_layout_bytes.specs.Spelled.{u32_bytes, segment_bytes}
use Rattle.vx_layout_bytes.proofs.write.push_segments.Given as goal

abbrev pub invariant-loop-segment : goal.invariant-loop-segment
invariant-loop-segment l = l.out.items ++ joined_by u32_bytes (drop l.segment-index l.segments) ≡ l.fn.out.items ++ segment_bytes l.segments
