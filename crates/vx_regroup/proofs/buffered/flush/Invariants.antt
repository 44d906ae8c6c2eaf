use Rattle.std.proofs.Common.{◌≡◌, ◌++◌, length}
use Rattle.vx_rules.specs.Flushes.{flushed, still_held}
use Rattle.vx_regroup.specs.Kept.{chunks_in, BufferStands}
use Rattle.vx_regroup.proofs.buffered.flush.Given as goal

abbrev pub decreases-loop-total : goal.decreases-loop-total
decreases-loop-total l = length l.kept.items

abbrev pub invariant-loop-total : goal.invariant-loop-total
invariant-loop-total l = record {
  stands : BufferStands l.kept.items l.total;
  leaves : l.chunks.items ++ flushed l.size (chunks_in l.kept.items) ≡ flushed l.size (chunks_in l.fn.kept.items);
  holds : still_held l.size (chunks_in l.kept.items) ≡ still_held l.size (chunks_in l.fn.kept.items);
}
