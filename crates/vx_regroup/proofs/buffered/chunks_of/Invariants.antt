use Rattle.std.proofs.Common.{◌≡◌, ◌++◌}
use Rattle.std.specs.Vec.Iter.{into_iter_items}
use Rattle.vx_regroup.specs.Kept.{chunks_in}
use Rattle.vx_regroup.proofs.buffered.chunks_of.Given as goal

abbrev pub invariant-loop-one : goal.invariant-loop-one
invariant-loop-one l = l.chunks.items ++ chunks_in (into_iter_items l.one-iterator) ≡ chunks_in l.fn.kept.items
