use Rattle.std.proofs.Common.{◌≡◌, ◌++◌}
use Rattle.std.specs.Vec.Iter.{into_iter_items}
use Rattle.vx_layout_spec.specs.Parts.{all_parts}
use Rattle.vx_chunk.proofs.concat.flatten.Given as goal

abbrev pub invariant-loop-part : goal.invariant-loop-part
invariant-loop-part l = l.flat.items ++ all_parts (into_iter_items l.part-iterator) ≡ all_parts l.fn.parts.items
