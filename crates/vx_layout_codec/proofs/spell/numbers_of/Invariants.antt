use Rattle.std.proofs.Common.{◌≡◌, ◌<◌, ◌^◌, take, map}
use Rattle.std.specs.List.{AllByRecursion}
use Rattle.vx_layout_tree.specs.LayoutView.{number}
use Rattle.vx_layout_codec.proofs.spell.numbers_of.Given as goal

abbrev pub invariant-loop-segment : goal.invariant-loop-segment
invariant-loop-segment l = record {
  numbers : l.numbers.items ≡ map number (take l.segment-index l.segment_ids);
  fits : AllByRecursion (λ n. n < 2 ^ 32) l.numbers.items;
}
