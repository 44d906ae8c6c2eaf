use Rattle.std.proofs.Common.{◌≡◌, ◌+◌, ◌*◌, ◌≤◌, length, take, drop, map}
use Rattle.std.specs.Vec.{vec_len, vec_capacity}
use Rattle.vx_layout_spec.specs.LayoutTree.{lays_of, lays_in}
use Rattle.vx_layout_segments.specs.Segments.{all_segments}
use Rattle.vx_layout_segments.specs.InTurn.{each_in_turn}
use Rattle.vx_layout_tree.specs.LayDepth.{depth, depths}
use Rattle.vx_layout_tree.specs.LayoutView.{layout_data, number}
use Rattle.vx_renumber.proofs.numbering.+renumbering.Given as goal

abbrev pub decreases-numbered : goal.decreases-numbered
decreases-numbered l = 2 * depth (layout_data l.layout.now) + 1

abbrev pub decreases-all : goal.decreases-all
decreases-all l = 2 * depths (lays_of (map layout_data l.layouts.now))

abbrev pub invariant-all-loop-layout : goal.invariant-all-loop-layout
invariant-all-loop-layout l =
    (map layout_data l.copies.items ≡ lays_in (each_in_turn (drop l.fn.next (map number l.numbers)) (lays_of (map layout_data (take l.layout-index l.layouts)))))
    × (l.next ≡ l.fn.next + length (all_segments (lays_of (map layout_data (take l.layout-index l.layouts))))) × (vec_len l.copies ≡ l.layout-index)
    × (length l.layouts ≤ vec_capacity l.copies)
