use Rattle.std.proofs.Common.{◌≡◌, ◌++◌, drop}
use Rattle.std.specs.Prelude.{string_bytes}
use Rattle.vx_layout_spec.specs.LayoutTree.{lays_of, children_of}
use Rattle.vx_layout_tree.specs.LayoutView.{layout_data}
use Rattle.vx_layout_tree.specs.LayDepth.{depth}
use Rattle.vx_layout_codec_spec.specs.Permitted.{built, all_built}
use Rattle.vx_display.specs.Lengths.{first_fault, first_below}
use Rattle.vx_display.specs.Text.{tree_text, children_lines}
use Rattle.vx_display.specs.Views.{style, map_of}
use Rattle.vx_display.proofs.tree.+push_tree.Given as goal

abbrev pub decreases-push_tree : goal.decreases-push_tree
decreases-push_tree l = depth (layout_data l.layout.now)

abbrev pub invariant-loop-i : goal.invariant-loop-i
invariant-loop-i l = record {
  text : string_bytes l.out ++ children_lines (style l.style) l.rest (layout_data l.layout) l.i (lays_of (drop l.i (children_of (layout_data l.layout)))) ≡ string_bytes l.fn.out ++ tree_text (style l.style) l.fn.first l.rest (layout_data l.layout);
  fault : first_fault (map_of l.style) (layout_data l.layout) ≡ first_below (map_of l.style) (lays_of (drop l.i (children_of (layout_data l.layout))));
  built : built (layout_data l.layout) ≡ all_built (lays_of (drop l.i (children_of (layout_data l.layout))));
}
