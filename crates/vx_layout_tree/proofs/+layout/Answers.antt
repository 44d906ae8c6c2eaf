use Rattle.std.proofs.Common.{rules}
use Rattle.vx_layout_tree.proofs.Sizes.{sizes_fall}
use Rattle.vx_layout_tree.proofs.+layout.Goals as goal

pub children::LayoutChildren::drop-drop-requires : goal.children::LayoutChildren::drop-drop-requires
children::LayoutChildren::drop-drop-requires t c κs = (((sizes_fall c.in-Owned.layouts t (rw c.in-Owned.is at c.decreases), tt), tt), search rules)
