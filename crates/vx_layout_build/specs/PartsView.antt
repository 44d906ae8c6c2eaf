-- Parts as contracts see them.
use Rattle.std.specs.Prelude.{ℕ, map}
use Rattle.vx_model.specs.Ty.{Ty}
use Rattle.vx_model.specs.TyView.{ty}
use Rattle.vx_layout_bytes.specs.Node.{nodes_of, own_of}
use Rattle.vx_layout_bytes.specs.Values.{depth, depths}
use Rattle.vx_layout_bytes.specs.Views.{seen_node, seen_nodes}
use Rattle.vx_session.specs.Views.{scope_of}
use Rattle.vx_session.specs.Made.{Made, ChildData}
use Rattle.vx_session.specs.Kinds.{Parts}
use Rattle.vx_session.specs.Builder.{kid_of, builder}
use Rattle.vx_layout_tree.specs.declared.children.LayoutChildren.{LayoutChildren}
use Rattle.vx_layout_tree.specs.declared.children.LayoutChildren.TheVariants as children
use Rattle.vx_layout_tree.specs.declared.parts.LayoutParts.{LayoutParts}
use Rattle.vx_layout_build.specs.declared.one_child.OneChild.{OneChild}
use Rattle.vx_layout_build.specs.declared.one_child.OneChild.TheVariants as ones
use Rattle.vx_layout_tree.specs.LayoutView.{layout_data, number}
use Rattle.vx_layout_tree.specs.KidsView.{owned_kid, layout_kids}

abbrev pub parts_of : LayoutParts → Parts
parts_of p = record { dtype = ty p.dtype; rows = p.row_count; segments = map number p.segment_ids.items; kids = layout_kids p.children }

abbrev pub one_kid : OneChild → ChildData
one_kid (ones.Kept l) = owned_kid (layout_data l)
one_kid (ones.Node scope n) = kid_of (scope_of scope.value) (own_of (seen_node n)) (builder (scope_of scope.value) (seen_node n))

-- what the child is at a type
unfoldable pub one_built : OneChild → Ty → Made
one_built (ones.Kept l) t = (owned_kid (layout_data l)).build t
one_built (ones.Node scope n) t = builder (scope_of scope.value) (seen_node n) t

-- how deep the nodes are that are still to be built
abbrev pub one_depth : OneChild → ℕ
one_depth (ones.Kept l) = 0
one_depth (ones.Node scope n) = depth (seen_node n)

abbrev pub children_depth : LayoutChildren → ℕ
children_depth (children.Owned v) = 0
children_depth (children.Viewed v) = depths (nodes_of (seen_nodes v.nodes))
