use Rattle.std.proofs.Common.{◌<◌, ◌∙◌, length, map, arith}
use Rattle.std.proofs.lemmas.List.{length-map}
use Rattle.vx_layout_bytes.specs.There.{node_there}
use Rattle.vx_layout_bytes.specs.Views.{seen_nodes}
use Rattle.vx_session.specs.Views.{scope_of}
use Rattle.vx_layout_tree.specs.LayoutView.{layout_data}
use Rattle.vx_layout_tree.proofs.KidSteps.{length-owned, length-kids}
use Rattle.vx_layout_build.proofs.ChildSteps.{kept_flat, node_flat}
use Rattle.vx_layout_build.proofs.child_at.LayoutChildrenLayoutChildrenWalk.child_is_indivisible.Goals as goal

pub returns-in-Owned : goal.returns-in-Owned
returns-in-Owned c =
    let ls = c.in-Owned.layouts.items in
    let lt : c.args.index < length ls = omega (arith, rw c.in-Owned.is at c.requires, length-owned (map layout_data ls), length-map ls layout_data) in
    rw c.in-Owned.is (kept_flat ls c.args.index c.index.result.now _ lt c.index.ensures c.is_indivisible.ensures)

pub returns-in-Viewed : goal.returns-in-Viewed
returns-in-Viewed c =
    let v = c.in-Viewed.viewed.nodes in
    let s = scope_of c.in-Viewed.viewed.scope.value in
    let lt : c.args.index < length v.places.items = omega (arith, rw c.in-Viewed.is at c.requires, length-kids s (seen_nodes v), length-map v.places.items (node_there v.bytes)) in
    rw c.in-Viewed.is (c.is_flat_in.ensures ∙ rw (c.deref.ensures, c.as_parts.ensures.scope, c.as_parts.ensures.nodes) (node_flat s v c.args.index lt))
