-- Layouts that are dropped: what is left of a drop of all children suffices for each.
use Rattle.std.proofs.Common.{◌≡◌, ℕ, ◌+◌, ◌*◌, ◌<◌, ◌≤◌, List, [], ◌∷◌, arith}
use Rattle.std.specs.Global.{Vec}
use denote.Param.Weighed.{most}
use Rattle.vx_layout_tree.specs.declared.children.LayoutChildren.TheVariants as children
use Rattle.vx_layout_tree.specs.declared.layout.Layout.{Layout}
use Rattle.vx_layout_tree.specs.declared.layout.Layout.TheVariants as layouts
use Rattle.vx_layout_tree.specs.declared.chunked.ChunkedLayout.TheDeep.{deep-Layout, deep-LayoutChildren, size-Layout}

layout_size : (l : Layout) → size-Layout l ≤ 5 * deep-Layout l + 1
layout_size (layouts.Flat f) = omega arith
layout_size (layouts.Chunked l) = omega arith
layout_size (layouts.Struct l) = omega arith
layout_size (layouts.List l) = omega arith
layout_size (layouts.Dict l) = omega arith
layout_size (layouts.Zoned l) = omega arith
layout_size (layouts.LegacyStats l) = omega arith
layout_size (layouts.Foreign l) = omega arith

most_sizes : (ls : List Layout) → most size-Layout ls ≤ 5 * most deep-Layout ls + 1
most_sizes [] = omega arith
most_sizes (l ∷ ls) = omega (arith, layout_size l, most_sizes ls)

pub sizes_fall : (v : Vec Layout) (t : ℕ) → 5 * deep-LayoutChildren (children.Owned v) + 2 ≡ t → most size-Layout v.items < t
sizes_fall v t is = omega (arith, most_sizes v.items, is)
