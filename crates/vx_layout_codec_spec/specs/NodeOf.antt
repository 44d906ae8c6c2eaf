-- The node that a layout is in a context.
use Rattle.std.specs.Prelude.{ℕ, List, Option, Some, None}
use Rattle.vx_layout_spec.specs.LayoutTree.{LayoutData, LayoutList, layout, no_layouts, child, layout_kind, kind_id, row_count, segments_of}
use Rattle.vx_metadata.specs.Kept.{metadata_bytes}
use Rattle.vx_layout_bytes.specs.Node.{Own, Node, Nodes, node, no_nodes, first}
use Rattle.vx_session.specs.Ids.{place_of}

abbrev pub or_first : Option ℕ → ℕ
or_first None = 0
or_first (Some place) = place

-- the place of its id, its rows, its metadata and its segments
abbrev pub own_in : List (List ℕ) → LayoutData ℕ → Own
own_in ids l = record { index = or_first (place_of (kind_id (layout_kind l)) ids); rows = row_count l; metadata = metadata_bytes l; segments = segments_of l }

-- with its children
abbrev mutual
  pub node_in : List (List ℕ) → LayoutData ℕ → Node
  node_in ids (layout k t n names ls) = node (own_in ids (layout k t n names ls)) (nodes_in ids ls)

  pub nodes_in : List (List ℕ) → LayoutList ℕ → Nodes
  nodes_in ids no_layouts = no_nodes
  nodes_in ids (child l ls) = first (node_in ids l) (nodes_in ids ls)
