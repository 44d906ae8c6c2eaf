-- Copies of children, and of a layout with other children.
use Rattle.std.specs.Prelude.{◌≡◌, ℕ, ◌==◌, if◌then◌else◌, List, map, Ok, Err}
use Rattle.vx_model.specs.Words.{total_by}
use Rattle.vx_layout_spec.specs.Refusal.{other_rows}
use Rattle.vx_layout_spec.specs.LayoutTree.{LayoutData, layout, lays_of, row_count}
use Rattle.vx_session.specs.Views.{scope_of}
use Rattle.vx_session.specs.Made.{Made}
use Rattle.vx_layout_tree.specs.declared.children.LayoutChildren.{LayoutChildren}
use Rattle.vx_layout_tree.specs.declared.children.LayoutChildren.TheVariants as children
use Rattle.vx_layout_tree.specs.declared.children.ViewedChildren.{ViewedChildren}
use Rattle.vx_layout_tree.specs.declared.zoned.ZoneTable.{ZoneTable}
use Rattle.vx_layout_tree.specs.declared.zoned.ZoneTable.TheVariants as tables
use Rattle.vx_layout_tree.specs.LayoutView.{layout_data}
use Rattle.vx_layout_tree.specs.LayDepth.{depths}

-- nodes at the same places of the same bytes, built in the same
abbrev pub SameNodes : ViewedChildren → ViewedChildren → Type 0
SameNodes v w = (scope_of v.scope.value ≡ scope_of w.scope.value) × (v.nodes.bytes ≡ w.nodes.bytes) × (v.nodes.places.items ≡ w.nodes.places.items)

-- layouts that are kept are of the same trees
abbrev pub SameChildren : LayoutChildren → LayoutChildren → Type 0
SameChildren (children.Owned v) (children.Owned w) = map layout_data v.items ≡ map layout_data w.items
SameChildren (children.Owned v) (children.Viewed w) = ⊥
SameChildren (children.Viewed v) (children.Owned w) = ⊥
SameChildren (children.Viewed v) (children.Viewed w) = SameNodes v w

-- the same metadata, where it isn't read
abbrev pub SameTable : ZoneTable → ZoneTable → Type 0
SameTable tables.Read tables.Read = Unit {0}
SameTable tables.Read (tables.Unread v) = ⊥
SameTable (tables.Unread u) tables.Read = ⊥
SameTable (tables.Unread u) (tables.Unread v) = (u.metadata ≡ v.metadata) × SameChildren u.zones v.zones

-- the same layout with these chunks
abbrev pub with_chunks : LayoutData ℕ → List (LayoutData ℕ) → Made
with_chunks (layout k t n names ls) cs =
    if total_by row_count cs == n then Ok (layout k t n names (lays_of cs)) else Err (other_rows (total_by row_count cs) n)

-- how deep the layouts are that are kept
abbrev pub kept_depth : LayoutChildren → ℕ
kept_depth (children.Owned v) = depths (lays_of (map layout_data v.items))
kept_depth (children.Viewed v) = 0

abbrev pub table_depth : ZoneTable → ℕ
table_depth tables.Read = 0
table_depth (tables.Unread u) = kept_depth u.zones
