-- Children as contracts see them.
use Rattle.std.specs.Prelude.{ℕ, Bool, true, false, if◌then◌else◌, List, [], ◌∷◌, map, Option, None, slice_get, Ok, Err}
use Rattle.vx_model.specs.Ty.{Ty, ty_eq}
use Rattle.vx_layout_spec.specs.LayoutTree.{Kind, flat_kind, LayoutData, layout_kind, layout_type, row_count}
use Rattle.vx_layout_spec.specs.Refusal.{child_type}
use Rattle.vx_layout_bytes.specs.Node.{nodes_of}
use Rattle.vx_layout_bytes.specs.Views.{seen_nodes}
use Rattle.vx_session.specs.Views.{scope_of}
use Rattle.vx_session.specs.Made.{ChildData, all_stand, each_stands}
use Rattle.vx_session.specs.Kinds.{struct_types}
use Rattle.vx_session.specs.Builder.{kids}
use Rattle.vx_layout_tree.specs.declared.children.LayoutChildren.{LayoutChildren}
use Rattle.vx_layout_tree.specs.declared.children.LayoutChildren.TheVariants as children
use Rattle.vx_layout_tree.specs.declared.children.ViewedChildren.{ViewedChildren}
use Rattle.vx_layout_tree.specs.LayoutView.{layout_data}

abbrev pub is_flat_kind : Kind → Bool
is_flat_kind (flat_kind encodings tree) = true
is_flat_kind k = false

-- a layout that is kept stands as it is, and has one type
abbrev pub owned_kid : LayoutData ℕ → ChildData
owned_kid l = record {
  rows = row_count l;
  is_flat = is_flat_kind (layout_kind l);
  build = λ t. if ty_eq (layout_type l) t then Ok l else Err (child_type (layout_type l) t);
  stands = λ t. l;
}

abbrev pub owned_kids : List (LayoutData ℕ) → List ChildData
owned_kids [] = []
owned_kids (l ∷ ls) = owned_kid l ∷ owned_kids ls

abbrev pub viewed_kids : ViewedChildren → List ChildData
viewed_kids v = kids (scope_of v.scope.value) (nodes_of (seen_nodes v.nodes))

abbrev pub layout_kids : LayoutChildren → List ChildData
layout_kids (children.Owned v) = owned_kids (map layout_data v.items)
layout_kids (children.Viewed v) = viewed_kids v

-- as chunks of one type
abbrev pub chunks : Ty → LayoutChildren → List (LayoutData ℕ)
chunks t (children.Owned v) = map layout_data v.items
chunks t (children.Viewed v) = all_stand t (viewed_kids v)

-- as a validity, where the struct type is nullable, and fields
abbrev pub fields : Ty → LayoutChildren → List (LayoutData ℕ)
fields t (children.Owned v) = map layout_data v.items
fields t (children.Viewed v) = each_stands (struct_types t) (viewed_kids v)

-- the place of a child's node in the bytes: there the node stands that the child is built of
abbrev pub place_in : LayoutChildren → ℕ → Option ℕ
place_in (children.Owned v) i = None
place_in (children.Viewed v) i = slice_get v.nodes.places.items i
