-- The kinds of layouts by name, and the children of a layout.
use Rattle.std.specs.Prelude.{ℕ, zero, suc, Bool, true, false, List, [], ◌∷◌, Result, Ok, Err}
use Rattle.vx_layout_spec.specs.Refusal.{Refusal, slot_range}
use Rattle.vx_layout_spec.specs.LayoutTree.{Kind, flat_kind, chunked_kind, struct_kind, list_kind, dict_kind, zoned_kind, unread_zoned_kind, stats_kind, foreign_kind, refused_kind, LayoutData, layout, row_count}
use Rattle.vx_layout_tree.specs.declared.kind.LayoutKind.{LayoutKind}
use Rattle.vx_layout_tree.specs.declared.kind.LayoutKind.TheVariants as kinds

-- ---- kinds by name

-- a node that can't be built is no layout in memory, and has none of these
abbrev pub kind_name : Kind → LayoutKind
kind_name (flat_kind encodings tree) = kinds.Flat
kind_name chunked_kind = kinds.Chunked
kind_name struct_kind = kinds.Struct
kind_name list_kind = kinds.List
kind_name (dict_kind all) = kinds.Dict
kind_name (zoned_kind zone_len specs) = kinds.Zoned
kind_name (unread_zoned_kind metadata) = kinds.Zoned
kind_name (stats_kind zone_len stats) = kinds.LegacyStats
kind_name (foreign_kind id metadata) = kinds.Foreign
kind_name (refused_kind is_flat refusal) = kinds.Foreign

-- ---- rows of a child

abbrev pub rows_at : List (LayoutData ℕ) → ℕ → ℕ
rows_at [] i = 0
rows_at (l ∷ ls) zero = row_count l
rows_at (l ∷ ls) (suc i) = rows_at ls i

-- ---- a child

-- what asking for a child answers: the layout, or why it can't be built
abbrev pub answered : LayoutData ℕ → Result (LayoutData ℕ) Refusal
answered (layout (flat_kind encodings tree) t n names ls) = Ok (layout (flat_kind encodings tree) t n names ls)
answered (layout chunked_kind t n names ls) = Ok (layout chunked_kind t n names ls)
answered (layout struct_kind t n names ls) = Ok (layout struct_kind t n names ls)
answered (layout list_kind t n names ls) = Ok (layout list_kind t n names ls)
answered (layout (dict_kind all) t n names ls) = Ok (layout (dict_kind all) t n names ls)
answered (layout (zoned_kind zone_len specs) t n names ls) = Ok (layout (zoned_kind zone_len specs) t n names ls)
answered (layout (unread_zoned_kind metadata) t n names ls) = Ok (layout (unread_zoned_kind metadata) t n names ls)
answered (layout (stats_kind zone_len stats) t n names ls) = Ok (layout (stats_kind zone_len stats) t n names ls)
answered (layout (foreign_kind id metadata) t n names ls) = Ok (layout (foreign_kind id metadata) t n names ls)
answered (layout (refused_kind is_flat refusal) t n names ls) = Err refusal

-- the child at the place; where there is none, a refusal that names the place
abbrev pub child_in : List (LayoutData ℕ) → ℕ → Result (LayoutData ℕ) Refusal
child_in [] i = Err (slot_range i 0)
child_in (l ∷ ls) zero = answered l
child_in (l ∷ ls) (suc i) = child_in ls i

abbrev pub is_refused : Kind → Bool
is_refused (refused_kind is_flat refusal) = true
is_refused k = false
