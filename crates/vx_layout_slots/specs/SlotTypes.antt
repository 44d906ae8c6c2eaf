-- What the children that a layout has are, in slot order.
use Rattle.std.specs.Prelude.{ℕ, zero, suc, ◌+◌, List, [], ◌∷◌, ◌++◌, map, take, Option, Some, None}
use Rattle.vx_model.specs.Words.{total_by}
use Rattle.vx_layout_spec.specs.LayoutTree.{Kind, chunked_kind, LayoutData, layout_kind, row_count, children_of}
use Rattle.vx_layout_slots.specs.declared.child_type.LayoutChildType.{LayoutChildType}
use Rattle.vx_layout_slots.specs.Slots.{slots, slot_place, slot_type, child_name, child_offset}

abbrev pub one_type : Option ℕ → Option LayoutChildType → List LayoutChildType
one_type None t = []
one_type (Some i) None = []
one_type (Some i) (Some t) = t ∷ []

-- what the child in the slot is, where the slot has one
abbrev pub type_in_slot : LayoutData ℕ → ℕ → List LayoutChildType
type_in_slot l slot = one_type (slot_place l slot) (slot_type l slot)

-- in so many slots from the one on
abbrev pub types_from : LayoutData ℕ → ℕ → ℕ → List LayoutChildType
types_from l slot zero = []
types_from l slot (suc more) = type_in_slot l slot ++ types_from l (slot + 1) more

abbrev pub child_types : LayoutData ℕ → List LayoutChildType
child_types l = types_from l 0 (slots l)

abbrev pub child_names : LayoutData ℕ → List (List ℕ)
child_names l = map child_name (child_types l)

abbrev pub child_row_offsets : LayoutData ℕ → List (Option ℕ)
child_row_offsets l = map child_offset (child_types l)

abbrev pub kind_row : Kind → List (LayoutData ℕ) → ℕ → ℕ
kind_row chunked_kind ls slot = total_by row_count (take slot ls)
kind_row k ls slot = 0

-- the layout's row at which a chunk in the slot begins; 0 where the children are no chunks
abbrev pub chunk_row : LayoutData ℕ → ℕ → ℕ
chunk_row l slot = kind_row (layout_kind l) (children_of l) slot
