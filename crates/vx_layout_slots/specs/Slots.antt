-- The slots of a layout, and what a child in a slot is to it.
use Rattle.std.specs.Prelude.{ℕ, zero, suc, ◌+◌, ◌-◌, ◌==◌, Bool, if◌then◌else◌, nat_lt, List, [], ◌∷◌, ◌++◌, codes, decimal, length, take, Option, Some, None}
use Rattle.vx_model.specs.Words.{total_by}
use Rattle.vx_model.specs.Ty.{Ty, Named, nullable}
use Rattle.vx_layout_spec.specs.LayoutTree.{Kind, flat_kind, chunked_kind, struct_kind, list_kind, dict_kind, zoned_kind, unread_zoned_kind, stats_kind, foreign_kind, refused_kind, LayoutData, layout, lays_in, row_count}
use Rattle.vx_layout_shape.specs.Shape.{fields_of}
use Rattle.vx_layout_slots.specs.declared.child_type.LayoutChildType.{LayoutChildType}
use Rattle.vx_layout_slots.specs.declared.child_type.LayoutChildType.TheVariants.{Transparent, Auxiliary, Chunk, Field}

-- a place in brackets
abbrev pub bracketed : ℕ → List ℕ
bracketed i = codes "[" ++ (decimal i ++ codes "]")

abbrev pub child_name : LayoutChildType → List ℕ
child_name (Transparent name) = name
child_name (Auxiliary name) = name
child_name (Chunk c) = bracketed c.0
child_name (Field name) = name

-- the row of the layout at which the child begins; an auxiliary child has none
abbrev pub child_offset : LayoutChildType → Option ℕ
child_offset (Transparent name) = Some 0
child_offset (Auxiliary name) = None
child_offset (Chunk c) = Some c.1
child_offset (Field name) = Some 0

-- ---- slots

abbrev pub kind_slots : Kind → Ty → ℕ → ℕ
kind_slots (flat_kind encodings tree) t count = 0
kind_slots chunked_kind t count = count
kind_slots struct_kind t count = length (fields_of t) + 1
kind_slots list_kind t count = 3
kind_slots (dict_kind all) t count = 2
kind_slots (zoned_kind zone_len specs) t count = 2
kind_slots (unread_zoned_kind metadata) t count = 2
kind_slots (stats_kind zone_len stats) t count = 2
kind_slots (foreign_kind id metadata) t count = count
kind_slots (refused_kind is_flat refusal) t count = 0

abbrev pub slots : LayoutData ℕ → ℕ
slots (layout k t n names ls) = kind_slots k t (length (lays_in ls))

-- the place itself, where it is below the number
abbrev pub below : ℕ → ℕ → Option ℕ
below count place = if nat_lt place count then Some place else None

-- the first slot is the validity's, which a type that isn't nullable has no child for
abbrev pub struct_place : Bool → ℕ → ℕ → Option ℕ
struct_place n count slot = if n then below (count + 1) slot else if slot == 0 then None else below count (slot - 1)

-- the last slot is the validity's
abbrev pub list_place : Bool → ℕ → Option ℕ
list_place n slot = if n then below 3 slot else below 2 slot

-- the place among the children, where the slot has one
abbrev pub kind_place : Kind → Ty → ℕ → ℕ → Option ℕ
kind_place (flat_kind encodings tree) t count slot = None
kind_place chunked_kind t count slot = below count slot
kind_place struct_kind t count slot = struct_place (nullable t) (length (fields_of t)) slot
kind_place list_kind t count slot = list_place (nullable t) slot
kind_place (dict_kind all) t count slot = below 2 slot
kind_place (zoned_kind zone_len specs) t count slot = below 2 slot
kind_place (unread_zoned_kind metadata) t count slot = below 2 slot
kind_place (stats_kind zone_len stats) t count slot = below 2 slot
kind_place (foreign_kind id metadata) t count slot = below count slot
kind_place (refused_kind is_flat refusal) t count slot = None

abbrev pub slot_place : LayoutData ℕ → ℕ → Option ℕ
slot_place (layout k t n names ls) slot = kind_place k t (length (lays_in ls)) slot

-- ---- what a child in the slot is, also where there is none

abbrev pub auxiliary : List ℕ → Option LayoutChildType
auxiliary name = Some (Auxiliary name)

abbrev pub transparent : List ℕ → Option LayoutChildType
transparent name = Some (Transparent name)

abbrev pub chunk_type : List (LayoutData ℕ) → ℕ → Option LayoutChildType
chunk_type ls slot = if nat_lt slot (length ls) then Some (Chunk (slot, total_by row_count (take slot ls))) else None

abbrev pub field_type : List Named → ℕ → Option LayoutChildType
field_type [] i = None
field_type (f ∷ fs) zero = Some (Field f.0)
field_type (f ∷ fs) (suc i) = field_type fs i

abbrev pub struct_type : List Named → ℕ → Option LayoutChildType
struct_type fs slot = if slot == 0 then auxiliary (codes "validity") else field_type fs (slot - 1)

abbrev pub list_type : ℕ → Option LayoutChildType
list_type slot =
    if slot == 0 then auxiliary (codes "elements") else if slot == 1 then auxiliary (codes "offsets")
    else if slot == 2 then auxiliary (codes "validity") else None

abbrev pub dict_type : ℕ → Option LayoutChildType
dict_type slot = if slot == 0 then auxiliary (codes "values") else if slot == 1 then transparent (codes "codes") else None

abbrev pub zoned_type : ℕ → Option LayoutChildType
zoned_type slot = if slot == 0 then transparent (codes "data") else if slot == 1 then auxiliary (codes "zones") else None

abbrev pub foreign_type : ℕ → ℕ → Option LayoutChildType
foreign_type count slot = if nat_lt slot count then auxiliary (bracketed slot) else None

abbrev pub kind_type : Kind → Ty → List (LayoutData ℕ) → ℕ → Option LayoutChildType
kind_type (flat_kind encodings tree) t ls slot = None
kind_type chunked_kind t ls slot = chunk_type ls slot
kind_type struct_kind t ls slot = struct_type (fields_of t) slot
kind_type list_kind t ls slot = list_type slot
kind_type (dict_kind all) t ls slot = dict_type slot
kind_type (zoned_kind zone_len specs) t ls slot = zoned_type slot
kind_type (unread_zoned_kind metadata) t ls slot = zoned_type slot
kind_type (stats_kind zone_len stats) t ls slot = zoned_type slot
kind_type (foreign_kind id metadata) t ls slot = foreign_type (length ls) slot
kind_type (refused_kind is_flat refusal) t ls slot = None

abbrev pub slot_type : LayoutData ℕ → ℕ → Option LayoutChildType
slot_type (layout k t n names ls) slot = kind_type k t (lays_in ls) slot
