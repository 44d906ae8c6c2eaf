-- What is left of a walk over slots.
use Rattle.std.specs.Prelude.{◌≡◌, ℕ, ◌-◌, ◌==◌, if◌then◌else◌, List, [], ◌∷◌, map, Option, Some, None, MatchOption, Result, IfOk}
use Rattle.vx_layout_slots.specs.declared.child_type.LayoutChildType.{LayoutChildType}
use Rattle.vx_layout_tree.specs.declared.kind.LayoutKind.{LayoutKind}
use Rattle.vx_layout_tree.specs.declared.kind.LayoutKind.TheVariants as kinds
use Rattle.vx_layout_slots.specs.declared.slot_walk.Slots.{Slots}
use Rattle.vx_layout_slots.specs.declared.child_types.ChildTypes.{ChildTypes}
use Rattle.vx_layout_slots.specs.declared.child_types.ChildNames.{ChildNames}
use Rattle.vx_layout_slots.specs.declared.child_types.ChildRowOffsets.{ChildRowOffsets}
use Rattle.vx_layout_tree.specs.LayoutView.{layout_data}
use Rattle.vx_layout_slots.specs.Slots.{child_name, child_offset}
use Rattle.vx_layout_slots.specs.SlotTypes.{types_from}

-- the types of the children in the slots to come
abbrev pub slots_left : Slots → List LayoutChildType
slots_left s = types_from (layout_data s.layout.now) s.at.slot (s.count - s.at.slot)

abbrev pub types_left : ChildTypes → List LayoutChildType
types_left s = slots_left s.slots

abbrev pub names_left : ChildNames → List (List ℕ)
names_left s = map child_name (types_left s.types)

abbrev pub rows_left : ChildRowOffsets → List (Option ℕ)
rows_left s = map child_offset (slots_left s.slots)

-- a call gave the first of what was left, or failed in its place, and left the others
abbrev pub YieldsOrFails : {S A E : Type 0} → (S → List A) → S → Option (Result A E) → S → Type 0
YieldsOrFails {A = A} rest s r t = MatchOption r ((rest s ≡ []) × (rest t ≡ [])) (λ x. (y : A) × (rest s ≡ y ∷ rest t) × IfOk x (λ z. z ≡ y))

-- where the child in a slot of the kind begins, of a chunk at the row
abbrev pub row_of_slot : LayoutKind → ℕ → ℕ → Option ℕ
row_of_slot kinds.Flat slot row = None
row_of_slot kinds.Chunked slot row = Some row
row_of_slot kinds.Struct slot row = if slot == 0 then None else Some 0
row_of_slot kinds.List slot row = None
row_of_slot kinds.Dict slot row = if slot == 0 then None else Some 0
row_of_slot kinds.Zoned slot row = if slot == 0 then Some 0 else None
row_of_slot kinds.LegacyStats slot row = if slot == 0 then Some 0 else None
row_of_slot kinds.Foreign slot row = None
