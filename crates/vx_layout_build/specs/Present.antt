-- The children that a layout has: in a slot, and all in slot order.
use Rattle.std.specs.Prelude.{ℕ, zero, suc, List, [], ◌∷◌, Option, Some, None, Result, Ok}
use Rattle.vx_layout_spec.specs.Refusal.{Refusal}
use Rattle.vx_layout_spec.specs.LayoutTree.{LayoutData, children_of}
use Rattle.vx_session.specs.Made.{◌>>=◌}
use Rattle.vx_layout_tree.specs.Children.{answered}
use Rattle.vx_layout_slots.specs.Slots.{slot_place}

abbrev pub some_child : LayoutData ℕ → Result (Option (LayoutData ℕ)) Refusal
some_child l = Ok (Some l)

-- the child at the place, where there is one, or why it can't be built
abbrev pub child_at : List (LayoutData ℕ) → ℕ → Result (Option (LayoutData ℕ)) Refusal
child_at [] i = Ok None
child_at (l ∷ ls) zero = answered l >>= some_child
child_at (l ∷ ls) (suc i) = child_at ls i

abbrev pub child_at_place : List (LayoutData ℕ) → Option ℕ → Result (Option (LayoutData ℕ)) Refusal
child_at_place ls None = Ok None
child_at_place ls (Some i) = child_at ls i

-- the child in the slot, where the slot has one
abbrev pub child_in_slot : LayoutData ℕ → ℕ → Result (Option (LayoutData ℕ)) Refusal
child_in_slot l slot = child_at_place (children_of l) (slot_place l slot)

-- each of them, or the first that can't be built
abbrev pub all_answered : List (LayoutData ℕ) → Result (List (LayoutData ℕ)) Refusal
all_answered [] = Ok []
all_answered (l ∷ ls) = answered l >>= λ child. all_answered ls >>= λ others. Ok (child ∷ others)
