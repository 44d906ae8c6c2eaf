-- What asking children that are nodes of bytes answers.
use Rattle.std.specs.Prelude.{ℕ, zero, suc, Bool, false, List, [], ◌∷◌, Ok, Err}
use Rattle.vx_model.specs.Ty.{Ty}
use Rattle.vx_layout_spec.specs.Refusal.{slot_range}
use Rattle.vx_session.specs.Made.{Made, ChildData}
use Rattle.vx_session.specs.Kinds.{validity_type}
use Rattle.vx_layout_tree.specs.Children.{answered}

-- what building answers: the layout, or why there is none
abbrev pub built : Made → Made
built (Ok l) = answered l
built (Err refusal) = Err refusal

-- the child at the place, at its own type
abbrev pub answer_at : List ChildData → ℕ → Ty → Made
answer_at [] i t = Err (slot_range i 0)
answer_at (k ∷ ks) zero t = answered (k.stands t)
answer_at (k ∷ ks) (suc i) t = answer_at ks i t

-- the type at the place
abbrev pub type_at : List Ty → ℕ → Ty
type_at [] i = validity_type
type_at (t ∷ ts) zero = t
type_at (t ∷ ts) (suc i) = type_at ts i

-- whether readers may not split the rows of the child at the place
abbrev pub is_flat_at : List ChildData → ℕ → Bool
is_flat_at [] i = false
is_flat_at (k ∷ ks) zero = k.is_flat
is_flat_at (k ∷ ks) (suc i) = is_flat_at ks i
