-- What is made of parts, or the refusal that comes first; and children, each with what it builds.
use Rattle.std.specs.Prelude.{ℕ, zero, suc, ◌==◌, Bool, true, false, List, [], ◌∷◌, length, Option, Some, None, Result, Ok, Err}
use Rattle.vx_model.specs.Ty.{Ty}
use Rattle.vx_layout_spec.specs.LayoutTree.{LayoutData}
use Rattle.vx_layout_spec.specs.Refusal.{Refusal, child_count, other_rows, segment_count, bad_metadata, slot_range}

abbrev pub Made : Type 0
Made = Result (LayoutData ℕ) Refusal

infixl 10 ◌>>=◌
abbrev pub ◌>>=◌ : {A B : Type 0} → Result A Refusal → (A → Result B Refusal) → Result B Refusal
(Ok x) >>= f = f x
(Err e) >>= f = Err e

-- refused where the test fails
abbrev pub needs : Bool → Refusal → Result (Unit {0}) Refusal
needs true refusal = Ok tt
needs false refusal = Err refusal

-- the value that metadata spells
abbrev pub spelled : {A : Type 0} → List ℕ → Option A → Result A Refusal
spelled bytes None = Err (bad_metadata bytes)
spelled bytes (Some x) = Ok x

-- ---- children

-- A child of a node, or of parts.
pub record ChildData : Type 0 where
  pub rows : ℕ
  -- whether readers may not split its rows
  pub is_flat : Bool
  -- what it is at a type
  pub build : Ty → Made
  -- how it stands among the children of a layout that doesn't build it, where the type is its own there
  pub stands : Ty → LayoutData ℕ

abbrev pub kid_rows : ChildData → ℕ
kid_rows k = k.rows

abbrev pub kid_at : List ChildData → ℕ → Option ChildData
kid_at [] i = None
kid_at (k ∷ ks) zero = Some k
kid_at (k ∷ ks) (suc i) = kid_at ks i

abbrev pub built_kid : ℕ → ℕ → Option ChildData → Ty → Made
built_kid i count None t = Err (slot_range i count)
built_kid i count (Some k) t = k.build t

-- the child at the place, at a type
abbrev pub child_at : List ChildData → ℕ → Ty → Made
child_at ks i t = built_kid i (length ks) (kid_at ks i) t

abbrev pub rows_at : List ChildData → ℕ → ℕ
rows_at [] i = 0
rows_at (k ∷ ks) zero = k.rows
rows_at (k ∷ ks) (suc i) = rows_at ks i

abbrev pub standing_kid : Option ChildData → Ty → List (LayoutData ℕ)
standing_kid None t = []
standing_kid (Some k) t = k.stands t ∷ []

-- the child at the place, where there is one
abbrev pub standing_at : List ChildData → ℕ → Ty → List (LayoutData ℕ)
standing_at ks i t = standing_kid (kid_at ks i) t

-- all at one type
abbrev pub all_stand : Ty → List ChildData → List (LayoutData ℕ)
all_stand t [] = []
all_stand t (k ∷ ks) = k.stands t ∷ all_stand t ks

-- each at its own
abbrev pub each_stands : List Ty → List ChildData → List (LayoutData ℕ)
each_stands [] ks = []
each_stands (t ∷ ts) [] = []
each_stands (t ∷ ts) (k ∷ ks) = k.stands t ∷ each_stands ts ks

-- ---- checks

abbrev pub has_children : ℕ → List ChildData → Result (Unit {0}) Refusal
has_children count ks = needs (length ks == count) (child_count (length ks) count)

-- rows that there are, and that there must be
abbrev pub has_rows : ℕ → ℕ → Result (Unit {0}) Refusal
has_rows has count = needs (has == count) (other_rows has count)

-- each child has these rows
abbrev pub all_have_rows : ℕ → List ChildData → Result (Unit {0}) Refusal
all_have_rows count [] = Ok tt
all_have_rows count (k ∷ ks) = has_rows k.rows count >>= λ ok. all_have_rows count ks

-- the segment, where there is just one
abbrev pub one_segment : List ℕ → Result ℕ Refusal
one_segment [] = Err (segment_count 0)
one_segment (s ∷ []) = Ok s
one_segment (s ∷ t ∷ ss) = Err (segment_count (length (s ∷ t ∷ ss)))
