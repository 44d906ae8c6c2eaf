-- Paths of field names.
use Rattle.std.specs.Prelude.{ℕ, ◌&&◌, Bool, true, false, List, [], ◌∷◌, bytes_eq, Option, Some, None}

-- names of fields, the outermost first; the path of no names is the root
abbrev pub Names : Type 0
Names = List (List ℕ)

abbrev pub is_root : Names → Bool
is_root [] = true
is_root (a ∷ p) = false

-- one of the two is a prefix of the other: they agree as far as the shorter one goes
abbrev pub overlaps : Names → Names → Bool
overlaps [] q = true
overlaps (a ∷ p) [] = true
overlaps (a ∷ p) (b ∷ q) = bytes_eq a b && overlaps p q

-- without its first name
abbrev pub stepped : Names → Option Names
stepped [] = None
stepped (a ∷ p) = Some p

abbrev pub first_name : Names → Option (List ℕ)
first_name [] = None
first_name (a ∷ p) = Some a
