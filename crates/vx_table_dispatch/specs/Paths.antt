-- Paths of overrides, at the name of a field.
use Rattle.std.specs.Prelude.{ℕ, bytes_eq, Bool, false, if◌then◌else◌, List, [], ◌∷◌, Option, Some, None}
use Rattle.vx_strategy.specs.Overridden.{Names}

-- the path of a field itself, of this name
abbrev pub is_own : List ℕ → Names → Bool
is_own name [] = false
is_own name (a ∷ []) = bytes_eq name a
is_own name (a ∷ b ∷ path) = false

-- what stands behind a name, if something does
abbrev pub rest_of : List ℕ → Names → Option Names
rest_of name [] = None
rest_of name (a ∷ []) = None
rest_of name (a ∷ b ∷ path) = if bytes_eq name a then Some (b ∷ path) else None
