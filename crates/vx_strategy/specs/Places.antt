-- The place of the first element that passes a test.
use Rattle.std.specs.Prelude.{ℕ, suc, Bool, if◌then◌else◌, List, [], ◌∷◌, Option, Some, None, option_map}

abbrev pub first_place : {X : Type 0} → (X → Bool) → List X → Option ℕ
first_place f [] = None
first_place f (x ∷ xs) = if f x then Some 0 else option_map suc (first_place f xs)
