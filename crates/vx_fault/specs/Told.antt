-- What an object tells of its contents: a list, or nothing.
use Rattle.std.specs.Prelude.{◌≡◌, ℕ, ◌+◌, Bool, if◌then◌else◌, List, [], ◌∷◌, ◌++◌, length, Option, Some, None, option_map}

-- these stood in front of what it tells now
abbrev pub before_told : {A : Type 0} → List A → Option (List A) → Option (List A)
before_told front told = option_map (λ more. front ++ more) told

-- what it told, and these behind
abbrev pub then_told : {A : Type 0} → Option (List A) → List A → Option (List A)
then_told told more = option_map (λ front. front ++ more) told

-- nothing is left, where it tells
abbrev pub NoneTold : {A : Type 0} → Option (List A) → Type 0
NoneTold None = Unit {0}
NoneTold (Some xs) = xs ≡ []

-- how often it has answered that told these, and its end where that was heard
abbrev pub answers_in : {A : Type 0} → List A → Bool → ℕ
answers_in taken heard = length taken + (if heard then 1 else 0)

-- the last that it told
abbrev pub TookLast : {A : Type 0} → List A → A → Type 0
TookLast {A} taken b = (front : List A) × (taken ≡ front ++ b ∷ [])
