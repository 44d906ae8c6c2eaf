-- Rows from one place to another.
use Rattle.std.specs.Prelude.{ℕ, ◌+◌, ◌-◌, ◌≤◌, List, [], ◌∷◌, take, drop}

-- elements `from` to `to`, the last not included
abbrev pub window : {X : Type 0} → ℕ → ℕ → List X → List X
window from to xs = take (to - from) (drop from xs)

-- offsets counted from `base`
abbrev pub rebased : ℕ → List ℕ → List ℕ
rebased base [] = []
rebased base (o ∷ os) = (o - base) ∷ rebased base os

-- the last offset
abbrev pub last_of : List ℕ → ℕ
last_of [] = 0
last_of (o ∷ []) = o
last_of (o ∷ p ∷ os) = last_of (p ∷ os)

-- offsets from `low` on, none above `high`
abbrev pub Within : ℕ → ℕ → List ℕ → Type 0
Within low high [] = Unit {0}
Within low high (o ∷ os) = (low ≤ o) × (o ≤ high) × Within o high os

-- offsets counted from `base` where `first` stands
abbrev pub counted : ℕ → ℕ → List ℕ → List ℕ
counted base first [] = []
counted base first (o ∷ os) = (base + (o - first)) ∷ counted base first os
