-- Counts of faults.
use Rattle.std.specs.Prelude.{◌≡◌, ℕ, ◌+◌, ◌-◌, ◌^◌, ◌≤◌, ◌<◌, min, Bool, true, false}

-- the count rose, or stands at its last value
abbrev pub Rose : ℕ → ℕ → Type 0
Rose before now = (before ≤ now) × (min (before + 1) (2 ^ 64 - 1) ≤ now)

-- after a fault the count rose or stands at its last value, and after anything else it is as before
abbrev pub Counts : ℕ → ℕ → Bool → Type 0
Counts before now true = Rose before now
Counts before now false = now ≡ before

-- the count neither rose nor stands at its last value
abbrev pub IsCalm : ℕ → ℕ → Type 0
IsCalm before now = (now ≡ before) × (before < 2 ^ 64 - 1)
