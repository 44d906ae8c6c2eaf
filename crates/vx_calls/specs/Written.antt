-- What two columns may write.
use Rattle.std.specs.Prelude.{ℕ, List, [], ◌∷◌}
use Rattle.vx_seats.specs.History.{Pair}

-- one byte at a path
abbrev pub pair_at : List ℕ → ℕ → Pair
pair_at p b = record { path = p; bytes = b ∷ [] }

-- in turns
abbrev pub in_turns : List Pair
in_turns = pair_at (0 ∷ 0 ∷ 0 ∷ []) 1 ∷ pair_at (0 ∷ 0 ∷ 1 ∷ []) 2 ∷ pair_at (0 ∷ 1 ∷ 1 ∷ []) 3 ∷ []
