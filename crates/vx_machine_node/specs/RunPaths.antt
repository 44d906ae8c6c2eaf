-- The eof paths of runs.
use Rattle.std.specs.Prelude.{ℕ, ◌-◌, Bool, true, false, List, [], ◌∷◌}
use Rattle.vx_path.specs.Path.{Eof}

-- a path that isn't empty, in two parts
abbrev pub eof_at : List ℕ → Eof
eof_at [] = record { stem = []; last = 0 }
eof_at (i ∷ []) = record { stem = []; last = i }
eof_at (i ∷ j ∷ p) = record { stem = i ∷ (eof_at (j ∷ p)).stem; last = (eof_at (j ∷ p)).last }

-- how many the run that goes on has taken
abbrev pub begun_paths : Bool → ℕ
begun_paths true = 2
begun_paths false = 0

-- the first of those of the run that goes on, or of the next one, where this stands behind all that are taken
abbrev pub run_eof : Eof → Bool → Eof
run_eof e true = record { stem = e.stem; last = e.last - 2 }
run_eof e false = e
