-- Outputs, one behind the other.
use Rattle.std.proofs.Common.{◌≡◌, ℕ, suc, ◌+◌, List, [], ◌∷◌, ◌++◌, ap, arith, append_assoc, append-nil}
use Rattle.std.proofs.lemmas.List.{map_push, length_push}
use Rattle.vx_model.specs.ChunkData.{ChunkData}
use Rattle.vx_react.specs.declared.place.Place.TheVariants.{Column}
use Rattle.vx_react.specs.Splitter.{column_outputs}

-- the column at number n, and those behind it
pub column_first : (n m : ℕ) (p : ChunkData) (ps : List ChunkData) → m ≡ n + 1 → column_outputs n (p ∷ ps) ≡ (Column n, p) ∷ column_outputs m ps
column_first n m p ps e = let s : suc n ≡ m = omega (arith, e) in ap (λ (k : ℕ). (Column n, p) ∷ column_outputs k ps) s

pub ruleset output_rules = (append_assoc, append-nil, map_push, length_push, column_first)
