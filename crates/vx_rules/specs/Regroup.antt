-- Regrouping: chunks are held, and leave at a later chunk or at the last.
use Rattle.std.specs.Prelude.{ℕ, suc, Bool, true, false, if◌then◌else◌, List, [], ◌∷◌, ◌++◌}
use Rattle.vx_model.specs.ChunkData.{ChunkData}
use Rattle.vx_path.specs.Path.{under}
use Rattle.vx_rules.specs.Stream.{Chunk}

-- A rule: what it holds at first; what leaves at a chunk that isn't the last, and what is held then; what leaves at the last.
pub record Rule (S : Type 0) : Type 0 where
  pub start : S
  pub leaves : S → ChunkData → List ChunkData
  pub holds : S → ChunkData → S
  pub rest : S → ChunkData → List ChunkData

-- those that leave at one chunk have paths below its own, by their rank
abbrev pub ranked : List ℕ → ℕ → List ChunkData → List Chunk
ranked p r [] = []
ranked p r (c ∷ cs) = (under p r, c) ∷ ranked p (suc r) cs

-- The stream that a rule makes of a stream. Of an open one the newest chunk triggers nothing.
abbrev pub regrouped : {S : Type 0} → Rule S → S → List Chunk → Bool → List Chunk
regrouped r s [] ended = []
regrouped r s (c ∷ []) ended = if ended then ranked c.0 0 (r.rest s c.1) else []
regrouped r s (c ∷ d ∷ cs) ended = ranked c.0 0 (r.leaves s c.1) ++ regrouped r (r.holds s c.1) (d ∷ cs) ended
