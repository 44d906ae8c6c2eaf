-- What a buffer keeps in memory.
use Rattle.std.specs.Prelude.{◌≡◌, ℕ, List, [], ◌∷◌, map}
use Rattle.vx_model.specs.Words.{total_by}
use Rattle.vx_model.specs.ChunkData.{ChunkData, held}
use Rattle.vx_regroup.specs.declared.buffered.Kept.{Kept}

abbrev pub chunk_in : Kept → ChunkData
chunk_in k = k.chunk

abbrev pub chunks_in : List Kept → List ChunkData
chunks_in ks = map chunk_in ks

-- the bytes of each are its held size
abbrev pub AreWeighed : List Kept → Type 0
AreWeighed [] = Unit {0}
AreWeighed (k ∷ ks) = (k.bytes ≡ held k.chunk) × AreWeighed ks

-- and the total is that of all
pub record BufferStands (ks : List Kept) (total : ℕ) : Type 0 where
  pub weighed : AreWeighed ks
  pub summed : total ≡ total_by held (chunks_in ks)
