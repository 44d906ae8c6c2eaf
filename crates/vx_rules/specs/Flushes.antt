-- Buffering by held bytes, and collecting.
use Rattle.std.specs.Prelude.{ℕ, ◌*◌, ◌-◌, ◌^◌, min, nat_le, Bool, true, false, if◌then◌else◌, List, [], ◌∷◌, ◌++◌}
use Rattle.vx_model.specs.Ty.{Ty}
use Rattle.vx_model.specs.Words.{total_by}
use Rattle.vx_model.specs.ChunkData.{ChunkData, ChunkList, chunked_piece, no_pieces, part, pieces_of, pieces_in, held}
use Rattle.vx_rules.specs.Regroup.{Rule}
use Rattle.vx_rules.specs.Stream.{Chunk}
use Rattle.vx_layout_spec.specs.Parts.{all_parts}

-- twice the size, at most the greatest 64-bit number
abbrev pub twice : ℕ → ℕ
twice size = min (2 * size) (2 ^ 64 - 1)

-- from the front, as many as it takes until at most the size is held
abbrev pub flushed : ℕ → List ChunkData → List ChunkData
flushed size [] = []
flushed size (p ∷ ps) = if nat_le (total_by held (p ∷ ps)) size then [] else p ∷ flushed size ps

abbrev pub still_held : ℕ → List ChunkData → List ChunkData
still_held size [] = []
still_held size (p ∷ ps) = if nat_le (total_by held (p ∷ ps)) size then p ∷ ps else still_held size ps

abbrev pub is_full : ℕ → List ChunkData → Bool
is_full size ps = nat_le (twice size) (total_by held ps)

-- chunks leave where at least twice the size is held, all at the last chunk
abbrev pub flushes : ℕ → Rule (List ChunkData)
flushes size = record {
  start = [];
  leaves = λ ps c. if is_full size (ps ++ (c ∷ [])) then flushed size (ps ++ (c ∷ [])) else [];
  holds = λ ps c. if is_full size (ps ++ (c ∷ [])) then still_held size (ps ++ (c ∷ [])) else ps ++ (c ∷ []);
  rest = λ ps c. ps ++ (c ∷ []);
}

-- ---- collecting

abbrev pub concatenated : Ty → List ChunkData → ChunkData
concatenated t ps = chunked_piece t (pieces_of (all_parts ps))

abbrev pub chunk_pieces : List Chunk → List ChunkData
chunk_pieces [] = []
chunk_pieces (c ∷ cs) = c.1 ∷ chunk_pieces cs

abbrev pub last_path : List ℕ → List Chunk → List ℕ
last_path p [] = p
last_path p (c ∷ cs) = last_path c.0 cs

-- one chunk of all, under the last one's own path, once the stream has ended; nothing of nothing
abbrev pub collected : Ty → List Chunk → Bool → List Chunk
collected t [] ended = []
collected t (c ∷ cs) ended = if ended then (last_path c.0 cs, concatenated t (chunk_pieces (c ∷ cs))) ∷ [] else []
