-- What the rules give at a chunk, what they hold behind it, and the numbers that have to fit 64 bits.
use Rattle.std.specs.Prelude.{ℕ, Bool, false, if◌then◌else◌, List, [], ◌∷◌, ◌++◌, length, map, None}
use Rattle.vx_model.specs.Ty.{Ty}
use Rattle.vx_model.specs.CellData.{CellData}
use Rattle.vx_model.specs.ChunkData.{ChunkData, pieces_of, joined_cells}
use Rattle.vx_rules.specs.Regroup.{Rule}
use Rattle.vx_rules.specs.Blocks.{BlockOptions, blocks}
use Rattle.vx_rules.specs.Flushes.{flushes}
use Rattle.vx_react.specs.Reactor.{Output, collector}
use Rattle.vx_plan.specs.GroupNode.{tested_at as tested_by, held_sizes}
use Rattle.vx_regroup.specs.Held.{RowsHeld, ChunksHeld, AllHeld}

-- what leaves at a chunk
abbrev pub given : {S : Type 0} → Rule S → S → ChunkData → Bool → List ChunkData
given r s c last = if last then r.rest s c else r.leaves s c

-- ---- blocks

-- options of so many rows a block at every type. Those of a column at its type, `o` at `t`, make the same rule with
-- `block_len o t` rows.
abbrev pub exactly : ℕ → ℕ → BlockOptions
exactly len minimum = record { minimum = minimum; multiple = len; target = None; canonicalize = false }

abbrev pub block_rule : RowsHeld → Rule (List CellData)
block_rule h = blocks (exactly h.len h.minimum) h.typed

abbrev pub rows_after : RowsHeld → ChunkData → RowsHeld
rows_after h c = record { typed = h.typed; len = h.len; minimum = h.minimum; rows = (block_rule h).holds h.rows c }

-- the row sizes that a plan lists at the chunk
abbrev pub tested_at : RowsHeld → ChunkData → List ℕ
tested_at h c = tested_by (exactly h.len h.minimum) h.typed h.rows c

-- ---- buffers

abbrev pub chunks_after : ChunksHeld → ChunkData → ChunksHeld
chunks_after h c = record { size = h.size; chunks = (flushes h.size).holds h.chunks c }

-- the held sizes that a plan lists at the chunk, of whatever path
abbrev pub weights : ℕ → List ChunkData → ChunkData → List ℕ
weights size ps c = held_sizes size ps (([], c) ∷ [])

-- nothing is weighed at the last chunk
abbrev pub weighed_at : ChunksHeld → ChunkData → Bool → List ℕ
weighed_at h c last = if last then [] else weights h.size h.chunks c

-- ---- collections

abbrev pub chunk_of : Output → ChunkData
chunk_of x = x.1

-- what collecting gives, to the child
abbrev pub collected_at : AllHeld → ChunkData → Bool → List ChunkData
collected_at h c last = map chunk_of ((collector h.typed).gives h.chunks c last)

abbrev pub all_after : AllHeld → ChunkData → AllHeld
all_after h c = record { typed = h.typed; chunks = (collector h.typed).holds h.chunks c }

-- the rows of all
abbrev pub row_count : List ChunkData → ℕ
row_count ps = length (joined_cells (pieces_of ps))

-- rows are counted at the last chunk
abbrev pub counted_at : AllHeld → ChunkData → Bool → List ℕ
counted_at h c last = if last then row_count ((all_after h c).chunks) ∷ [] else []
