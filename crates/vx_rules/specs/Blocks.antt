-- Repartition: rows leave in blocks of a multiple of the block length.
use Rattle.std.specs.Prelude.{ℕ, zero, suc, ◌+◌, ◌-◌, ◌*◌, ◌/◌, ◌&&◌, min, max, nat_lt, nat_le, Bool, if◌then◌else◌, List, [], ◌∷◌, ◌++◌, length, map, take, drop, Option, Some, None}
use Rattle.vx_model.specs.Words.{total_by}
use Rattle.vx_model.specs.ElementSize.{element_size}
use Rattle.vx_model.specs.Ty.{Ty}
use Rattle.vx_model.specs.CellData.{CellData, cell_size}
use Rattle.vx_model.specs.ChunkData.{ChunkData, plain_piece, cells}
use Rattle.vx_rules.specs.Regroup.{Rule}

pub record BlockOptions : Type 0 where
  -- row size that a block has at least, in bytes
  pub minimum : ℕ
  -- block length in rows
  pub multiple : ℕ
  -- block size to aim at, in bytes
  pub target : Option ℕ
  pub canonicalize : Bool

-- the least number of elements that take so many bytes
abbrev pub rounded_up : ℕ → ℕ → ℕ
rounded_up bytes size = (bytes + size - 1) / size

abbrev pub aimed : ℕ → Option ℕ → Option ℕ → ℕ
aimed multiple (Some target) (Some size) = max 1 (min multiple (rounded_up target size))
aimed multiple target size = multiple

-- the block length, in rows
abbrev pub block_len : BlockOptions → Ty → ℕ
block_len o t = aimed o.multiple o.target (element_size t)

-- a + len, a + 2 len, ..: so many of them
abbrev pub steps : ℕ → ℕ → ℕ → List ℕ
steps a len zero = []
steps a len (suc n) = (a + len) ∷ steps (a + len) len n

-- The check points of a chunk of n rows that has a rows before it: its start and multiples of the block length inside it,
-- and its end. The start itself is the end of the chunk before.
abbrev pub check_points : ℕ → ℕ → ℕ → List ℕ
check_points len a n = steps a len ((n - 1) / len) ++ ((a + n) ∷ [])

-- a cut comes at the first check point that has a block's rows and the minimum's bytes before it
abbrev pub is_cut : ℕ → ℕ → Ty → List CellData → ℕ → Bool
is_cut len minimum t rows p = nat_le len p && nat_le minimum (total_by (cell_size t) (take p rows))

-- it takes all whole blocks
abbrev pub cut_rows : ℕ → ℕ → ℕ
cut_rows len p = len * (p / len)

-- The rows of the blocks that are cut off, by the check points in order: c is the last cut, counted as they are, and
-- `rows` are the rows from it on.
abbrev pub block_sizes : ℕ → ℕ → Ty → ℕ → List CellData → List ℕ → List ℕ
block_sizes len minimum t c rows [] = []
block_sizes len minimum t c rows (p ∷ ps) =
    if is_cut len minimum t rows (p - c)
    then cut_rows len (p - c) ∷ block_sizes len minimum t (c + cut_rows len (p - c)) (drop (cut_rows len (p - c)) rows) ps
    else block_sizes len minimum t c rows ps

-- the row sizes from the last cut to each check point
abbrev pub tested_sizes : ℕ → ℕ → Ty → ℕ → List CellData → List ℕ → List ℕ
tested_sizes len minimum t c rows [] = []
tested_sizes len minimum t c rows (p ∷ ps) =
    total_by (cell_size t) (take (p - c) rows) ∷
    (if is_cut len minimum t rows (p - c)
    then tested_sizes len minimum t (c + cut_rows len (p - c)) (drop (cut_rows len (p - c)) rows) ps
    else tested_sizes len minimum t c rows ps)

-- the first rows in blocks of these sizes, and what is left
abbrev pub cut_off : Ty → List CellData → List ℕ → List ChunkData
cut_off t rows [] = []
cut_off t rows (k ∷ ks) = plain_piece t (take k rows) ∷ cut_off t (drop k rows) ks

abbrev pub left_over : List CellData → List ℕ → List CellData
left_over rows [] = rows
left_over rows (k ∷ ks) = left_over (drop k rows) ks

-- a last block, where rows are left
abbrev pub last_block : Ty → List CellData → List ChunkData
last_block t [] = []
last_block t (c ∷ cs) = plain_piece t (c ∷ cs) ∷ []

-- the sizes of the blocks that leave at a chunk, `rows` being held before it
abbrev pub sizes_at : BlockOptions → Ty → List CellData → ChunkData → List ℕ
sizes_at o t rows c = block_sizes (block_len o t) o.minimum t 0 (rows ++ cells c) (check_points (block_len o t) (length rows) (length (cells c)))

abbrev pub blocks : BlockOptions → Ty → Rule (List CellData)
blocks o t = record {
  start = [];
  leaves = λ rows c. cut_off t (rows ++ cells c) (sizes_at o t rows c);
  holds = λ rows c. left_over (rows ++ cells c) (sizes_at o t rows c);
  rest = λ rows c. cut_off t (rows ++ cells c) (sizes_at o t rows c) ++ last_block t (left_over (rows ++ cells c) (sizes_at o t rows c));
}
