-- Dictionaries by runs: the longest stretches of rows whose distinct cells fit, with their codes and values.
use Rattle.std.specs.Prelude.{ℕ, zero, suc, ◌+◌, ◌-◌, ◌^◌, ◌||◌, ◌&&◌, min, nat_le, bytes_eq, Bool, true, false, if◌then◌else◌, List, [], ◌∷◌, ◌++◌, length, map, pos}
use Rattle.std.specs.Ordering.{int_eq}
use mathlib.Core.Bool.{beq}
use Rattle.vx_model.specs.declared.ptype.PType.TheVariants.{U8, U16}
use Rattle.vx_model.specs.Words.{total_by}
use Rattle.vx_model.specs.Numbers.{ptype_bytes}
use Rattle.vx_model.specs.Ty.{Ty, primitive}
use Rattle.vx_model.specs.CellData.{CellData, null_cell, bool_cell, int_cell, text_cell, bytes_cell}
use Rattle.vx_model.specs.ChunkData.{ChunkData, plain_piece, cells}
use Rattle.vx_path.specs.Path.{under}
use Rattle.vx_rules.specs.Stream.{Chunk}
use Rattle.vx_rules.specs.Columns.{offset_cell}

pub record DictOptions : Type 0 where
  -- costs of a run's distinct cells, summed, and their number
  pub max_bytes : ℕ
  pub max_len : ℕ
  -- the compressor's number for the first chunk
  pub probe : ℕ

-- ---- distinct cells

abbrev pub same_cell : CellData → CellData → Bool
same_cell null_cell null_cell = true
same_cell (bool_cell a) (bool_cell b) = beq a b
same_cell (int_cell a) (int_cell b) = int_eq a b
same_cell (text_cell a) (text_cell b) = bytes_eq a b
same_cell (bytes_cell a) (bytes_cell b) = bytes_eq a b
same_cell c d = false

abbrev pub has_cell : CellData → List CellData → Bool
has_cell c [] = false
has_cell c (d ∷ ds) = same_cell d c || has_cell c ds

-- in order of first occurrence
abbrev pub with_cell : List CellData → CellData → List CellData
with_cell ds c = if has_cell c ds then ds else ds ++ (c ∷ [])

-- the place of a cell's first occurrence
abbrev pub place_in : CellData → List CellData → ℕ
place_in c [] = 0
place_in c (d ∷ ds) = if same_cell d c then 0 else suc (place_in c ds)

-- a text or bytes cell costs 16 bytes more than its length, an integer its width; nulls cost the same without a length
abbrev pub cell_cost : Ty → CellData → ℕ
cell_cost (primitive p n) c = ptype_bytes p
cell_cost t (text_cell s) = length s + 16
cell_cost t (bytes_cell s) = length s + 16
cell_cost t c = 16

-- codes have at most 16 bits
abbrev pub most_cells : DictOptions → ℕ
most_cells o = min o.max_len (2 ^ 16 - 1)

-- distinct cells fit where there is at most one, or where they are few and cost little
abbrev pub cells_fit : DictOptions → Ty → List CellData → Bool
cells_fit o t ds = nat_le (length ds) 1 || (nat_le (length ds) (most_cells o) && nat_le (total_by (cell_cost t) ds) o.max_bytes)

-- ---- the stretches of a chunk's rows

-- What a chunk's rows are cut into: the codes and the distinct cells of each run that ends in it, in order, and those of
-- the run that goes on.
pub record Cut : Type 0 where
  pub closed : List (List ℕ × List CellData)
  pub codes : List ℕ
  pub distinct : List CellData

abbrev pub behind : List ℕ → List CellData → Cut → Cut
behind codes ds cut = record { closed = (codes, ds) ∷ cut.closed; codes = cut.codes; distinct = cut.distinct }

-- A row joins the run where its distinct cells still fit with it, and else begins the next one.
abbrev pub stretches : DictOptions → Ty → List CellData → List ℕ → List CellData → Cut
stretches o t ds codes [] = record { closed = []; codes = codes; distinct = ds }
stretches o t ds codes (c ∷ cs) =
    if cells_fit o t (with_cell ds c)
    then stretches o t (with_cell ds c) (codes ++ (place_in c (with_cell ds c) ∷ [])) cs
    else behind codes ds (stretches o t (c ∷ []) (0 ∷ []) cs)

-- ---- the streams of the runs

abbrev pub code_type : DictOptions → Ty
code_type o = primitive (if nat_le o.max_len 255 then U8 else U16) false

abbrev pub codes_piece : DictOptions → List ℕ → ChunkData
codes_piece o codes = plain_piece (code_type o) (map offset_cell codes)

-- a run's codes, a chunk for each chunk of the stream that it reaches, and its values once it has ended
pub record Run : Type 0 where
  pub codes : List Chunk
  pub values : List Chunk
  pub closed : Bool

-- the runs that end at the chunk at p, the first of which has codes already; `r` is the rank of what comes first
abbrev pub ended_runs : DictOptions → Ty → List ℕ → ℕ → List Chunk → List (List ℕ × List CellData) → List Run
ended_runs o t p r cur [] = []
ended_runs o t p r cur (x ∷ xs) =
    record { codes = cur ++ ((under p r, codes_piece o x.0) ∷ []); values = (under p (suc r), plain_piece t x.1) ∷ []; closed = true } ∷ ended_runs o t p (r + 2) [] xs

-- the codes of the run that goes on
abbrev pub next_codes : DictOptions → List ℕ → ℕ → List Chunk → List (List ℕ × List CellData) → List ℕ → List Chunk
next_codes o p r cur [] codes = cur ++ ((under p r, codes_piece o codes) ∷ [])
next_codes o p r cur (x ∷ xs) codes = next_codes o p (r + 2) [] xs codes

abbrev pub next_rank : ℕ → List (List ℕ × List CellData) → ℕ
next_rank r [] = r
next_rank r (x ∷ xs) = next_rank (r + 2) xs

-- a run that has codes goes on
abbrev pub open_run : List Chunk → List Run
open_run [] = []
open_run (c ∷ cs) = record { codes = c ∷ cs; values = []; closed = false } ∷ []

abbrev pub cut_at : DictOptions → Ty → List CellData → Chunk → Cut
cut_at o t ds c = stretches o t ds [] (cells c.1)

-- The runs of a stream, the first of which has the distinct cells and the codes so far. Of an open stream the newest
-- chunk isn't looked at; at the last chunk of an ended one the last run ends.
abbrev pub runs_from : DictOptions → Ty → List CellData → List Chunk → List Chunk → Bool → List Run
runs_from o t ds cur [] ended = []
runs_from o t ds cur (c ∷ []) ended =
    if ended
    then ended_runs o t c.0 0 cur ((cut_at o t ds c).closed ++ (((cut_at o t ds c).codes, (cut_at o t ds c).distinct) ∷ []))
    else open_run cur
runs_from o t ds cur (c ∷ d ∷ cs) ended =
    ended_runs o t c.0 0 cur (cut_at o t ds c).closed
    ++ runs_from o t (cut_at o t ds c).distinct (next_codes o c.0 0 cur (cut_at o t ds c).closed (cut_at o t ds c).codes) (d ∷ cs) ended

abbrev pub runs : DictOptions → Ty → List Chunk → Bool → List Run
runs o t items ended = runs_from o t [] [] items ended

-- the distinct cells, in order of first occurrence, of ds and then of the rows
abbrev pub distinct_from : List CellData → List CellData → List CellData
distinct_from ds [] = ds
distinct_from ds (c ∷ cs) = distinct_from (with_cell ds c) cs
