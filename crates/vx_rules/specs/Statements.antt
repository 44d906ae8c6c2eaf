-- The laws of regrouping and of runs.
use Rattle.std.specs.Prelude.{◌≡◌, ℕ, suc, ◌+◌, ◌-◌, ◌*◌, ◌^◌, ◌<◌, ◌⊎◌, Bool, true, false, List, [], ◌∷◌, ◌++◌, length, map, Option, Some}
use Rattle.vx_model.specs.Words.{total_by}
use Rattle.vx_model.specs.Ty.{Ty}
use Rattle.vx_model.specs.CellData.{CellData}
use Rattle.vx_model.specs.ValueData.{value}
use Rattle.vx_model.specs.ChunkData.{ChunkData, cells, held, is_dict_type}
use Rattle.vx_layout_spec.specs.Rows.{dict_rows}
use Rattle.vx_rules.specs.Stream.{Chunk, stream_cells, Chunks}
use Rattle.vx_rules.specs.Regroup.{Rule, regrouped}
use Rattle.vx_rules.specs.Blocks.{BlockOptions, block_len, blocks}
use Rattle.vx_rules.specs.Flushes.{twice, flushes, collected}
use Rattle.vx_rules.specs.Runs.{DictOptions, with_cell, cells_fit, Cut, cut_at, Run, runs, distinct_from}

-- Each regrouping keeps the rows of an ended stream, in order.
pub record KeepsRows (t : Ty) (items : List Chunk) : Type 0 where
  pub by_blocks : (o : BlockOptions) → stream_cells (regrouped (blocks o t) [] items true) ≡ stream_cells items
  pub by_bytes : (size : ℕ) → stream_cells (regrouped (flushes size) [] items true) ≡ stream_cells items
  pub into_one : stream_cells (collected t items true) ≡ stream_cells items

abbrev pub RegroupingKeepsRows : Type 0
RegroupingKeepsRows = (t : Ty) (items : List Chunk) → KeepsRows t items

abbrev pub AllButLast : (Chunk → Type 0) → List Chunk → Type 0
AllButLast P [] = Unit {0}
AllButLast P (x ∷ []) = Unit {0}
AllButLast P (x ∷ y ∷ ys) = P x × AllButLast P (y ∷ ys)

-- a positive multiple of the length in rows
abbrev pub IsMultiple : ℕ → Chunk → Type 0
IsMultiple len c = (q : ℕ) × (length (cells c.1) ≡ len * suc q)

-- Every block but the last has a positive multiple of the block length in rows.
abbrev pub BlocksAreMultiples : Type 0
BlocksAreMultiples = (o : BlockOptions) (t : Ty) (items : List Chunk) (ended : Bool) → 0 < o.multiple
    → AllButLast (IsMultiple (block_len o t)) (regrouped (blocks o t) [] items ended)

-- what a buffer holds after these chunks, none of them the last
abbrev pub held_after : ℕ → List ChunkData → List ChunkData → List ChunkData
held_after size ps [] = ps
held_after size ps (c ∷ cs) = held_after size ((flushes size).holds ps c) cs

-- Before each chunk a buffer of a size above 0 holds less than twice its size.
abbrev pub BufferHoldsLess : Type 0
BufferHoldsLess = (size : ℕ) (cs : List ChunkData) → 0 < size → size < 2 ^ 64 - 1 → total_by held (held_after size [] cs) < twice size

-- each run's codes applied to its values give its rows, and these are all rows in order
abbrev pub RunsGive : List Run → List CellData → Type 0
RunsGive [] rows = rows ≡ []
RunsGive (r ∷ rs) rows = (part : List CellData) × (later : List CellData) × (rows ≡ part ++ later)
    × (dict_rows (map value (stream_cells r.values) ∷ map value (stream_cells r.codes) ∷ []) ≡ Some (map value part)) × RunsGive rs later

abbrev pub RunsGiveRows : Type 0
RunsGiveRows = (o : DictOptions) (t : Ty) (c : Chunk) (cs : List Chunk) → is_dict_type t ≡ true → Chunks t (c ∷ cs) → RunsGive (runs o t (c ∷ cs) true) (stream_cells (c ∷ cs))

-- A run that ends in the rows ends before a row with which its distinct cells don't fit any more; with each of its own
-- rows they did.
abbrev pub CutLongest : DictOptions → Ty → List CellData → List (List ℕ × List CellData) → List CellData → List CellData → Type 0
CutLongest o t ds [] es rows = (es ≡ distinct_from ds rows) × ((rows ≡ []) ⊎ (cells_fit o t es ≡ true))
CutLongest o t ds (x ∷ xs) es rows = (part : List CellData) × (c : CellData) × (later : List CellData) × (rows ≡ part ++ (c ∷ later)) × (x.1 ≡ distinct_from ds part)
    × ((part ≡ []) ⊎ (cells_fit o t x.1 ≡ true)) × (cells_fit o t (with_cell x.1 c) ≡ false) × CutLongest o t [] xs es (c ∷ later)

abbrev pub RunsAreLongest : Type 0
RunsAreLongest = (o : DictOptions) (t : Ty) (ds : List CellData) (c : Chunk) → CutLongest o t ds (cut_at o t ds c).closed (cut_at o t ds c).distinct (cells c.1)
