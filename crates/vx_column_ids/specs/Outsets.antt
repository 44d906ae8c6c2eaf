-- Where the machines of a struct's columns begin.
use Rattle.std.specs.Prelude.{◌≡◌, ℕ, zero, suc, ◌+◌, ◌^◌, ◌<◌, List, [], ◌∷◌, ◌++◌}
use Rattle.vx_path.specs.Path.{Eof}
use Rattle.vx_machine_ids.specs.Stock.{Stock, all_stock, end_stock}
use Rattle.vx_named_tasks.specs.Names.{Outset, handed, column_outset}
use Rattle.vx_column_ids.specs.declared.part.ColumnPart.{ColumnPart}

-- of so many columns, with so many batches each
abbrev pub column_outsets : ℕ → ℕ → List Outset
column_outsets zero n = []
column_outsets (suc c) n = column_outsets c n ++ (column_outset c n ∷ [])

-- of a column's ids and its pointer
abbrev pub outset_of : ColumnPart → Outset
outset_of p = record { names = handed p.ids.items; eof = p.eof }

-- ---- on the way

-- the pointers of so many batches from the i-th on, each before its id of this column
abbrev pub batch_ends : ℕ → ℕ → ℕ → List Eof
batch_ends c i zero = []
batch_ends c i (suc n) = record { stem = 0 ∷ i ∷ []; last = c } ∷ batch_ends c (suc i) n

-- the pointers stand before the ids of some column, and have a next one
abbrev pub StandBefore : List Eof → Type 0
StandBefore es = (c : ℕ) × (n : ℕ) × (es ≡ batch_ends c 0 n) × (c + 1 < 2 ^ 64)

abbrev pub ends_stock : List Eof → Stock
ends_stock es = all_stock end_stock es
