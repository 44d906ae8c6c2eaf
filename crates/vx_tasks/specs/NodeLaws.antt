-- The laws of the nodes: each keeps the rules, where its children do.
use Rattle.std.specs.Prelude.{ℕ, Bool, true, false, List, [], ◌∷◌}
use Rattle.vx_path.specs.Path.{Eof}
use Rattle.vx_tasks.specs.Task.{Task, Forest}
use Rattle.vx_tasks.specs.Task.Forest.{Bare}
use Rattle.vx_tasks.specs.Rules.{KeepsRules, KeepsOrder, Rises, names}
use Rattle.vx_tasks.specs.Nodes.{flat_task, chunked_task, columns_task, columns_end, rows_task, batch_paths, machine}
use Rattle.vx_tasks.specs.Good.{Good, ChunkKids, ColumnKids}

abbrev pub FlatIsGood : Type 0
FlatIsGood = (name : List ℕ) (e : Eof) (bad : Bool) (ps : List (List ℕ)) (ended : Bool) → Good name ps ended e (flat_task name e bad ps ended) Bare

-- a struct without columns
abbrev pub RowsAreGood : Type 0
RowsAreGood = (name : List ℕ) (e : Eof) (ps : List (List ℕ)) (ended : Bool) → Good name ps ended e (rows_task name e ps ended) Bare

abbrev pub ChunkedIsGood : Type 0
ChunkedIsGood = (name : List ℕ) (e : Eof) (ps : List (List ℕ)) (ended : Bool) (kids : Forest) → ChunkKids name 0 ps e kids
    → Good name ps ended e (chunked_task name e false ps ended) kids

-- where the first child would refuse to start, the first take refuses, and no child is started
abbrev pub BarredIsGood : Type 0
BarredIsGood = (name : List ℕ) (e : Eof) (p : List ℕ) (ps : List (List ℕ)) (ended : Bool)
    → Good name (p ∷ ps) ended e (chunked_task name e true (p ∷ ps) ended) Bare

-- Struct and List with w columns
abbrev pub ColumnsAreGood : Type 0
ColumnsAreGood = (name : List ℕ) (e : Eof) (list : Bool) (w : ℕ) (ps : List (List ℕ)) (ended : Bool) (kids : Forest)
    → ColumnKids name 0 w ps (columns_end list ps ended) e kids → Good name ps ended e (columns_task name e list w ps ended) kids

-- a source on top of a root that is good for its batches: the tree keeps all rules, and its names ascend
abbrev pub MachineKeeps : Type 0
MachineKeeps = (here : Eof) (n : ℕ) (fits : Bool) (e : Eof) (root : Task) (kids : Forest) → Good (1 ∷ []) (batch_paths here n) fits e root kids
    → KeepsRules (machine here n fits root kids) × KeepsOrder (machine here n fits root kids) × Rises (names (machine here n fits root kids))
