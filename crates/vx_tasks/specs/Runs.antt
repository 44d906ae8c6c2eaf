-- Whole machines, and what their runs are.
use Rattle.std.specs.Prelude.{◌≡◌, ℕ, zero, suc, ◌+◌, ◌*◌, ◌<◌, true, false, List, [], ◌∷◌, length, take, drop}
use Rattle.vx_path.specs.Path.{Eof, inside, next, under, root_eof}
use Rattle.vx_tasks.specs.Task.{Forest, Kind}
use Rattle.vx_tasks.specs.Task.Prompt.{Batch, End, Close}
use Rattle.vx_tasks.specs.Task.Kind.{Free, Take, TakeEnd, Put, Append, Join}
use Rattle.vx_tasks.specs.Task.Forest.{Bare, Node}
use Rattle.vx_tasks.specs.State.Counts.{Zeros}
use Rattle.vx_tasks.specs.Run.{Note, run, moves_of, written, trace, ready_counts, work, ready}
use Rattle.vx_tasks.specs.Nodes.{batch_paths, machine, chunked_task, flat_task, flat_kids, columns_task, chunked_columns, column_stream}

-- where a run begins: batches at [0, 0], [0, 1], ..

abbrev pub first_batch : Eof
first_batch = record { stem = 0 ∷ []; last = 0 }

-- n batches into chunks that are each one flat segment
abbrev pub chunks_of_flat : Eof → Eof → ℕ → Forest
chunks_of_flat here e n =
    machine here n true (chunked_task (1 ∷ []) e false (batch_paths here n) true) (flat_kids (1 ∷ []) 0 (batch_paths here n) e)

-- n batches into a struct of c columns, each of such chunks
abbrev pub struct_of_chunks : Eof → Eof → ℕ → ℕ → Forest
struct_of_chunks here e n c =
    machine here n true (columns_task (1 ∷ []) e false c (batch_paths here n) true) (chunked_columns (1 ∷ []) 0 c (batch_paths here n) true e)

-- How many steps they take, under every schedule.

abbrev pub ChunkedSteps : Type 0
ChunkedSteps = (here e : Eof) (n : ℕ) (picks : List ℕ) → length (run (chunks_of_flat here e n) Zeros picks (work (chunks_of_flat here e n))) ≡ 6 * n + 4

abbrev pub StructSteps : Type 0
StructSteps = (here e : Eof) (n c : ℕ) (picks : List ℕ) → 0 < c
    → length (run (struct_of_chunks here e n c) Zeros picks (work (struct_of_chunks here e n c))) ≡ 3 * n + 5 + 5 * (c * n) + 2 * c

-- A note: how many were ready, which was picked, the task, its action.
abbrev pub noted : ℕ → ℕ → List ℕ → Kind → Note
noted ready picked name kind = record { ready = ready; picked = picked; name = name; kind = kind }

-- the trace of one batch into chunked flat
abbrev pub OneBatch : Type 0
OneBatch = trace (chunks_of_flat first_batch root_eof 1) [] ≡
    noted 1 0 (0 ∷ []) (Free Batch) ∷ noted 1 0 (0 ∷ []) (Put 0) ∷ noted 2 0 (0 ∷ []) (Free End) ∷ noted 2 0 (0 ∷ []) (Free Close)
    ∷ noted 1 0 (1 ∷ []) Take ∷ noted 2 0 (1 ∷ []) TakeEnd ∷ noted 1 0 (1 ∷ 0 ∷ []) Take ∷ noted 1 0 (1 ∷ 0 ∷ []) TakeEnd
    ∷ noted 1 0 (1 ∷ 0 ∷ []) (Append (0 ∷ 0 ∷ [])) ∷ noted 1 0 (1 ∷ []) Join ∷ []

-- of no batch
abbrev pub NoBatch : Type 0
NoBatch = trace (chunks_of_flat first_batch root_eof 0) [] ≡
    noted 1 0 (0 ∷ []) (Free End) ∷ noted 1 0 (0 ∷ []) (Free Close) ∷ noted 1 0 (1 ∷ []) TakeEnd ∷ noted 1 0 (1 ∷ []) Join ∷ []

-- how many are ready at each step of two batches
abbrev pub TwoBatches : Type 0
TwoBatches = ready_counts (chunks_of_flat first_batch root_eof 2) [] ≡ 1 ∷ 1 ∷ 2 ∷ 1 ∷ 2 ∷ 3 ∷ 3 ∷ 2 ∷ 3 ∷ 2 ∷ 2 ∷ 2 ∷ 1 ∷ 1 ∷ 1 ∷ 1 ∷ []

-- two columns and two batches: two schedules part at the third step, and append the same
abbrev pub two_columns : Forest
two_columns = struct_of_chunks first_batch root_eof 2 2

abbrev pub TwoColumns : Type 0
TwoColumns =
    (third (trace two_columns []) ≡ noted 2 0 (0 ∷ []) (Free Batch) ∷ [])
    × (third (trace two_columns (5 ∷ 0 ∷ 7 ∷ 3 ∷ [])) ≡ noted 2 1 (1 ∷ []) Take ∷ [])
    × (written (moves_of (run two_columns Zeros [] 35)) ≡ (0 ∷ 0 ∷ 0 ∷ []) ∷ (0 ∷ 0 ∷ 1 ∷ []) ∷ (0 ∷ 1 ∷ 0 ∷ []) ∷ (0 ∷ 1 ∷ 1 ∷ []) ∷ [])
    × (written (moves_of (run two_columns Zeros (5 ∷ 0 ∷ 7 ∷ 3 ∷ []) 35)) ≡ (0 ∷ 0 ∷ 0 ∷ []) ∷ (0 ∷ 0 ∷ 1 ∷ []) ∷ (0 ∷ 1 ∷ 0 ∷ []) ∷ (0 ∷ 1 ∷ 1 ∷ []) ∷ [])
  where
    third : List Note → List Note
    third xs = take 1 (drop 2 xs)

-- Machines that refuse.

abbrev pub flat_columns : List ℕ → ℕ → ℕ → List (List ℕ) → Eof → Forest
flat_columns name c zero ps e = Bare
flat_columns name c (suc k) ps e =
    Node (flat_task (under name c) (inside e) false (column_stream c ps) true) Bare (flat_columns name (suc c) k ps (next e))

-- two batches into a struct of two columns, each of one flat segment: a second chunk is refused
abbrev pub struct_of_flat : Forest
struct_of_flat = machine first_batch 2 true (columns_task (1 ∷ []) root_eof false 2 (batch_paths first_batch 2) true) (flat_columns (1 ∷ []) 0 2 (batch_paths first_batch 2) root_eof)

-- one batch into chunked flat, and a second one that isn't of the schema
abbrev pub wrong_batch : Forest
wrong_batch = machine first_batch 1 false (chunked_task (1 ∷ []) root_eof false (batch_paths first_batch 1) false) (flat_kids (1 ∷ []) 0 (batch_paths first_batch 1) root_eof)

-- under every schedule fewer steps than the work are taken, and nothing is appended
abbrev pub ManyChunks : Type 0
ManyChunks = (picks : List ℕ) → let steps = run struct_of_flat Zeros picks (work struct_of_flat) in
    (length steps < work struct_of_flat) × (written (moves_of steps) ≡ [])

-- it depends on the schedule whether the batch before the wrong one is appended
abbrev pub WrongBatch : Type 0
WrongBatch =
    (trace wrong_batch [] ≡ noted 1 0 (0 ∷ []) (Free Batch) ∷ noted 1 0 (0 ∷ []) (Put 0) ∷ [])
    × (written (moves_of (run wrong_batch Zeros (0 ∷ 0 ∷ 1 ∷ 1 ∷ 1 ∷ 1 ∷ []) (work wrong_batch))) ≡ (0 ∷ 0 ∷ []) ∷ [])
    × (length (run wrong_batch Zeros (0 ∷ 0 ∷ 1 ∷ 1 ∷ 1 ∷ 1 ∷ []) (work wrong_batch)) ≡ 6)
