-- The scripts of the source and of the nodes Flat, Chunked and Struct, read off from the streams that they
-- are given: the paths of the items, and whether the stream ends. A script on an open stream ends before
-- the action that would read past what is known; a refusing action is the last of its script.
use Rattle.std.specs.Prelude.{ℕ, zero, suc, Bool, true, false, List, [], ◌∷◌, ◌++◌, map}
use Rattle.vx_path.specs.Path.{under, Eof, eof_path, inside, next}
use Rattle.vx_tasks.specs.Task.{Action, Kind, Task, Forest}
use Rattle.vx_tasks.specs.Task.Prompt.{Batch, End, Close}
use Rattle.vx_tasks.specs.Task.Kind.{Free, Take, TakeEnd, Put, Append, Join}
use Rattle.vx_tasks.specs.Task.Forest.{Bare, Node}

-- an action after which the task holds these paths
abbrev pub acts : Kind → List (List ℕ) → Action
acts k holds = record { kind = k; starts = []; gives = []; shuts = []; holds = holds; refuses = false }

-- an action that puts an item of path p on child j's queue
abbrev pub puts : ℕ → List ℕ → List (List ℕ) → Action
puts j p holds = record { kind = Put j; starts = []; gives = (j, p) ∷ []; shuts = []; holds = holds; refuses = false }

-- the closing of the queues of these children
abbrev pub closing : List ℕ → Action
closing js = record { kind = Free Close; starts = []; gives = []; shuts = js; holds = []; refuses = false }

-- an action that refuses
abbrev pub refusal : Kind → Action
refusal k = record { kind = k; starts = []; gives = []; shuts = []; holds = []; refuses = true }

-- the actions, where the stream ends
abbrev pub once_ended : Bool → List Action → List Action
once_ended true todo = todo
once_ended false todo = []

-- The source reads batches and puts them on the root's queue. It holds a pointer, at the path of the next
-- batch, until it reads the end. Where a batch doesn't fit the schema, the Batch that reads it refuses.
-- `here` is the path of the first batch, `fits` tells that all batches fit, so that the source ends.

abbrev pub source_script : Eof → ℕ → Bool → List Action
source_script here zero true = acts (Free End) [] ∷ closing (0 ∷ []) ∷ []
source_script here zero false = refusal (Free Batch) ∷ []
source_script here (suc n) fits =
    acts (Free Batch) (eof_path here ∷ eof_path (next here) ∷ []) ∷ puts 0 (eof_path here) (eof_path (next here) ∷ [])
    ∷ source_script (next here) n fits

-- the paths of the batches
abbrev pub batch_paths : Eof → ℕ → List (List ℕ)
batch_paths here zero = []
batch_paths here (suc n) = eof_path here ∷ batch_paths (next here) n

abbrev pub source_task : Eof → ℕ → Bool → Task
source_task here n fits = record {
  name = 0 ∷ [];
  script = source_script here n fits;
  first = 0 ∷ [];
  held = eof_path here ∷ [];
  spare = [];
  eof = [];
}

-- Flat takes its one chunk, sees the end, and appends. It refuses a chunk whose encoding isn't allowed
-- (`bad`) and a second chunk. It gives its eof path up at the start.

abbrev pub flat_script : Bool → List (List ℕ) → Bool → List Action
flat_script bad [] ended = once_ended ended (acts TakeEnd [] ∷ [])
flat_script true (p ∷ ps) ended = refusal Take ∷ []
flat_script false (p ∷ []) ended = acts Take (p ∷ []) ∷ once_ended ended (acts TakeEnd (p ∷ []) ∷ acts (Append p) [] ∷ [])
flat_script false (p ∷ q ∷ ps) ended = acts Take (p ∷ []) ∷ refusal Take ∷ []

abbrev pub flat_task : List ℕ → Eof → Bool → List (List ℕ) → Bool → Task
flat_task name e bad ps ended = record {
  name = name;
  script = flat_script bad ps ended;
  first = [];
  held = [];
  spare = [];
  eof = eof_path e;
}

-- Chunked starts a child for each chunk that it takes, puts the chunk on its queue and closes it. It holds
-- a pointer, at the eof path that the next child stands under, until it sees the end; then it joins.
-- Where a child's start would refuse (`barred`), the first Take does.

abbrev pub chunk_takes : ℕ → List (List ℕ) → Eof → List Action
chunk_takes j [] e = []
chunk_takes j (p ∷ ps) e =
    record { kind = Take; starts = j ∷ []; gives = (j, p) ∷ []; shuts = j ∷ []; holds = eof_path (next e) ∷ []; refuses = false }
    ∷ chunk_takes (suc j) ps (next e)

abbrev pub chunked_script : Bool → List (List ℕ) → Bool → Eof → List Action
chunked_script true (p ∷ ps) ended e = refusal Take ∷ []
chunked_script barred ps ended e = chunk_takes 0 ps e ++ once_ended ended (acts TakeEnd [] ∷ acts Join [] ∷ [])

abbrev pub chunked_task : List ℕ → Eof → Bool → List (List ℕ) → Bool → Task
chunked_task name e barred ps ended = record {
  name = name;
  script = chunked_script barred ps ended e;
  first = [];
  held = eof_path e ∷ [];
  spare = [];
  eof = eof_path e;
}

-- Struct and List take a chunk, make the ids of its columns and put each on its column's queue. At the end
-- they close all queues and join. The columns are started with the node. A list refuses a stream that ends
-- without a chunk (`list`); then its columns' streams stay open.

-- the paths of the columns of the chunk at p, from c on, so many
abbrev pub column_paths : List ℕ → ℕ → ℕ → List (List ℕ)
column_paths p c zero = []
column_paths p c (suc k) = under p c ∷ column_paths p (suc c) k

abbrev pub column_puts : List ℕ → ℕ → ℕ → List Action
column_puts p c zero = []
column_puts p c (suc k) = puts c (under p c) (column_paths p (suc c) k) ∷ column_puts p (suc c) k

abbrev pub column_takes : ℕ → List (List ℕ) → List Action
column_takes w [] = []
column_takes w (p ∷ ps) = acts Take (column_paths p 0 w) ∷ (column_puts p 0 w ++ column_takes w ps)

-- the numbers from c on, so many
abbrev pub numbers : ℕ → ℕ → List ℕ
numbers c zero = []
numbers c (suc k) = c ∷ numbers (suc c) k

abbrev pub columns_script : Bool → ℕ → List (List ℕ) → Bool → List Action
columns_script true w [] true = refusal TakeEnd ∷ []
columns_script list w ps ended = column_takes w ps ++ once_ended ended (acts TakeEnd [] ∷ closing (numbers 0 w) ∷ acts Join [] ∷ [])

abbrev pub columns_task : List ℕ → Eof → Bool → ℕ → List (List ℕ) → Bool → Task
columns_task name e list w ps ended = record {
  name = name;
  script = columns_script list w ps ended;
  first = numbers 0 w;
  held = [];
  spare = [];
  eof = eof_path e;
}

-- whether the columns' streams end
abbrev pub columns_end : Bool → List (List ℕ) → Bool → Bool
columns_end true [] true = false
columns_end list ps ended = ended

-- the paths of column c of the chunks at ps
abbrev pub column_stream : ℕ → List (List ℕ) → List (List ℕ)
column_stream c ps = map (λ p. under p c) ps

-- Struct without columns takes its chunks and counts their rows.

abbrev pub rows_script : List (List ℕ) → Bool → List Action
rows_script [] ended = once_ended ended (acts TakeEnd [] ∷ [])
rows_script (p ∷ ps) ended = acts Take [] ∷ rows_script ps ended

abbrev pub rows_task : List ℕ → Eof → List (List ℕ) → Bool → Task
rows_task name e ps ended = record {
  name = name;
  script = rows_script ps ended;
  first = [];
  held = [];
  spare = [];
  eof = eof_path e;
}

-- A whole tree: the source on top, its only child the root node's task, whose name is [1].
abbrev pub machine : Eof → ℕ → Bool → Task → Forest → Forest
machine here n fits root kids = Node (source_task here n fits) (Node root kids Bare) Bare

-- Two strategies, whole: chunks that are each one flat segment, and a struct of columns of that kind.

abbrev pub flat_kids : List ℕ → ℕ → List (List ℕ) → Eof → Forest
flat_kids name j [] e = Bare
flat_kids name j (p ∷ ps) e = Node (flat_task (under name j) (inside e) false (p ∷ []) true) Bare (flat_kids name (suc j) ps (next e))

abbrev pub chunked_columns : List ℕ → ℕ → ℕ → List (List ℕ) → Bool → Eof → Forest
chunked_columns name c zero ps ended e = Bare
chunked_columns name c (suc k) ps ended e =
    Node (chunked_task (under name c) (inside e) false (column_stream c ps) ended) (flat_kids (under name c) 0 (column_stream c ps) (inside e))
    (chunked_columns name (suc c) k ps ended (next e))
