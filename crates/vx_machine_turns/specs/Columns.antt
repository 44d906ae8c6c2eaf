-- What struct and list nodes have in common: columns that are started with them, and that get each chunk's parts.
use Rattle.std.specs.Prelude.{ℕ, suc, ◌+◌, List, [], ◌∷◌, length}
use Rattle.vx_model.specs.ChunkData.{ChunkData}
use Rattle.vx_model.specs.Words.{tail}
use Rattle.vx_path.specs.Path.{under, Eof, inside, next}
use Rattle.vx_rules.specs.Columns.{head_piece}
use Rattle.vx_tasks.specs.Task.Kind.{Join}
use Rattle.vx_tasks.specs.Nodes.{numbers}
use Rattle.vx_machine_turns.specs.Forms.{Writer}
use Rattle.vx_machine_turns.specs.Acts.{Seed, Act, does, put_item, close_queues}
use Rattle.vx_machine_turns.specs.Starts.{seed_of}

-- from column c on, with its eof path inside e
abbrev pub column_seeds : List ℕ → ℕ → List Writer → Eof → List Seed
column_seeds name c [] e = []
column_seeds name c (w ∷ ws) e = seed_of w.1 w.0 (under name c) (inside e) ∷ column_seeds name (suc c) ws (next e)

-- the columns of the chunk at p, from c on
abbrev pub column_puts : ℕ → List ℕ → List ChunkData → List Writer → List Act
column_puts c p columns [] = []
column_puts c p columns (w ∷ ws) = put_item c (under p c, head_piece columns) ∷ column_puts (suc c) p (tail columns) ws

-- none without columns
abbrev pub column_ends : List Writer → List Act
column_ends [] = []
column_ends (w ∷ ws) = close_queues (numbers 0 (length (w ∷ ws))) ∷ does Join ∷ []

-- the pointer behind the last column's eof path
abbrev pub column_indices : List Writer → Eof → List ℕ
column_indices ws e = (e.last + length ws) ∷ []
