-- A source on top of a root's task, whose batches get their paths from a pointer on, or are handed them.
use Rattle.std.specs.Prelude.{ℕ, zero, suc, ◌+◌, ◌≤◌, Bool, true, false, List, [], ◌∷◌, length}
use Rattle.vx_path.specs.Path.{Eof, eof_path, inside, next, root_eof, Scattered, Before}
use Rattle.vx_tasks.specs.Task.{Action, Task, Forest}
use Rattle.vx_tasks.specs.Task.Prompt.{Batch, End}
use Rattle.vx_tasks.specs.Task.Kind.{Free}
use Rattle.vx_tasks.specs.Task.Forest.{Bare, Node}
use Rattle.vx_tasks.specs.Nodes.{acts, puts, closing, refusal}
use Rattle.vx_tasks.specs.Runs.{first_batch}

-- where the batches' paths come from: a pointer, which moves on; or these ids, in order
pub data Names : Type 0 where
  onward : Eof → Names
  handed : List (List ℕ) → Names

-- the next batch's path, and what is left then
abbrev pub next_name : Names → List ℕ
next_name (onward e) = eof_path e
next_name (handed []) = []
next_name (handed (p ∷ ps)) = p

abbrev pub later_names : Names → Names
later_names (onward e) = onward (next e)
later_names (handed []) = handed []
later_names (handed (p ∷ ps)) = handed ps

-- the paths that are held for them: the pointer's, or all ids
abbrev pub held_names : Names → List (List ℕ)
held_names (onward e) = eof_path e ∷ []
held_names (handed ps) = ps

-- there are paths for so many batches
abbrev pub CanName : Names → ℕ → Type 0
CanName (onward e) n = Unit {0}
CanName (handed ps) n = n ≤ length ps

-- the paths of so many batches
abbrev pub paths_from : Names → ℕ → List (List ℕ)
paths_from ns zero = []
paths_from ns (suc n) = next_name ns ∷ paths_from (later_names ns) n

-- how far a pointer comes with a batch, and with so many
abbrev pub names_index : Names → List ℕ
names_index (onward e) = (e.last + 1) ∷ []
names_index (handed ps) = []

abbrev pub names_reach : Names → ℕ → List ℕ
names_reach (onward e) n = (e.last + n) ∷ []
names_reach (handed ps) n = []

-- where a machine begins: the batches' paths, and the eof path behind them all
pub record Outset : Type 0 where
  pub names : Names
  pub eof : Eof

-- the root's: [0, 0], [0, 1], .. and [1]
abbrev pub root_outset : Outset
root_outset = record { names = onward first_batch; eof = root_eof }

-- a column's of so many batches: [0, 0, c], [0, 1, c], .. and [1 + c, 0]
abbrev pub column_names : ℕ → ℕ → ℕ → List (List ℕ)
column_names c i zero = []
column_names c i (suc n) = (0 ∷ i ∷ c ∷ []) ∷ column_names c (suc i) n

abbrev pub column_outset : ℕ → ℕ → Outset
column_outset c n = record { names = handed (column_names c 0 n); eof = inside (record { stem = []; last = 1 + c }) }

-- A machine can begin there with so many batches: each has a path, of which none is a prefix of another's, and all are before
-- the eof path.
pub record CanBegin (o : Outset) (n : ℕ) : Type 0 where
  pub can : CanName o.names n
  pub apart : Scattered (paths_from o.names n)
  pub before : Before (paths_from o.names n) o.eof

-- The source reads batches and puts them on the root's queue. What it holds for more batches it gives up where it reads the end.
abbrev pub named_script : Names → ℕ → Bool → List Action
named_script ns zero true = acts (Free End) [] ∷ closing (0 ∷ []) ∷ []
named_script ns zero false = refusal (Free Batch) ∷ []
named_script ns (suc n) fits =
    acts (Free Batch) (next_name ns ∷ held_names (later_names ns)) ∷ puts 0 (next_name ns) (held_names (later_names ns))
    ∷ named_script (later_names ns) n fits

abbrev pub named_source : Names → ℕ → Bool → Task
named_source ns n fits = record {
  name = 0 ∷ [];
  script = named_script ns n fits;
  first = 0 ∷ [];
  held = held_names ns;
  spare = [];
  eof = [];
}

-- the whole tree, the root's task named [1]
abbrev pub named_machine : Names → ℕ → Bool → Task → Forest → Forest
named_machine ns n fits root kids = Node (named_source ns n fits) (Node root kids Bare) Bare
