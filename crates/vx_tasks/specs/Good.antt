-- What each node shows of its task, its children and all below them, in terms of the stream that it is
-- given, so that a tree made of such nodes keeps the rules.
use Rattle.std.specs.Prelude.{◌≡◌, ℕ, zero, suc, ◌≤◌, Bool, true, not, List, [], ◌∷◌, length, IsTrue, IsFalse}
use Rattle.vx_path.specs.Lists.{In}
use Rattle.vx_path.specs.Path.{begins, under, Eof, eof_path, inside, next, Region}
use Rattle.vx_tasks.specs.Task.{Task, Forest, holds, takes_in, taken, next_kind, is_late, appends_in, refuses_in}
use Rattle.vx_tasks.specs.Task.Forest.{Bare, Node}
use Rattle.vx_tasks.specs.Rules.{Keeps, Apart, Rules, AllHeld, Covers, InOrder, Rises, names}
use Rattle.vx_tasks.specs.Nodes.{column_stream}
use Rattle.vx_tasks.specs.Task as task

-- how a task reads a stream of paths ps
pub record Reads (ps : List (List ℕ)) (ended : Bool) (t : Task) : Type 0 where
  pub reads_all : IsFalse (refuses_in t.script) → length ps ≤ takes_in t.script
  pub enough : takes_in t.script ≤ length ps
  pub reads_first : (n : ℕ) → IsTrue (next_kind is_late (task.next t n)) → length ps ≤ taken t n
  pub at_end : IsTrue ended → IsFalse (refuses_in t.script) → holds t (length t.script) ≡ []
  pub own : (n : ℕ) (x : List ℕ) → In x (appends_in (task.next t n)) → Covers ps t n x

-- A node's task t with its children is good for a name, a stream of paths and an eof path.
pub record Good (name : List ℕ) (ps : List (List ℕ)) (ended : Bool) (e : Eof) (t : Task) (kids : Forest) : Type 0 where
  pub eof_is : t.eof ≡ eof_path e
  pub reads : Reads ps ended t
  pub keeps : Keeps t
  pub apart : Apart t kids
  pub rules : Rules (not ended) t 0 kids
  pub order : InOrder ps t 0 kids
  -- all that is ever held at the node and below it lies in the region of its stream and eof path
  pub region : AllHeld (Region ps e) (Node t kids Bare)
  -- the names of the node's tasks begin with its name, and ascend
  pub named : (y : List ℕ) → In y (t.name ∷ names kids) → IsTrue (begins name y)
  pub rises : Rises (t.name ∷ names kids)

-- a Chunked node's children from number j on, for the chunks at ps: each is good for its one chunk
abbrev pub ChunkKids : List ℕ → ℕ → List (List ℕ) → Eof → Forest → Type 0
ChunkKids name j [] e Bare = Unit {0}
ChunkKids name j [] e (Node t kids rest) = ⊥
ChunkKids name j (p ∷ ps) e Bare = ⊥
ChunkKids name j (p ∷ ps) e (Node t kids rest) =
    Good (under name j) (p ∷ []) true (inside e) t kids × ChunkKids name (suc j) ps (next e) rest

-- a Struct or List node's children from column c on, so many: each is good for its column's stream
abbrev pub ColumnKids : List ℕ → ℕ → ℕ → List (List ℕ) → Bool → Eof → Forest → Type 0
ColumnKids name c zero ps ended e Bare = Unit {0}
ColumnKids name c zero ps ended e (Node t kids rest) = ⊥
ColumnKids name c (suc k) ps ended e Bare = ⊥
ColumnKids name c (suc k) ps ended e (Node t kids rest) =
    Good (under name c) (column_stream c ps) ended (inside e) t kids × ColumnKids name (suc c) k ps ended (next e) rest
