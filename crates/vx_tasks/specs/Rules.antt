-- The rules that a tree's scripts keep, so that it never gets stuck and appends in order of path.
-- They speak of the scripts alone, and of no state.
use Rattle.std.specs.Prelude.{◌≡◌, ℕ, suc, ◌≤◌, Bool, false, not, ◌||◌, List, [], ◌∷◌, ◌++◌, length, drop, IsTrue, IsFalse}
use Rattle.vx_path.specs.Lists.{In}
use Rattle.vx_path.specs.Path.{path_le, path_lt}
use Rattle.vx_tasks.specs.Task.{Task, Action, Forest, next, sent, started, closed, taken, holds, items, closes, given, refuses_in, takes_in, appends_in, next_kind, any_kind, is_still, is_late, ever_held, starts_in, has}
use Rattle.vx_tasks.specs.Task.Forest.{Bare, Node}
use Rattle.vx_tasks.specs.Task.Kind.{Append, Join}
use Rattle.vx_tasks.specs.Run.{outside}

-- How a task p and its child t, with number j, fit together. `cut` tells that p's own stream is open: it
-- is never told its end.
pub record Fits (cut : Bool) (p : Task) (j : ℕ) (t : Task) : Type 0 where
  -- p starts t some time
  pub begun : IsTrue (has j p.first || starts_in j p.script)
  -- t takes all items, if it refuses nowhere
  pub reads_all : IsFalse (refuses_in t.script) → length (items j p) ≤ takes_in t.script
  -- t takes no more items than there are
  pub enough : takes_in t.script ≤ length (items j p)
  -- t has taken all items before it sees the end, appends or joins
  pub reads_first : (n : ℕ) → IsTrue (next_kind is_late (next t n)) → length (items j p) ≤ taken t n
  -- where p appends or joins and t is started by then, t's queue is closed, if p ever closes it
  pub closed_first : (n : ℕ) → IsTrue (next_kind is_still (next p n)) → IsTrue (started p j n) → IsTrue (closes j p) → IsTrue (closed p j n)
  -- p gives t nothing after it closes its queue
  pub shut_last : (n : ℕ) → IsTrue (closed p j n) → given j (next p n) ≡ []
  -- p gives t nothing before it starts t
  pub started_first : (n : ℕ) → IsFalse (started p j n) → sent p j n ≡ []
  -- where p's own stream ends and t's stays open, p refuses somewhere
  pub open_refuses : IsFalse cut → IsFalse (closes j p) → IsTrue (refuses_in p.script)
  -- where t's stream stays open, p never appends or joins
  pub open_moves : IsFalse (closes j p) → IsFalse (any_kind is_still p.script)
  -- where t's stream ends and t refuses nowhere, t holds nothing in the end
  pub at_end : IsTrue (closes j p) → IsFalse (refuses_in t.script) → holds t (length t.script) ≡ []

-- where t is about to append, it holds that path alone
abbrev pub Keeps : Task → Type 0
Keeps t = (n : ℕ) (q : List ℕ) (a : Action) (todo : List Action) → next t n ≡ a ∷ todo → a.kind ≡ Append q → holds t n ≡ q ∷ []

-- P holds of each path that a task of the forest ever holds
abbrev pub AllHeld : (List ℕ → Type 0) → Forest → Type 0
AllHeld P Bare = Unit {0}
AllHeld P (Node t kids rest) = ((x : List ℕ) → In x (ever_held t) → P x) × AllHeld P kids × AllHeld P rest

-- all that p's children from number j on, as far as they are started after n actions, and all below them
-- ever hold is below m
abbrev pub AllBelow : List ℕ → Task → ℕ → ℕ → Forest → Type 0
AllBelow m p n j Bare = Unit {0}
AllBelow m p n j (Node t kids rest) =
    (IsTrue (started p j n) → AllHeld (λ x. IsTrue (path_lt x m)) (Node t kids Bare)) × AllBelow m p n (suc j) rest

-- where p joins, what it holds is above all that the children started by then ever hold
abbrev pub Apart : Task → Forest → Type 0
Apart p kids = (n : ℕ) (a : Action) (todo : List Action) → next p n ≡ a ∷ todo → a.kind ≡ Join
    → (m : List ℕ) → In m (holds p n) → AllBelow m p n 0 kids

-- the rules for p's children from number j on, and for all below them
abbrev pub Rules : Bool → Task → ℕ → Forest → Type 0
Rules cut p j Bare = Unit {0}
Rules cut p j (Node t kids rest) =
    Fits cut p j t × Keeps t × Apart t kids × Rules (not (closes j p)) t 0 kids × Rules cut p (suc j) rest

-- Order.

-- x is at least one of the paths
abbrev pub AtLeast : List (List ℕ) → List ℕ → Type 0
AtLeast ps x = (y : List ℕ) × In y ps × IsTrue (path_le y x)

-- x is at least a path that t holds, or one of its stream ps that it hasn't taken
abbrev pub Covers : List (List ℕ) → Task → ℕ → List ℕ → Type 0
Covers ps t n x = AtLeast (holds t n ++ drop (taken t n) ps) x

-- the paths that a forest's tasks append
abbrev pub appends : Forest → List (List ℕ)
appends Bare = []
appends (Node t kids rest) = appends_in t.script ++ (appends kids ++ appends rest)

-- How a child t with number j fits the order, below p whose own stream has the paths ps.
pub record Ordered (ps : List (List ℕ)) (p : Task) (j : ℕ) (t : Task) (kids : Forest) : Type 0 where
  -- what t is still to append is at least what it holds or is still to take
  pub own : (n : ℕ) (x : List ℕ) → In x (appends_in (next t n)) → Covers (items j p) t n x
  -- what p is still to give t is at least what p holds or is still to take
  pub unsent : (n : ℕ) (x : List ℕ) → In x (given j (next p n)) → Covers ps p n x
  -- while t isn't started, its eof path is at least what p holds or is still to take
  pub unborn : (n : ℕ) → IsFalse (started p j n) → Covers ps p n t.eof
  -- what is appended at t and below is at least t's eof path or a path of its stream
  pub inside : (x : List ℕ) → In x (appends (Node t kids Bare)) → AtLeast (t.eof ∷ items j p) x

abbrev pub InOrder : List (List ℕ) → Task → ℕ → Forest → Type 0
InOrder ps p j Bare = Unit {0}
InOrder ps p j (Node t kids rest) =
    Ordered ps p j t kids × InOrder (items j p) t 0 kids × InOrder ps p (suc j) rest

-- the rules for a whole tree

abbrev pub KeepsRules : Forest → Type 0
KeepsRules f = Rules false outside 0 f

abbrev pub KeepsOrder : Forest → Type 0
KeepsOrder f = InOrder [] outside 0 f

-- Names.

-- each path is below all later ones
abbrev pub Rises : List (List ℕ) → Type 0
Rises [] = Unit {0}
Rises (x ∷ xs) = ((y : List ℕ) → In y xs → IsTrue (path_lt x y)) × Rises xs

-- the names of a forest's tasks, a task before its children and these before its siblings
abbrev pub names : Forest → List (List ℕ)
names Bare = []
names (Node t kids rest) = t.name ∷ (names kids ++ names rest)

-- What is said of a tree in which all is done.

-- no task refuses
abbrev pub NoneRefuses : Forest → Type 0
NoneRefuses Bare = Unit {0}
NoneRefuses (Node t kids rest) = IsFalse (refuses_in t.script) × NoneRefuses kids × NoneRefuses rest

-- the streams of p's children from number j on, and those of all below them, end
abbrev pub AllEnd : Task → ℕ → Forest → Type 0
AllEnd p j Bare = Unit {0}
AllEnd p j (Node t kids rest) = IsTrue (closes j p) × AllEnd t 0 kids × AllEnd p (suc j) rest
