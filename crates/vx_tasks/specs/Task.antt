-- Tasks: what each does, in order, and what each action waits for, starts, gives, closes and holds.
use Rattle.std.specs.Prelude.{ℕ, ◌+◌, Bool, true, false, cond, nat_eq, ◌||◌, List, [], ◌∷◌, ◌++◌, take, drop, get_or}

-- The actions that wait for nothing: reading a batch, reading the end, calling the compressor, closing queues.
pub data Prompt : Type 0 where
  Batch End Call Close : Prompt

-- What an action does, as far as its waiting goes. A take of an item and a take of the end wait alike, for
-- an item or for the closing of the queue; a put waits for a place in the queue of that child; an append
-- waits until its path is the least one held anywhere; a join waits until the children started so far,
-- and all below them, have nothing left.
pub data Kind : Type 0 where
  Free : Prompt → Kind
  Take : Kind
  TakeEnd : Kind
  Put : ℕ → Kind
  Append : List ℕ → Kind
  Join : Kind

pub record Action : Type 0 where
  pub kind : Kind
  -- the children that it starts
  pub starts : List ℕ
  -- the items that it puts on the queues of children: a child and the item's path
  pub gives : List (ℕ × List ℕ)
  -- the children whose queues it closes
  pub shuts : List ℕ
  -- the paths that the task holds after it
  pub holds : List (List ℕ)
  -- whether it refuses: then it isn't done, and the run ends
  pub refuses : Bool

pub record Task : Type 0 where
  pub name : List ℕ
  pub script : List Action
  -- the children that are started with it
  pub first : List ℕ
  -- the paths that it holds at the start
  pub held : List (List ℕ)
  -- by child, the places of its queue beyond one
  pub spare : List ℕ
  -- the eof path that it was given
  pub eof : List ℕ

-- Trees of tasks: the first task, its children, and its further siblings. Each task is fed by the task
-- above it and by no other, so this is the tree of the queues.
pub data Forest : Type 0 where
  Bare : Forest
  Node : Task → Forest → Forest → Forest

-- Words on lists of actions.

-- j is one of the numbers
abbrev pub has : ℕ → List ℕ → Bool
has j [] = false
has j (i ∷ is) = nat_eq i j || has j is

-- of what is given, the paths that go to child j
abbrev pub to_child : ℕ → List (ℕ × List ℕ) → List (List ℕ)
to_child j [] = []
to_child j (g ∷ gs) = cond (nat_eq g.0 j) (g.1 ∷ to_child j gs) (to_child j gs)

-- the paths that the actions give to child j
abbrev pub given : ℕ → List Action → List (List ℕ)
given j [] = []
given j (a ∷ todo) = to_child j a.gives ++ given j todo

-- whether one of the actions starts child j
abbrev pub starts_in : ℕ → List Action → Bool
starts_in j [] = false
starts_in j (a ∷ todo) = has j a.starts || starts_in j todo

-- whether one of the actions closes child j's queue
abbrev pub shuts_in : ℕ → List Action → Bool
shuts_in j [] = false
shuts_in j (a ∷ todo) = has j a.shuts || shuts_in j todo

-- whether one of the actions refuses
abbrev pub refuses_in : List Action → Bool
refuses_in [] = false
refuses_in (a ∷ todo) = a.refuses || refuses_in todo

-- how many items an action takes
abbrev pub takes_of : Kind → ℕ
takes_of (Free w) = 0
takes_of Take = 1
takes_of TakeEnd = 0
takes_of (Put c) = 0
takes_of (Append q) = 0
takes_of Join = 0

-- how many items the actions take
abbrev pub takes_in : List Action → ℕ
takes_in [] = 0
takes_in (a ∷ todo) = takes_of a.kind + takes_in todo

-- the path that an action appends
abbrev pub appends_of : Kind → List (List ℕ)
appends_of (Free w) = []
appends_of Take = []
appends_of TakeEnd = []
appends_of (Put c) = []
appends_of (Append q) = q ∷ []
appends_of Join = []

-- the paths that the actions append, in order
abbrev pub appends_in : List Action → List (List ℕ)
appends_in [] = []
appends_in (a ∷ todo) = appends_of a.kind ++ appends_in todo

-- what is held after the actions, by one that held h before them
abbrev pub holds_after : List (List ℕ) → List Action → List (List ℕ)
holds_after h [] = h
holds_after h (a ∷ todo) = holds_after a.holds todo

-- whether the first of the actions, or one of them, is of a kind that passes a test

abbrev pub next_kind : (Kind → Bool) → List Action → Bool
next_kind test [] = false
next_kind test (a ∷ todo) = test a.kind

abbrev pub any_kind : (Kind → Bool) → List Action → Bool
any_kind test [] = false
any_kind test (a ∷ todo) = test a.kind || any_kind test todo

-- an action that waits for other tasks than those that it feeds and is fed by: an append or a join
abbrev pub is_still : Kind → Bool
is_still (Free w) = false
is_still Take = false
is_still TakeEnd = false
is_still (Put c) = false
is_still (Append q) = true
is_still Join = true

-- an action that comes after the last item: the take of the end, an append or a join
abbrev pub is_late : Kind → Bool
is_late (Free w) = false
is_late Take = false
is_late TakeEnd = true
is_late (Put c) = false
is_late (Append q) = true
is_late Join = true

-- A task t that has done n actions.

-- what it has still to do
abbrev pub next : Task → ℕ → List Action
next t n = drop n t.script

-- what it has done
abbrev pub past : Task → ℕ → List Action
past t n = take n t.script

-- the paths of the items that it has given to child j
abbrev pub sent : Task → ℕ → ℕ → List (List ℕ)
sent t j n = given j (past t n)

-- child j is started
abbrev pub started : Task → ℕ → ℕ → Bool
started t j n = has j t.first || starts_in j (past t n)

-- child j's queue is closed
abbrev pub closed : Task → ℕ → ℕ → Bool
closed t j n = shuts_in j (past t n)

-- how many items it has taken
abbrev pub taken : Task → ℕ → ℕ
taken t n = takes_in (past t n)

-- the paths that it holds
abbrev pub holds : Task → ℕ → List (List ℕ)
holds t n = holds_after t.held (past t n)

-- the places of child j's queue
abbrev pub places : Task → ℕ → ℕ
places t j = 1 + get_or t.spare j 0

-- The stream that a task p makes for its child j: the paths of all its items, and whether it ends.

abbrev pub items : ℕ → Task → List (List ℕ)
items j p = given j p.script

abbrev pub closes : ℕ → Task → Bool
closes j p = shuts_in j p.script

-- all that a task ever holds
abbrev pub holds_in : List Action → List (List ℕ)
holds_in [] = []
holds_in (a ∷ todo) = a.holds ++ holds_in todo

abbrev pub ever_held : Task → List (List ℕ)
ever_held t = t.held ++ holds_in t.script
