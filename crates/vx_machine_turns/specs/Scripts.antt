-- A task's script: all that it does at a stream, turn by turn. What it holds in between is derived: what the rest of its
-- block uses, and what it keeps by itself.
use Rattle.std.specs.Prelude.{ℕ, Bool, true, false, cond, List, [], ◌∷◌, ◌++◌, IsFalse}
use Rattle.vx_tasks.specs.Task.{Kind}
use Rattle.vx_tasks.specs.Task.Kind.{Free, Take, TakeEnd, Put, Append, Join}
use Rattle.vx_plan.specs.PlanData.{Setting, Item}
use Rattle.vx_machine_turns.specs.Locals.{Local}
use Rattle.vx_machine_turns.specs.Acts.{Act, Turn}
use Rattle.vx_machine_turns.specs.Turns.{turn, first_at_end, more_at_end, kept}

-- the first action of a block takes, and no other
abbrev pub as_kind : Kind → Act → Act
as_kind k a = record a { kind = k }

abbrev pub with_holds : List (List ℕ) → Act → Act
with_holds paths a = record a { holds = paths }

abbrev pub all_uses : List Act → List (List ℕ)
all_uses [] = []
all_uses (a ∷ acts) = a.uses ++ all_uses acts

-- `keep` is kept besides
abbrev pub filled : List (List ℕ) → List Act → List Act
filled keep [] = []
filled keep (a ∷ acts) = with_holds (all_uses acts ++ keep) a ∷ filled keep acts

-- at an item
abbrev pub block_of : Turn → List Act
block_of u = filled (kept u.after) (as_kind Take u.first ∷ u.more)

abbrev pub block : Setting → Local → Item → List Act
block s l i = block_of (turn s l i)

-- at the end
abbrev pub last_block : Setting → Local → List Act
last_block s l = filled [] (as_kind TakeEnd (first_at_end s l) ∷ more_at_end s l)

-- at a stream of items, ended or open; on an open stream it ends where it would read past what is known
abbrev pub script : Setting → Local → List Item → Bool → List Act
script s l [] ended = cond ended (last_block s l) []
script s l (i ∷ is) ended = block s l i ++ script s (turn s l i).after is ended

-- ---- actions that don't take

abbrev pub is_taking : Kind → Bool
is_taking (Free w) = false
is_taking Take = true
is_taking TakeEnd = true
is_taking (Put c) = false
is_taking (Append path) = false
is_taking Join = false

-- none of them takes
abbrev pub Calm : List Act → Type 0
Calm [] = Unit {0}
Calm (a ∷ acts) = IsFalse (is_taking a.kind) × Calm acts

-- Behind the first action of a block none takes.
abbrev pub TurnsAreCalm : Type 0
TurnsAreCalm = (s : Setting) (l : Local) → ((i : Item) → Calm (turn s l i).more) × Calm (more_at_end s l)
