-- How a state of the machine stands.
use Rattle.std.specs.Prelude.{◌≡◌, ◌+◌, ◌<◌, ◌⊎◌, ◌∷◌, ◌++◌, ℕ, suc, Bool, true, false, List, length, IsTrue, IsFalse, []}
use Rattle.vx_tasks.specs.Task.{Task, Forest, Bare, Node, given, next, sent, started, closed}
use Rattle.vx_tasks.specs.Rules.{KeepsRules}
use Rattle.vx_plan.specs.PlanData.{Setting, Item}
use Rattle.vx_machine_turns.specs.Acts.{Seed, Act, close_queues, gifts, shut, born, takes, any_refuses}
use Rattle.vx_machine_turns.specs.Locals.{Local}
use Rattle.vx_machine_turns.specs.Fuels.{Fuel, spent, less}
use Rattle.vx_machine_turns.specs.Turns.{firsts, kept}
use Rattle.vx_machine_turns.specs.Scripts.{all_uses, Calm}
use Rattle.vx_machine_turns.specs.Source.{outside_seed}
use Rattle.vx_machine_steps.specs.Moves.{holding}
use Rattle.vx_machine_steps.specs.Tree.{Head, Tree, Leaf, Work, forest}

-- A rule on scripts, also for children that never come: a task gives nothing to a child that it hasn't started and doesn't
-- close its queue, and gives it nothing after it has closed it.
pub record Neat (t : Task) : Type 0 where
  pub unborn : (n j : ℕ) → IsFalse (started t j n) → (sent t j n ≡ []) × IsFalse (closed t j n)
  pub shut_last : (n j : ℕ) → IsTrue (closed t j n) → given j (next t n) ≡ []

abbrev pub AllNeat : Forest → Type 0
AllNeat Bare = Unit {0}
AllNeat (Node t kids rest) = Neat t × AllNeat kids × AllNeat rest

-- The child with number j of a task of seed q that has done pp.
pub record LinkedHead (q : Seed) (pp : List Act) (j : ℕ) (h : Head) : Type 0 where
  pub begun : j < length (firsts q) + born pp
  -- what it was given, it has taken or has in its queue
  pub taken : List Item
  pub split : gifts j pp ≡ taken ++ h.inbox
  pub count : takes h.past ≡ length taken
  pub shut_is : h.closed ≡ shut j pp
  -- takes come first in a block alone
  pub calm : Calm h.todo

-- so it is with the children from number j on, which are all that are started, and with all below them
abbrev pub Linked : Fuel → Seed → List Act → ℕ → Tree → Type 0
Linked d q pp j Leaf = (d ≡ spent) ⊎ (j ≡ length (firsts q) + born pp)
Linked d q pp j (Work h ks r) = LinkedHead q pp j h × Linked (less d h.seed.type) h.seed h.past 0 ks × Linked d q pp (suc j) r

-- nothing that was done refuses
abbrev pub Clean : Tree → Type 0
Clean Leaf = Unit {0}
Clean (Work h ks r) = IsFalse (any_refuses h.past) × Clean ks × Clean r

-- What is held.

-- after each act: what the others use, and what is kept beyond them
abbrev pub IsFilled : List (List ℕ) → List Act → Type 0
IsFilled keep [] = Unit {0}
IsFilled keep (a ∷ acts) = (a.holds ≡ all_uses acts ++ keep) × IsFilled keep acts

-- what a task keeps beyond its block
abbrev pub kept_now : Bool → Local → List (List ℕ)
kept_now true l = []
kept_now false l = kept l

-- a head holds what its block still uses, and what it keeps
pub record HoldsOwn (h : Head) : Type 0 where
  pub held : holding h ≡ all_uses h.todo ++ kept_now h.over h.local
  pub filled : IsFilled (kept_now h.over h.local) h.todo

abbrev pub AllHold : Tree → Type 0
AllHold Leaf = Unit {0}
AllHold (Work h ks r) = HoldsOwn h × AllHold ks × AllHold r

-- so it is below the source, whose list isn't one block
abbrev pub KidsHold : Tree → Type 0
KidsHold Leaf = Unit {0}
KidsHold (Work h ks r) = AllHold ks × KidsHold r

-- what stands above the source has started it, has given it nothing, and has closed its queue
abbrev pub closing : Act
closing = close_queues (0 ∷ [])

pub record Stands (s : Setting) (d : Fuel) (t : Tree) : Type 0 where
  -- of the tree of scripts, which never changes
  pub rules : KeepsRules (forest s d t)
  pub neat : AllNeat (forest s d t)
  -- of the state
  pub linked : Linked d outside_seed (closing ∷ []) 0 t
  pub clean : Clean t
  pub holds : KidsHold t
