-- The machine's state: a tree of the tasks that are started.
use Rattle.std.specs.Prelude.{◌||◌, ◌∷◌, ◌++◌, ℕ, zero, suc, Bool, true, false, List, length, []}
use Rattle.vx_tasks.specs.Task.{Join, Forest, has}
use Rattle.vx_tasks.specs.State.{Counts, Zeros, Count}
use Rattle.vx_plan.specs.PlanData.{Setting, Item}
use Rattle.vx_machine_turns.specs.Acts.{Seed, Act, does, for_child, gifts, shut, births}
use Rattle.vx_machine_turns.specs.Locals.{Local}
use Rattle.vx_machine_turns.specs.Fuels.{Fuel, spent, fuel, less}
use Rattle.vx_machine_turns.specs.Turns.{firsts, start_indices}
use Rattle.vx_machine_turns.specs.Scripts.{script}
use Rattle.vx_machine_turns.specs.Readings.{Reading, unread}
use Rattle.vx_machine_turns.specs.Plain.{script_reading}

pub record Head : Type 0 where
  pub seed : Seed
  -- all that it has done
  pub past : List Act
  -- what is left of its present block
  pub todo : List Act
  pub local : Local
  -- it begins no further block
  pub over : Bool
  -- its queue, and whether that is closed
  pub inbox : List Item
  pub closed : Bool

-- the first started child, its children, and its later siblings
pub data Tree : Type 0 where
  Leaf : Tree
  Work : Head → Tree → Tree → Tree

abbrev pub unless : Bool → List Act → List Act
unless true acts = []
unless false acts = acts

-- what comes behind the present block
abbrev pub further : Setting → Bool → Local → List Item → Bool → List Act
further s over l xs ended = unless over (script s l xs ended)

-- what a head does from now on, where these items are still to come to its queue
abbrev pub ahead : Setting → Head → List Item → Bool → List Act
ahead s h ys ended = h.todo ++ further s h.over h.local (h.inbox ++ ys) ended

-- What is read off the children from number j on of one that still does these acts.
abbrev pub read : {F : Type 0} → Setting → Reading F → Fuel → ℕ → List Act → Tree → F
read s v d j acts Leaf = unread s v d j (births acts) acts
read s v d j acts (Work h ks r) =
    v.make h.seed (h.past ++ ahead s h (gifts j acts) (h.closed || shut j acts))
    (read s v (less d h.seed.type) 0 (ahead s h (gifts j acts) (h.closed || shut j acts)) ks)
    (read s v d (suc j) acts r)

-- the tree of scripts that is read off a state
abbrev pub forest : Setting → Fuel → Tree → Forest
forest s d t = read s script_reading d 0 [] t

-- A state of the theory, without what is at 0.
abbrev pub trim : ℕ → Counts → Counts → Counts
trim zero Zeros Zeros = Zeros
trim zero Zeros (Count m c d) = Count zero Zeros (Count m c d)
trim zero (Count m c d) r = Count zero (Count m c d) r
trim (suc n) k r = Count (suc n) k r

-- how many acts each task has done
abbrev pub counts : Tree → Counts
counts Leaf = Zeros
counts (Work h ks r) = trim (length h.past) (counts ks) (counts r)

-- Births.

abbrev pub fresh : Seed → List Item → Bool → Head
fresh q xs closed = record { seed = q; past = []; todo = []; local = q.local; over = false; inbox = xs; closed = closed }

-- new children from number j on, that are started by an act
abbrev pub sprout_row : (Seed → List Seed → Tree) → Act → ℕ → List Seed → Tree
sprout_row deeper a j [] = Leaf
sprout_row deeper a j (q ∷ qs) = Work (fresh q (for_child j a.gives) (has j a.shuts)) (deeper q (firsts q)) (sprout_row deeper a (suc j) qs)

-- an act that gives nothing
abbrev pub quiet : Act
quiet = does Join

-- the same with all that is started with them, as deep as the fuel goes
abbrev pub sprout : Fuel → Act → ℕ → List Seed → Tree
sprout spent a j qs = Leaf
sprout (fuel g) a j qs = sprout_row (λ q. sprout (g q.type) quiet 0) a j qs

-- how far pointers come where these are started, with all that is started with them
abbrev pub opened_row : (Seed → List Seed → List ℕ) → List Seed → List ℕ
opened_row deeper [] = []
opened_row deeper (q ∷ qs) = start_indices q.local ++ (deeper q (firsts q) ++ opened_row deeper qs)

abbrev pub opened : Fuel → List Seed → List ℕ
opened spent qs = []
opened (fuel g) qs = opened_row (λ q. opened (g q.type)) qs

-- what an act does to the children, from number j on
abbrev pub feed : Fuel → Act → ℕ → Tree → Tree
feed d a j Leaf = sprout d a j a.starts
feed d a j (Work h ks r) =
    Work (record {
      seed = h.seed;
      past = h.past;
      todo = h.todo;
      local = h.local;
      over = h.over;
      inbox = h.inbox ++ for_child j a.gives;
      closed = h.closed || has j a.shuts;
    }) ks (feed d a (suc j) r)
