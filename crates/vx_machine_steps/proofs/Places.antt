-- Where in the tree a move is.
use Rattle.std.proofs.Common.{◌≡◌, ◌+◌, ◌⊎◌, ◌∷◌, ◌++◌, ℕ, true, false, List, map, length, refl, inl, inr, Option, Some, None, [], ⊎_elim}
use Rattle.std.proofs.lemmas.Bool.{cases_Bool}
use Rattle.vx_path.specs.Lists.{In}
use Rattle.vx_path.proofs.Lists.{in_cases, from_map}
use Rattle.vx_plan.specs.PlanData.{Setting}
use Rattle.vx_machine_turns.specs.Acts.{born}
use Rattle.vx_machine_turns.specs.Fuels.{Fuel, less}
use Rattle.vx_machine_turns.specs.Turns.{firsts}
use Rattle.vx_machine_steps.specs.Moves.{Due, due, may, TreeMove, move_own, in_kids, in_rest, tree_moves}
use Rattle.vx_machine_steps.specs.Tree.{Head, Tree, Work, feed}

pub record Own (s : Setting) (all : List (List ℕ)) (d : Fuel) (h : Head) (ks r : Tree) (m : TreeMove) : Type 0 where
  pub due_now : Due
  pub due_is : due s h ≡ Some due_now
  pub allowed : may all h.seed ks due_now.act.kind ≡ true
  pub act_is : m.act ≡ due_now.act
  pub room_is : m.room ≡ less d h.seed.type
  pub after_is : m.after ≡ Work due_now.head (feed (less d h.seed.type) due_now.act 0 ks) r

own_in : (s : Setting) (all : List (List ℕ)) (d : Fuel) (h : Head) (ks r : Tree) (m : TreeMove) (o : Option Due) → due s h ≡ o → In m (move_own all d h ks r o) → Own s all d h ks r m
own_in s all d h ks r m None e i = absurd i
own_in s all d h ks r m (Some g) e i = by (cases_Bool (may all h.seed ks g.act.kind))
  where
    it : TreeMove
    it = record { name = h.seed.name; act = g.act; before = born h.past + length (firsts h.seed); room = less d h.seed.type; after = Work g.head (feed (less d h.seed.type) g.act 0 ks) r }

    by : (may all h.seed ks g.act.kind ≡ true) ⊎ (may all h.seed ks g.act.kind ≡ false) → Own s all d h ks r m
    by (inl t) =
        let o : In m (it ∷ []) = rw t at i in
        let w : m ≡ it = ⊎_elim (λ y. y) (λ y. absurd y) o in
        rw w (record { due_now = g; due_is = e; allowed = t; act_is = refl; room_is = refl; after_is = refl })
    by (inr t) = let o : In m [] = rw t at i in absurd o

pub data Where (s : Setting) (all : List (List ℕ)) (d : Fuel) (h : Head) (ks r : Tree) (m : TreeMove) : Type 0 where
  here : Own s all d h ks r m → Where s all d h ks r m
  under : (k : TreeMove) → In k (tree_moves s all (less d h.seed.type) ks) → m ≡ in_kids h r k → Where s all d h ks r m
  aside : (k : TreeMove) → In k (tree_moves s all d r) → m ≡ in_rest h ks k → Where s all d h ks r m

pub which : (s : Setting) (all : List (List ℕ)) (d : Fuel) (h : Head) (ks r : Tree) (m : TreeMove) → In m (tree_moves s all d (Work h ks r)) → Where s all d h ks r m
which s all d h ks r m i = ⊎_elim
    (λ a. ⊎_elim (λ b. here (own_in s all d h ks r m (due s h) refl b)) (λ b. in_under (from_map (in_kids h r) m (tree_moves s all (less d h.seed.type) ks) b))
    (in_cases m (move_own all d h ks r (due s h)) (map (in_kids h r) (tree_moves s all (less d h.seed.type) ks)) a))
    (λ b. in_aside (from_map (in_rest h ks) m (tree_moves s all d r) b))
    (in_cases m (move_own all d h ks r (due s h) ++ map (in_kids h r) (tree_moves s all (less d h.seed.type) ks)) (map (in_rest h ks) (tree_moves s all d r)) i)
  where
    in_under : (k : TreeMove) × In k (tree_moves s all (less d h.seed.type) ks) × (m ≡ in_kids h r k) → Where s all d h ks r m
    in_under (k, i, e) = under k i e

    in_aside : (k : TreeMove) × In k (tree_moves s all d r) × (m ≡ in_rest h ks k) → Where s all d h ks r m
    in_aside (k, i, e) = aside k i e
