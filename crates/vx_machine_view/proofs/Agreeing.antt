-- What the abstract machine can do depends on which paths are held, and on no order of them.
use Rattle.std.proofs.Common.{◌≡◌, ◌+◌, ◌∷◌, ◌++◌, ◌∙◌, ◌⊎◌, ℕ, cond, List, length, map, refl, sym, ap, subst, inl, inr, Option, Some, None, []}
use Rattle.vx_path.specs.Lists.{In}
use Rattle.vx_path.proofs.Lists.{in_left, in_right, in_cases}
use Rattle.vx_path.specs.Path.{is_least}
use Rattle.vx_tasks.specs.Task.{Kind, Free, Take, TakeEnd, Put, Append, Join}
use Rattle.vx_plan.specs.PlanData.{Setting}
use Rattle.vx_machine_turns.specs.Acts.{Seed, born}
use Rattle.vx_machine_turns.specs.Turns.{firsts}
use Rattle.vx_machine_turns.specs.Fuels.{Fuel, less}
use Rattle.vx_machine_steps.specs.Tree.{Head, Tree, Leaf, Work, feed}
use Rattle.vx_machine_steps.specs.Moves.{Due, due, may, TreeMove, move_own, in_kids, in_rest, tree_moves}
use Rattle.vx_machine_view.specs.Whole.{SameHeld}
use Rattle.vx_machine_view.proofs.Sounding.{least_same}

-- ---- lists of paths

pub same_held : {xs ys : List (List ℕ)} → xs ≡ ys → SameHeld xs ys
same_held {xs} {ys} e = ((λ p i. subst (In p) e i), (λ p i. subst (In p) (sym e) i))

pub both_held : (a b c e : List (List ℕ)) → SameHeld a b → SameHeld c e → SameHeld (a ++ c) (b ++ e)
both_held a b c e h k = (
  (λ p i. go p a b c e h.0 k.0 (in_cases p a c i)),
  (λ p i. go p b a e c h.1 k.1 (in_cases p b e i)),
)
  where
    go : (p : List ℕ) (x y z w : List (List ℕ)) → ((p : List ℕ) → In p x → In p y) → ((p : List ℕ) → In p z → In p w) → In p x ⊎ In p z → In p (y ++ w)
    go p x y z w f g (inl i) = in_left p y w (f p i)
    go p x y z w f g (inr i) = in_right p y w (g p i)

-- two paths the other way round
pub swapped : (x y : List ℕ) → SameHeld (x ∷ y ∷ []) (y ∷ x ∷ [])
swapped x y = (turned x y, turned y x)
  where
    turned : (x y p : List ℕ) → In p (x ∷ y ∷ []) → In p (y ∷ x ∷ [])
    turned x y p (inl e) = inr (inl e)
    turned x y p (inr (inl e)) = inl e
    turned x y p (inr (inr i)) = absurd i

-- ---- moves

module _ (s : Setting) (all held : List (List ℕ)) (least : (p : List ℕ) → is_least p all ≡ is_least p held) where
  may_least : (q : Seed) (ks : Tree) (k : Kind) → may all q ks k ≡ may held q ks k
  may_least q ks (Free w) = refl
  may_least q ks Take = refl
  may_least q ks TakeEnd = refl
  may_least q ks (Put c) = refl
  may_least q ks (Append p) = least p
  may_least q ks Join = refl

  own_least : (d : Fuel) (h : Head) (ks r : Tree) (x : Option Due) → move_own all d h ks r x ≡ move_own held d h ks r x
  own_least d h ks r None = refl
  own_least d h ks r (Some g) =
      let m : TreeMove = record { name = h.seed.name; act = g.act; before = born h.past + length (firsts h.seed); room = less d h.seed.type; after = Work g.head (feed (less d h.seed.type) g.act 0 ks) r } in
      ap (λ z. cond z (m ∷ []) []) (may_least h.seed ks g.act.kind)

  tree_least : (d : Fuel) (t : Tree) → tree_moves s all d t ≡ tree_moves s held d t
  tree_least d Leaf = refl
  tree_least d (Work h ks r) =
      ap (λ z. (z ++ map (in_kids h r) (tree_moves s all (less d h.seed.type) ks)) ++ map (in_rest h ks) (tree_moves s all d r)) (own_least d h ks r (due s h))
      ∙ ap (λ z. (move_own held d h ks r (due s h) ++ map (in_kids h r) z) ++ map (in_rest h ks) (tree_moves s all d r)) (tree_least (less d h.seed.type) ks)
      ∙ ap (λ z. (move_own held d h ks r (due s h) ++ map (in_kids h r) (tree_moves s held (less d h.seed.type) ks)) ++ map (in_rest h ks) z) (tree_least d r)

pub moves_least : (s : Setting) (all held : List (List ℕ)) (d : Fuel) (t : Tree) → SameHeld all held → tree_moves s all d t ≡ tree_moves s held d t
moves_least s all held d t h = tree_least s all held (least_same all held h.0 h.1) d t
