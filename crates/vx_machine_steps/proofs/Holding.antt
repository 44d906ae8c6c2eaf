-- What a head holds is what its block still uses, and what it keeps.
use Rattle.std.proofs.Common.{◌≡◌, ◌∷◌, ◌++◌, ◌∙◌, ℕ, suc, List, refl, sym, ap, subst, []}
use Rattle.vx_path.specs.Lists.{In}
use Rattle.vx_tasks.specs.Task.{past}
use Rattle.vx_plan.specs.PlanData.{Setting}
use Rattle.vx_machine_turns.specs.Acts.{Seed, Act}
use Rattle.vx_machine_turns.specs.Fuels.{Fuel, spent, fuel, less}
use Rattle.vx_machine_turns.specs.Turns.{turn, more_at_end, firsts, kept}
use Rattle.vx_machine_turns.specs.Scripts.{all_uses, filled}
use Rattle.vx_machine_steps.specs.Moves.{take_first, end_first, Due, held_after, TreeMove, tree_moves}
use Rattle.vx_machine_steps.specs.Stands.{IsFilled, kept_now, HoldsOwn, AllHold, KidsHold}
use Rattle.vx_machine_steps.specs.Tree.{Head, Tree, Leaf, Work, sprout_row, quiet, sprout, feed}
use Rattle.vx_machine_steps.proofs.Places.{Where, here, under, aside, which}
use Rattle.vx_machine_steps.proofs.Seen.{Steps, of_block, of_item, of_end, steps_of}

filled_uses : (keep : List (List ℕ)) (acts : List Act) → all_uses (filled keep acts) ≡ all_uses acts
filled_uses keep [] = refl
filled_uses keep (a ∷ acts) = ap (λ z. a.uses ++ z) (filled_uses keep acts)

is_filled : (keep : List (List ℕ)) (acts : List Act) → IsFilled keep (filled keep acts)
is_filled keep [] = tt
is_filled keep (a ∷ acts) = (ap (λ z. z ++ keep) (sym (filled_uses keep acts)), is_filled keep acts)

held_last : (h : List (List ℕ)) (past : List Act) (a : Act) → held_after h (past ++ (a ∷ [])) ≡ a.holds
held_last h [] a = refl
held_last h (b ∷ past) a = held_last b.holds past a

-- of a head after its act
pub own_holds : (s : Setting) (h : Head) (g : Due) → Steps s h g → HoldsOwn h → HoldsOwn g.head
own_holds s h g (of_block a todo t w) k =
    let f : IsFilled (kept_now h.over h.local) (a ∷ todo) = subst (IsFilled (kept_now h.over h.local)) t k.filled in
    rw w (record { held = held_last (kept h.seed.local) h.past a ∙ f.0; filled = f.1 })
own_holds s h g (of_item x xs t o i w) k = rw w (record {
  held = held_last (kept h.seed.local) h.past (take_first s h.local x)
      ∙ ap (λ z. z ++ kept (turn s h.local x).after) (sym (filled_uses (kept (turn s h.local x).after) (turn s h.local x).more));
  filled = is_filled (kept (turn s h.local x).after) (turn s h.local x).more;
})
own_holds s h g (of_end t o i q w) k = rw w (record {
  held = held_last (kept h.seed.local) h.past (end_first s h.local) ∙ ap (λ z. z ++ []) (sym (filled_uses [] (more_at_end s h.local)));
  filled = is_filled [] (more_at_end s h.local);
})

pub sprout_hold : (d : Fuel) (j : ℕ) (a : Act) (qs : List Seed) → AllHold (sprout d a j qs)
sprout_hold spent j a qs = tt
sprout_hold (fuel g) j a qs = along j qs (λ q fs. sprout_hold (g q.type) 0 quiet fs)
  where
    along : (j : ℕ) (qs : List Seed) → ((q : Seed) (fs : List Seed) → AllHold (sprout (g q.type) quiet 0 fs)) → AllHold (sprout_row (λ q. sprout (g q.type) quiet 0) a j qs)
    along j [] deep = tt
    along j (q ∷ qs) deep = (record { held = refl; filled = tt }, deep q (firsts q), along (suc j) qs deep)

pub fed_hold : (d : Fuel) (j : ℕ) (a : Act) (ks : Tree) → AllHold ks → AllHold (feed d a j ks)
fed_hold d j a Leaf k = sprout_hold d j a a.starts
fed_hold d j a (Work h ks r) (k, deep, more) = (record { held = k.held; filled = k.filled }, deep, fed_hold d (suc j) a r more)

all_hold : (s : Setting) (all : List (List ℕ)) (d : Fuel) (t : Tree) (m : TreeMove) → In m (tree_moves s all d t) → AllHold t → AllHold m.after
all_hold s all d Leaf m i k = absurd i
all_hold s all d (Work h ks r) m i (k, deep, more) =
    by (which s all d h ks r m i) (λ x y. all_hold s all (less d h.seed.type) ks x y deep) (λ x y. all_hold s all d r x y more)
  where
    by : Where s all d h ks r m → ((x : TreeMove) → In x (tree_moves s all (less d h.seed.type) ks) → AllHold x.after)
        → ((x : TreeMove) → In x (tree_moves s all d r) → AllHold x.after) → AllHold m.after
    by (here o) down over = subst AllHold (sym o.after_is)
        (own_holds s h o.due_now (steps_of s h o.due_now o.due_is) k, fed_hold (less d h.seed.type) 0 o.due_now.act ks deep, more)
    by (under x y e) down over = rw e (k, down x y, more)
    by (aside x y e) down over = rw e (k, deep, over x y)

pub kids_hold : (s : Setting) (all : List (List ℕ)) (d : Fuel) (t : Tree) (m : TreeMove) → In m (tree_moves s all d t) → KidsHold t → KidsHold m.after
kids_hold s all d Leaf m i k = absurd i
kids_hold s all d (Work h ks r) m i (deep, more) =
    by (which s all d h ks r m i) (λ x y. all_hold s all (less d h.seed.type) ks x y deep) (λ x y. kids_hold s all d r x y more)
  where
    by : Where s all d h ks r m → ((x : TreeMove) → In x (tree_moves s all (less d h.seed.type) ks) → AllHold x.after)
        → ((x : TreeMove) → In x (tree_moves s all d r) → KidsHold x.after) → KidsHold m.after
    by (here o) down over = subst KidsHold (sym o.after_is) (fed_hold (less d h.seed.type) 0 o.due_now.act ks deep, more)
    by (under x y e) down over = rw e (down x y, more)
    by (aside x y e) down over = rw e (deep, over x y)
