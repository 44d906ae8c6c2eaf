-- What is kept of a task by its parts.
use Rattle.std.proofs.Common.{◌≡◌, ℕ, ◌==◌, ◌||◌, ◌≤◌, suc, Bool, true, false, List, [], ◌∷◌, length, refl, sym, subst, arith, inl, inr}
use Rattle.std.specs.List.{list_any}
use Rattle.std.proofs.lemmas.Bool.{true≢false}
use Rattle.std.proofs.lemmas.Bool.Decides.{nat_tests}
use Rattle.vx_path.specs.Lists.{In}
use Rattle.vx_machine_state.specs.State.{Tasks, no_tasks, task_then}
use Rattle.vx_machine_state.specs.Acts.{count}
use Rattle.vx_kept.specs.Kept.{FreshFrom, Fresh, KnowsFrom, Knows}
use Rattle.vx_kept.specs.declared.counts.Counts.{Counts, out-Counts}
use Rattle.vx_kept.specs.declared.counts.Counts.TheOpen.{Counts-F}
use Rattle.vx_kept.specs.declared.counts.Counts.TheViews.{roll-Counts, the_lemmas}

pub out_roll : (x : Counts-F Counts) → out-Counts (roll-Counts x) ≡ x
out_roll x = simp the_lemmas refl

pub knows_roll : (x : Counts-F Counts) (ks : Tasks) → KnowsFrom x.asked.items 0 x.ready x.kids.items ks → Knows (roll-Counts x) ks
knows_roll x ks k = subst (λ (z : Counts-F Counts). KnowsFrom z.asked.items 0 z.ready z.kids.items ks) (sym (out_roll x)) k

pub fresh_roll : (all : List (List ℕ)) (x : Counts-F Counts) (ks : Tasks) → FreshFrom all x.asked.items 0 x.ready x.kids.items ks → Fresh all (roll-Counts x) ks
fresh_roll all x ks k = subst (λ (z : Counts-F Counts). FreshFrom all z.asked.items 0 z.ready z.kids.items ks) (sym (out_roll x)) k

-- a test for one finds it
pub in_any : (x : ℕ) (xs : List ℕ) → list_any (λ y. y == x) xs ≡ true → In x xs
in_any x [] h = absurd (true≢false (sym h))
in_any x (y ∷ ys) h = by (in_any x ys) (y == x) refl h
  where
    same : (y == x) ≡ true → x ≡ y
    same e = grind (arith, nat_tests)

    by : (list_any (λ z. z == x) ys ≡ true → In x ys) → (b : Bool) → (y == x) ≡ b → (b || list_any (λ z. z == x) ys) ≡ true → In x (y ∷ ys)
    by rest true e k = inl (same e)
    by rest false e k = inr (rest k)

-- no more are counted than there are
pub knows_few : (asked : List ℕ) (i : ℕ) (ns : List ℕ) (xs : List Counts) (ks : Tasks) → KnowsFrom asked i ns xs ks → length ns ≤ count ks
knows_few asked i [] [] ks k = omega arith
knows_few asked i (n ∷ ns) [] ks k = absurd k
knows_few asked i [] (x ∷ xs) ks k = absurd k
knows_few asked i (n ∷ ns) (x ∷ xs) no_tasks k = absurd k
knows_few asked i (n ∷ ns) (x ∷ xs) (task_then c ks r) k = let e : length ns ≤ count r = knows_few asked (suc i) ns xs r k.2 in omega (arith, e)
