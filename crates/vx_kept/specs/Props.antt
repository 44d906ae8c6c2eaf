-- What is kept of children has one proof at most, so that it can be a type's invariant.
use Rattle.std.specs.Prelude.{◌≡◌, ℕ, suc, List, [], ◌∷◌}
use Rattle.std.specs.Coded.{Unit-prop, Coded-set, coded_ℕ}
use Rattle.vx_machine_state.specs.State.{Desk, Tasks, no_tasks, task_then}
use Rattle.vx_kept.specs.Kept.{ready_at, FreshFrom, Fresh, Steady, KnowsFrom, Knows, asked_of, ready_of, kids_of}
use Rattle.vx_kept.specs.declared.counts.Counts.{Counts}

pub fresh_prop : (all : List (List ℕ)) (asked : List ℕ) (i : ℕ) (ns : List ℕ) (xs : List Counts) (ks : Tasks) → IsProp (FreshFrom all asked i ns xs ks)
fresh_prop all asked i [] [] no_tasks = Unit-prop
fresh_prop all asked i (n ∷ ns) xs no_tasks = λ a b. absurd a
fresh_prop all asked i [] (x ∷ xs) no_tasks = λ a b. absurd a
fresh_prop all asked i [] xs (task_then c ks r) = λ a b. absurd a
fresh_prop all asked i (n ∷ ns) [] (task_then c ks r) = λ a b. absurd a
fresh_prop all asked i (n ∷ ns) (x ∷ xs) (task_then c ks r) = λ a b k. (
  (Coded-set coded_ℕ n (ready_at all c ks) a.0.0 b.0.0 k, fresh_prop all (asked_of x) 0 (ready_of x) (kids_of x) ks a.0.1 b.0.1 k),
  λ out every. (Coded-set coded_ℕ n (ready_at every c ks) (a.1 out every).0 (b.1 out every).0 k, fresh_prop every (asked_of x) 0 (ready_of x) (kids_of x) ks (a.1 out every).1 (b.1 out every).1 k),
  fresh_prop all asked (suc i) ns xs r a.2 b.2 k,
)

pub steady_prop : (n : ℕ) (x : Counts) (c : Desk) (ks : Tasks) → IsProp (Steady n x c ks)
steady_prop n x c ks = λ a b k every. (Coded-set coded_ℕ n (ready_at every c ks) (a every).0 (b every).0 k, fresh_prop every (asked_of x) 0 (ready_of x) (kids_of x) ks (a every).1 (b every).1 k)

pub knows_from_prop : (asked : List ℕ) (i : ℕ) (ns : List ℕ) (xs : List Counts) (ks : Tasks) → IsProp (KnowsFrom asked i ns xs ks)
knows_from_prop asked i [] [] ks = Unit-prop
knows_from_prop asked i (n ∷ ns) [] ks = λ a b. absurd a
knows_from_prop asked i [] (x ∷ xs) ks = λ a b. absurd a
knows_from_prop asked i (n ∷ ns) (x ∷ xs) no_tasks = λ a b. absurd a
knows_from_prop asked i (n ∷ ns) (x ∷ xs) (task_then c ks r) = λ a b k. (
  λ out. steady_prop n x c ks (a.0 out) (b.0 out) k,
  knows_from_prop (asked_of x) 0 (ready_of x) (kids_of x) ks a.1 b.1 k,
  knows_from_prop asked (suc i) ns xs r a.2 b.2 k,
)

pub knows_prop : (x : Counts) (ks : Tasks) → IsProp (Knows x ks)
knows_prop x ks = knows_from_prop (asked_of x) 0 (ready_of x) (kids_of x) ks
