-- What is known of children, where some of them change.
use Rattle.std.proofs.Common.{◌≡◌, ◌⊎◌, ℕ, zero, suc, ◌+◌, ◌<◌, ◌++◌, List, [], ◌∷◌, length, set, sym, subst, arith, inl, inr, ⊎_elim}
use Rattle.vx_path.specs.Lists.{In}
use Rattle.vx_plan.specs.PlanData.{Item}
use Rattle.vx_machine_state.specs.State.{Desk, Tasks, no_tasks, task_then}
use Rattle.vx_machine_state.specs.Acts.{give, shut_at, add, count}
use Rattle.vx_kept.specs.Kept.{KnowsFrom, Knows}
use Rattle.vx_kept.specs.Follow.{swap}
use Rattle.vx_kept.specs.declared.counts.Counts.{Counts}

-- what stands in the second list, if it stands in the first
abbrev pub Within : List ℕ → List ℕ → Type 0
Within xs ys = (j : ℕ) → In j xs → In j ys

pub in_left : (p : ℕ) (xs ys : List ℕ) → In p xs → In p (xs ++ ys)
in_left p [] ys i = absurd i
in_left p (x ∷ xs) ys (inl e) = inl e
in_left p (x ∷ xs) ys (inr i) = inr (in_left p xs ys i)

pub in_right : (p : ℕ) (xs ys : List ℕ) → In p ys → In p (xs ++ ys)
in_right p [] ys i = i
in_right p (x ∷ xs) ys i = inr (in_right p xs ys i)

in_either : (p : ℕ) (xs ys : List ℕ) → In p (xs ++ ys) → In p xs ⊎ In p ys
in_either p [] ys i = inr i
in_either p (x ∷ xs) ys (inl e) = inl (inl e)
in_either p (x ∷ xs) ys (inr i) = ⊎_elim (λ k. inl (inr k)) (λ k. inr k) (in_either p xs ys i)

-- in front or at the end, it is the same
pub front_within : (x : ℕ) (xs : List ℕ) → Within (x ∷ xs) (xs ++ (x ∷ []))
front_within x xs j (inl e) = in_right j xs (x ∷ []) (inl e)
front_within x xs j (inr i) = in_left j xs (x ∷ []) i

pub end_within : (x : ℕ) (xs : List ℕ) → Within (xs ++ (x ∷ [])) (x ∷ xs)
end_within x xs j i = ⊎_elim (λ k. inr k) (λ k. ⊎_elim (λ e. inl e) (λ n. absurd n) k) (in_either j xs (x ∷ []) i)

pub more_within : (x : ℕ) (xs : List ℕ) → Within xs (x ∷ xs)
more_within x xs j i = inr i

pub there_within : (x : ℕ) (xs : List ℕ) → In x xs → Within (x ∷ xs) xs
there_within x xs i j (inl e) = subst (λ z. In z xs) (sym e) i
there_within x xs i j (inr k) = k

pub knows_more : (asked bsked : List ℕ) (i : ℕ) (ns : List ℕ) (xs : List Counts) (ks : Tasks) → Within asked bsked → KnowsFrom asked i ns xs ks → KnowsFrom bsked i ns xs ks
knows_more asked bsked i [] [] ks w k = tt
knows_more asked bsked i (n ∷ ns) [] ks w k = absurd k
knows_more asked bsked i [] (x ∷ xs) ks w k = absurd k
knows_more asked bsked i (n ∷ ns) (x ∷ xs) no_tasks w k = absurd k
knows_more asked bsked i (n ∷ ns) (x ∷ xs) (task_then c ks r) w k = (λ h. k.0 (λ a. h (w i a)), k.1, knows_more asked bsked (suc i) ns xs r w k.2)

-- from one place on, with the same number
moved : (p q : ℕ) (asked : List ℕ) (i : ℕ) (ns : List ℕ) (xs : List Counts) (ks : Tasks) → p ≡ q → KnowsFrom (p ∷ asked) i ns xs ks → KnowsFrom (q ∷ asked) i ns xs ks
moved p q asked i ns xs ks e k = subst (λ z. KnowsFrom (z ∷ asked) i ns xs ks) e k

-- an item for child j
pub give_leaves : (j : ℕ) (it : Item) (asked : List ℕ) (i : ℕ) (ns : List ℕ) (xs : List Counts) (ks : Tasks) → KnowsFrom asked i ns xs ks → KnowsFrom ((i + j) ∷ asked) i ns xs (give j it ks)
give_leaves j it asked i [] [] ks k = tt
give_leaves j it asked i (n ∷ ns) [] ks k = absurd k
give_leaves j it asked i [] (x ∷ xs) ks k = absurd k
give_leaves j it asked i (n ∷ ns) (x ∷ xs) no_tasks k = absurd k
give_leaves zero it asked i (n ∷ ns) (x ∷ xs) (task_then c ks r) k =
    (λ h. absurd (h (inl (omega arith))), k.1, knows_more asked ((i + 0) ∷ asked) (suc i) ns xs r (more_within (i + 0) asked) k.2)
give_leaves (suc j) it asked i (n ∷ ns) (x ∷ xs) (task_then c ks r) k =
    (λ out. k.0 (λ a. out (inr a)), k.1, moved (suc i + j) (i + suc j) asked (suc i) ns xs (give j it r) (omega arith) (give_leaves j it asked (suc i) ns xs r k.2))

-- child j's queue closed
pub shut_leaves : (j : ℕ) (asked : List ℕ) (i : ℕ) (ns : List ℕ) (xs : List Counts) (ks : Tasks) → KnowsFrom asked i ns xs ks → KnowsFrom ((i + j) ∷ asked) i ns xs (shut_at j ks)
shut_leaves j asked i [] [] ks k = tt
shut_leaves j asked i (n ∷ ns) [] ks k = absurd k
shut_leaves j asked i [] (x ∷ xs) ks k = absurd k
shut_leaves j asked i (n ∷ ns) (x ∷ xs) no_tasks k = absurd k
shut_leaves zero asked i (n ∷ ns) (x ∷ xs) (task_then c ks r) k =
    (λ h. absurd (h (inl (omega arith))), k.1, knows_more asked ((i + 0) ∷ asked) (suc i) ns xs r (more_within (i + 0) asked) k.2)
shut_leaves (suc j) asked i (n ∷ ns) (x ∷ xs) (task_then c ks r) k =
    (λ out. k.0 (λ a. out (inr a)), k.1, moved (suc i + j) (i + suc j) asked (suc i) ns xs (shut_at j r) (omega arith) (shut_leaves j asked (suc i) ns xs r k.2))

-- more children
pub add_leaves : (new : Tasks) (asked : List ℕ) (i : ℕ) (ns : List ℕ) (xs : List Counts) (ks : Tasks) → KnowsFrom asked i ns xs ks → KnowsFrom asked i ns xs (add ks new)
add_leaves new asked i [] [] ks k = tt
add_leaves new asked i (n ∷ ns) [] ks k = absurd k
add_leaves new asked i [] (x ∷ xs) ks k = absurd k
add_leaves new asked i (n ∷ ns) (x ∷ xs) no_tasks k = absurd k
add_leaves new asked i (n ∷ ns) (x ∷ xs) (task_then c ks r) k = (k.0, k.1, add_leaves new asked (suc i) ns xs r k.2)

-- a step of child j or below it
pub swap_leaves : (j : ℕ) (d : Desk) (js : Tasks) (y : Counts) (asked : List ℕ) (i : ℕ) (ns : List ℕ) (xs : List Counts) (ks : Tasks) → Knows y js → KnowsFrom asked i ns xs ks
    → KnowsFrom ((i + j) ∷ asked) i ns (set xs j y) (swap j d js ks)
swap_leaves j d js y asked i [] [] ks h k = tt
swap_leaves j d js y asked i (n ∷ ns) [] ks h k = absurd k
swap_leaves j d js y asked i [] (x ∷ xs) ks h k = absurd k
swap_leaves j d js y asked i (n ∷ ns) (x ∷ xs) no_tasks h k = absurd k
swap_leaves zero d js y asked i (n ∷ ns) (x ∷ xs) (task_then c ks r) h k =
    (λ out. absurd (out (inl (omega arith))), h, knows_more asked ((i + 0) ∷ asked) (suc i) ns xs r (more_within (i + 0) asked) k.2)
swap_leaves (suc j) d js y asked i (n ∷ ns) (x ∷ xs) (task_then c ks r) h k =
    (λ out. k.0 (λ a. out (inr a)), k.1, moved (suc i + j) (i + suc j) asked (suc i) ns (set xs j y) (swap j d js r) (omega arith) (swap_leaves j d js y asked (suc i) ns xs r h k.2))

-- one more is counted
pub push_leaves : (m : ℕ) (y : Counts) (asked : List ℕ) (i : ℕ) (ns : List ℕ) (xs : List Counts) (ks : Tasks) → ((js : Tasks) → Knows y js) → length ns < count ks → KnowsFrom asked i ns xs ks
    → KnowsFrom ((i + length ns) ∷ asked) i (ns ++ (m ∷ [])) (xs ++ (y ∷ [])) ks
push_leaves m y asked i [] [] no_tasks h l k = absurd (omega (arith, l))
push_leaves m y asked i [] [] (task_then c ks r) h l k = (λ out. absurd (out (inl (omega arith))), h ks, tt)
push_leaves m y asked i (n ∷ ns) [] ks h l k = absurd k
push_leaves m y asked i [] (x ∷ xs) ks h l k = absurd k
push_leaves m y asked i (n ∷ ns) (x ∷ xs) no_tasks h l k = absurd k
push_leaves m y asked i (n ∷ ns) (x ∷ xs) (task_then c ks r) h l k =
    (λ out. k.0 (λ a. out (inr a)), k.1, moved (suc i + length ns) (i + suc (length ns)) asked (suc i) (ns ++ (m ∷ [])) (xs ++ (y ∷ [])) r (omega arith) (push_leaves m y asked (suc i) ns xs r h (omega (arith, l)) k.2))
