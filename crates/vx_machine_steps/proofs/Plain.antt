-- Acts with their data and actions without agree.
use Rattle.std.proofs.Common.{◌≡◌, ◌+◌, ◌≤◌, ◌<◌, ◌⊎◌, ◌||◌, ◌∷◌, ◌++◌, ◌∙◌, ℕ, zero, suc, Bool, true, false, cond, nat_eq, List, map, length, take, drop, refl, sym, ap, inl, inr, arith, append_assoc, append-nil, take_at, drop_at, []}
use Rattle.std.proofs.lemmas.List.{map-append}
use Rattle.std.proofs.lemmas.Bool.Decides.{nat_tests}
use Rattle.vx_tasks.specs.Task.{has, to_child, given, starts_in, shuts_in, takes_of, takes_in, holds_after, next, past, sent, started, closed, taken, holds}
use Rattle.vx_tasks.specs.Nodes.{numbers}
use Rattle.vx_tasks.proofs.Scripts.{or_true}
use Rattle.vx_plan.specs.PlanData.{Item}
use Rattle.vx_machine_turns.specs.Acts.{Seed, Act, for_child, gifts, shut, born, takes}
use Rattle.vx_machine_turns.specs.Turns.{firsts, kept}
use Rattle.vx_machine_turns.specs.Plain.{gift, plain_one, plain, task_of}
use Rattle.vx_machine_steps.specs.Moves.{held_after}

pub or_assoc : (a b c : Bool) → (a || (b || c)) ≡ (a || b || c)
or_assoc a b c = grind (arith, nat_tests)

-- What is read off two lists joined, and off a list and one act more.

pub gifts-append : (j : ℕ) (xs ys : List Act) → gifts j (xs ++ ys) ≡ gifts j xs ++ gifts j ys
gifts-append j [] ys = refl
gifts-append j (a ∷ xs) ys = ap (λ z. for_child j a.gives ++ z) (gifts-append j xs ys) ∙ sym (append_assoc (for_child j a.gives) (gifts j xs) (gifts j ys))

pub shut-append : (j : ℕ) (xs ys : List Act) → shut j (xs ++ ys) ≡ (shut j xs || shut j ys)
shut-append j [] ys = refl
shut-append j (a ∷ xs) ys = ap (λ z. has j a.shuts || z) (shut-append j xs ys) ∙ or_assoc (has j a.shuts) (shut j xs) (shut j ys)

pub born-append : (xs ys : List Act) → born (xs ++ ys) ≡ born xs + born ys
born-append [] ys = omega arith
born-append (a ∷ xs) ys = let e : born (xs ++ ys) ≡ born xs + born ys = born-append xs ys in omega arith

pub takes-append : (xs ys : List Act) → takes (xs ++ ys) ≡ takes xs + takes ys
takes-append [] ys = omega arith
takes-append (a ∷ xs) ys = let e : takes (xs ++ ys) ≡ takes xs + takes ys = takes-append xs ys in omega arith

or_no : (a : Bool) → (a || false) ≡ a
or_no a = grind (arith, nat_tests)

pub gifts_more : (j : ℕ) (xs : List Act) (a : Act) → gifts j (xs ++ (a ∷ [])) ≡ gifts j xs ++ for_child j a.gives
gifts_more j xs a = gifts-append j xs (a ∷ []) ∙ ap (λ z. gifts j xs ++ z) (append-nil (for_child j a.gives))

pub shut_more : (j : ℕ) (xs : List Act) (a : Act) → shut j (xs ++ (a ∷ [])) ≡ (shut j xs || has j a.shuts)
shut_more j xs a = shut-append j xs (a ∷ []) ∙ ap (λ z. shut j xs || z) (or_no (has j a.shuts))

pub born_more : (xs : List Act) (a : Act) → born (xs ++ (a ∷ [])) ≡ born xs + length a.starts
born_more xs a = let e : born (xs ++ (a ∷ [])) ≡ born xs + (length a.starts + 0) = born-append xs (a ∷ []) in omega arith

pub takes_more : (xs : List Act) (a : Act) → takes (xs ++ (a ∷ [])) ≡ takes xs + takes_of a.kind
takes_more xs a = let e : takes (xs ++ (a ∷ [])) ≡ takes xs + (takes_of a.kind + 0) = takes-append xs (a ∷ []) in omega arith

-- What is read off acts, and off their actions.

pub length-plain : (k : ℕ) (xs : List Act) → length (plain k xs) ≡ length xs
length-plain k [] = refl
length-plain k (a ∷ xs) = ap suc (length-plain (length a.starts + k) xs)

pub plain-append : (k : ℕ) (xs ys : List Act) → plain k (xs ++ ys) ≡ plain k xs ++ plain (born xs + k) ys
plain-append k [] ys = rw (let e : 0 + k ≡ k = omega arith in e) refl
plain-append k (a ∷ xs) ys =
    ap (λ z. plain_one k a ∷ z) (plain-append (length a.starts + k) xs ys
    ∙ ap (λ z. plain (length a.starts + k) xs ++ plain z ys) (let e : born xs + (length a.starts + k) ≡ length a.starts + born xs + k = omega arith in e))

pub to_child-gifts : (j : ℕ) (gs : List (ℕ × Item)) → to_child j (map gift gs) ≡ map (λ x. x.0) (for_child j gs)
to_child-gifts j [] = refl
to_child-gifts j (g ∷ gs) = by (nat_eq g.0 j) (to_child-gifts j gs)
  where
    by : (b : Bool) → to_child j (map gift gs) ≡ map (λ x. x.0) (for_child j gs)
        → cond b (g.1.0 ∷ to_child j (map gift gs)) (to_child j (map gift gs)) ≡ map (λ x. x.0) (cond b (g.1 ∷ for_child j gs) (for_child j gs))
    by true e = ap (λ z. g.1.0 ∷ z) e
    by false e = e

pub given-plain : (j k : ℕ) (xs : List Act) → given j (plain k xs) ≡ map (λ x. x.0) (gifts j xs)
given-plain j k [] = refl
given-plain j k (a ∷ xs) =
    ap (λ z. z ++ given j (plain (length a.starts + k) xs)) (to_child-gifts j a.gives)
    ∙ ap (λ z. map (λ x. x.0) (for_child j a.gives) ++ z) (given-plain j (length a.starts + k) xs)
    ∙ sym (map-append (λ x. x.0) (for_child j a.gives) (gifts j xs))

pub shuts-plain : (j k : ℕ) (xs : List Act) → shuts_in j (plain k xs) ≡ shut j xs
shuts-plain j k [] = refl
shuts-plain j k (a ∷ xs) = ap (λ z. has j a.shuts || z) (shuts-plain j (length a.starts + k) xs)

pub takes-plain : (k : ℕ) (xs : List Act) → takes_in (plain k xs) ≡ takes xs
takes-plain k [] = refl
takes-plain k (a ∷ xs) = ap (λ z. takes_of a.kind + z) (takes-plain (length a.starts + k) xs)

pub holds-plain : (h : List (List ℕ)) (k : ℕ) (xs : List Act) → holds_after h (plain k xs) ≡ held_after h xs
holds-plain h k [] = refl
holds-plain h k (a ∷ xs) = holds-plain a.holds (length a.starts + k) xs

pub has_number : (j c k : ℕ) → c ≤ j → j < c + k → has j (numbers c k) ≡ true
has_number j c zero l u = grind (arith, nat_tests)
has_number j c (suc k) l u = by (nat_eq c j) refl (λ n. has_number j (suc c) k n (omega arith))
  where
    by : (b : Bool) → nat_eq c j ≡ b → (suc c ≤ j → has j (numbers (suc c) k) ≡ true) → (b || has j (numbers (suc c) k)) ≡ true
    by true e f = or_true true (has j (numbers (suc c) k)) (inl refl)
    by false e f = or_true false (has j (numbers (suc c) k)) (inr (f (grind (arith, nat_tests))))

pub no_number : (j c k : ℕ) → (j < c) ⊎ (c + k ≤ j) → has j (numbers c k) ≡ false
no_number j c zero l = refl
no_number j c (suc k) l = by (nat_eq c j) refl (no_number j (suc c) k (grind arith))
  where
    by : (b : Bool) → nat_eq c j ≡ b → has j (numbers (suc c) k) ≡ false → (b || has j (numbers (suc c) k)) ≡ false
    by true e f = grind (arith, nat_tests)
    by false e f = rw f refl

starts_number : (j k : ℕ) (xs : List Act) → k ≤ j → j < k + born xs → starts_in j (plain k xs) ≡ true
starts_number j k [] l u = grind (arith, nat_tests)
starts_number j k (a ∷ xs) l u = by (cases j (length a.starts + k)) (λ c. starts_number j (length a.starts + k) xs c (omega arith))
  where
    cases : (i n : ℕ) → (i < n) ⊎ (n ≤ i)
    cases i n = grind arith

    by : (j < length a.starts + k) ⊎ (length a.starts + k ≤ j) → (length a.starts + k ≤ j → starts_in j (plain (length a.starts + k) xs) ≡ true)
        → (has j (numbers k (length a.starts)) || starts_in j (plain (length a.starts + k) xs)) ≡ true
    by (inl c) f = or_true (has j (numbers k (length a.starts))) (starts_in j (plain (length a.starts + k) xs)) (inl (has_number j k (length a.starts) l (omega arith)))
    by (inr c) f = or_true (has j (numbers k (length a.starts))) (starts_in j (plain (length a.starts + k) xs)) (inr (f c))

starts_none : (j k : ℕ) (xs : List Act) → k + born xs ≤ j → starts_in j (plain k xs) ≡ false
starts_none j k [] u = refl
starts_none j k (a ∷ xs) u =
    let e : has j (numbers k (length a.starts)) ≡ false = no_number j k (length a.starts) (inr (omega arith)) in
    let g : starts_in j (plain (length a.starts + k) xs) ≡ false = starts_none j (length a.starts + k) xs (omega arith) in
    rw (e, g) refl

-- A task that has done xs and has still to do ys.

past_is : (q : Seed) (xs ys : List Act) → past (task_of q (xs ++ ys)) (length xs) ≡ plain (length (firsts q)) xs
past_is q xs ys =
    ap (take (length xs)) (plain-append (length (firsts q)) xs ys)
    ∙ take_at (plain (length (firsts q)) xs) (plain (born xs + length (firsts q)) ys) (length xs) (length-plain (length (firsts q)) xs)

pub next_is : (q : Seed) (xs ys : List Act) → next (task_of q (xs ++ ys)) (length xs) ≡ plain (born xs + length (firsts q)) ys
next_is q xs ys =
    ap (drop (length xs)) (plain-append (length (firsts q)) xs ys)
    ∙ drop_at (plain (length (firsts q)) xs) (plain (born xs + length (firsts q)) ys) (length xs) (length-plain (length (firsts q)) xs)

pub sent_is : (q : Seed) (xs ys : List Act) (j : ℕ) → sent (task_of q (xs ++ ys)) j (length xs) ≡ map (λ x. x.0) (gifts j xs)
sent_is q xs ys j = ap (given j) (past_is q xs ys) ∙ given-plain j (length (firsts q)) xs

pub closed_is : (q : Seed) (xs ys : List Act) (j : ℕ) → closed (task_of q (xs ++ ys)) j (length xs) ≡ shut j xs
closed_is q xs ys j = ap (shuts_in j) (past_is q xs ys) ∙ shuts-plain j (length (firsts q)) xs

pub taken_is : (q : Seed) (xs ys : List Act) → taken (task_of q (xs ++ ys)) (length xs) ≡ takes xs
taken_is q xs ys = ap takes_in (past_is q xs ys) ∙ takes-plain (length (firsts q)) xs

pub holds_is : (q : Seed) (xs ys : List Act) → holds (task_of q (xs ++ ys)) (length xs) ≡ held_after (kept q.local) xs
holds_is q xs ys = ap (holds_after (kept q.local)) (past_is q xs ys) ∙ holds-plain (kept q.local) (length (firsts q)) xs

pub started_if : (q : Seed) (xs ys : List Act) (j : ℕ) → j < length (firsts q) + born xs → started (task_of q (xs ++ ys)) j (length xs) ≡ true
started_if q xs ys j u = ap (λ z. has j (numbers 0 (length (firsts q))) || starts_in j z) (past_is q xs ys) ∙ by (cases j (length (firsts q)))
  where
    cases : (i n : ℕ) → (i < n) ⊎ (n ≤ i)
    cases i n = grind arith

    by : (j < length (firsts q)) ⊎ (length (firsts q) ≤ j) → (has j (numbers 0 (length (firsts q))) || starts_in j (plain (length (firsts q)) xs)) ≡ true
    by (inl c) = or_true (has j (numbers 0 (length (firsts q)))) (starts_in j (plain (length (firsts q)) xs)) (inl (has_number j 0 (length (firsts q)) (omega arith) (omega arith)))
    by (inr c) = or_true (has j (numbers 0 (length (firsts q)))) (starts_in j (plain (length (firsts q)) xs)) (inr (starts_number j (length (firsts q)) xs c u))

pub not_started : (q : Seed) (xs ys : List Act) (j : ℕ) → length (firsts q) + born xs ≤ j → started (task_of q (xs ++ ys)) j (length xs) ≡ false
not_started q xs ys j u =
    ap (λ z. has j (numbers 0 (length (firsts q))) || starts_in j z) (past_is q xs ys)
    ∙ (let e : has j (numbers 0 (length (firsts q))) ≡ false = no_number j 0 (length (firsts q)) (inr (omega arith)) in
    let g : starts_in j (plain (length (firsts q)) xs) ≡ false = starts_none j (length (firsts q)) xs u in
    rw (e, g) refl)
