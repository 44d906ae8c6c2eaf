-- What words on lists of actions say of a list in two parts, and of what a task has done and has still to do.
use Rattle.std.proofs.Common.{◌≡◌, ℕ, zero, suc, ◌+◌, ◌≤◌, ◌⊎◌, Bool, true, false, ◌||◌, List, [], ◌∷◌, ◌++◌, map, length, take, drop, refl, sym, ap, ◌∙◌, inl, inr, arith, append_assoc, append-nil, take-append-drop, add_assoc, length-append, take_all}
use Rattle.std.proofs.lemmas.Bool.{true≢false}
use Rattle.std.proofs.lemmas.Bool.Decides.{nat_tests}
use Rattle.vx_path.specs.Lists.{In}
use Rattle.vx_path.proofs.Lists.{in_left, in_right, in_cases}
use Rattle.vx_tasks.specs.Task.Kind.{Free, Take, TakeEnd, Put, Append, Join}
use Rattle.vx_tasks.specs.Task.{Task, Action, Kind, next, past, has, to_child, given, starts_in, shuts_in, refuses_in, takes_of, takes_in, appends_of, appends_in, holds_after, holds_in, is_still, is_late, next_kind, any_kind, sent, closed, holds, items, closes, ever_held}

-- Lists.

pub nil_left : {A : Type 0} (xs ys : List A) → xs ++ ys ≡ [] → xs ≡ []
nil_left [] ys e = refl
nil_left (x ∷ xs) ys e = cc

pub nil_right : {A : Type 0} (xs ys : List A) → xs ++ ys ≡ [] → ys ≡ []
nil_right [] ys e = e
nil_right (x ∷ xs) ys e = cc

pub map_nil : {A B : Type 0} (f : A → B) (xs : List A) → map f xs ≡ [] → xs ≡ []
map_nil f [] e = refl
map_nil f (x ∷ xs) e = cc

pub drop_nil : {A : Type 0} (n : ℕ) → drop {A = A} n [] ≡ []
drop_nil zero = refl
drop_nil (suc n) = refl

pub no_true : {b : Bool} → b ≡ false → b ≡ true → ⊥
no_true f t = true≢false (sym t ∙ f)

pub or_true : (a b : Bool) → (a ≡ true) ⊎ (b ≡ true) → (a || b) ≡ true
or_true a b h = grind (arith, nat_tests)

pub or_parts : (a b : Bool) → (a || b) ≡ true → (a ≡ true) ⊎ (b ≡ true)
or_parts a b h = grind (arith, nat_tests)

pub or_false : (a b : Bool) → (a || b) ≡ false → (a ≡ false) × (b ≡ false)
or_false a b h = grind (arith, nat_tests)

or_assoc : (a b c : Bool) → (a || b || c) ≡ (a || (b || c))
or_assoc a b c = grind (arith, nat_tests)

-- what is dropped from a list in two parts is dropped from one of them
pub in_drop : (n : ℕ) (x : List ℕ) (xs ys : List (List ℕ)) → In x (drop n (xs ++ ys)) → In x (drop n xs) ⊎ In x ys
in_drop zero x xs ys h = in_cases x xs ys h
in_drop (suc n) x [] ys h = inr (dropped (suc n) x ys h)
  where
    dropped : (n : ℕ) (x : List ℕ) (ys : List (List ℕ)) → In x (drop n ys) → In x ys
    dropped zero x ys h = h
    dropped (suc n) x [] h = h
    dropped (suc n) x (y ∷ ys) h = inr (dropped n x ys h)
in_drop (suc n) x (z ∷ xs) ys h = in_drop n x xs ys h

-- Done and still to do.

pub script_is : (t : Task) (n : ℕ) → t.script ≡ past t n ++ next t n
script_is t n = sym (take-append-drop n t.script)

pub next_suc : (xs : List Action) (n : ℕ) (a : Action) (todo : List Action) → drop n xs ≡ a ∷ todo → drop (suc n) xs ≡ todo
next_suc [] zero a todo e = cc
next_suc [] (suc n) a todo e = cc
next_suc (x ∷ xs) zero a todo e = cc
next_suc (x ∷ xs) (suc n) a todo e = next_suc xs n a todo e

pub past_suc : (xs : List Action) (n : ℕ) (a : Action) (todo : List Action) → drop n xs ≡ a ∷ todo → take (suc n) xs ≡ take n xs ++ (a ∷ [])
past_suc [] zero a todo e = cc
past_suc [] (suc n) a todo e = cc
past_suc (x ∷ xs) zero a todo e = let h : x ≡ a = cc in ap (λ y. y ∷ []) h
past_suc (x ∷ xs) (suc n) a todo e = ap (λ y. x ∷ y) (past_suc xs n a todo e)

pub all_done : (t : Task) (n : ℕ) → next t n ≡ [] → past t n ≡ t.script
all_done t n e = sym (script_is t n ∙ ap (λ y. past t n ++ y) e ∙ append-nil (past t n))

pub all_whole : (t : Task) → past t (length t.script) ≡ t.script
all_whole t = take_all (length t.script) t.script (omega arith)

-- Each word over two lists joined.

pub given-append : (j : ℕ) (xs ys : List Action) → given j (xs ++ ys) ≡ given j xs ++ given j ys
given-append j [] ys = refl
given-append j (a ∷ xs) ys =
    ap (λ y. to_child j a.gives ++ y) (given-append j xs ys) ∙ sym (append_assoc (to_child j a.gives) (given j xs) (given j ys))

pub starts_in-append : (j : ℕ) (xs ys : List Action) → starts_in j (xs ++ ys) ≡ (starts_in j xs || starts_in j ys)
starts_in-append j [] ys = refl
starts_in-append j (a ∷ xs) ys =
    ap (λ y. has j a.starts || y) (starts_in-append j xs ys) ∙ sym (or_assoc (has j a.starts) (starts_in j xs) (starts_in j ys))

pub shuts_in-append : (j : ℕ) (xs ys : List Action) → shuts_in j (xs ++ ys) ≡ (shuts_in j xs || shuts_in j ys)
shuts_in-append j [] ys = refl
shuts_in-append j (a ∷ xs) ys =
    ap (λ y. has j a.shuts || y) (shuts_in-append j xs ys) ∙ sym (or_assoc (has j a.shuts) (shuts_in j xs) (shuts_in j ys))

pub refuses_in-append : (xs ys : List Action) → refuses_in (xs ++ ys) ≡ (refuses_in xs || refuses_in ys)
refuses_in-append [] ys = refl
refuses_in-append (a ∷ xs) ys =
    ap (λ y. a.refuses || y) (refuses_in-append xs ys) ∙ sym (or_assoc a.refuses (refuses_in xs) (refuses_in ys))

pub any_kind-append : (test : Kind → Bool) (xs ys : List Action) → any_kind test (xs ++ ys) ≡ (any_kind test xs || any_kind test ys)
any_kind-append test [] ys = refl
any_kind-append test (a ∷ xs) ys =
    ap (λ y. test a.kind || y) (any_kind-append test xs ys) ∙ sym (or_assoc (test a.kind) (any_kind test xs) (any_kind test ys))

pub takes_in-append : (xs ys : List Action) → takes_in (xs ++ ys) ≡ takes_in xs + takes_in ys
takes_in-append [] ys = omega arith
takes_in-append (a ∷ xs) ys = ap (λ y. takes_of a.kind + y) (takes_in-append xs ys) ∙ sym (add_assoc (takes_of a.kind) (takes_in xs) (takes_in ys))

pub appends_in-append : (xs ys : List Action) → appends_in (xs ++ ys) ≡ appends_in xs ++ appends_in ys
appends_in-append [] ys = refl
appends_in-append (a ∷ xs) ys =
    ap (λ y. appends_of a.kind ++ y) (appends_in-append xs ys) ∙ sym (append_assoc (appends_of a.kind) (appends_in xs) (appends_in ys))

pub holds_after-append : (h : List (List ℕ)) (xs ys : List Action) → holds_after h (xs ++ ys) ≡ holds_after (holds_after h xs) ys
holds_after-append h [] ys = refl
holds_after-append h (a ∷ xs) ys = holds_after-append a.holds xs ys

-- what is held after some actions is held some time
pub in_holds : (x : List ℕ) (h : List (List ℕ)) (xs ys : List Action) → In x (holds_after h xs) → In x (h ++ holds_in (xs ++ ys))
in_holds x h [] ys i = in_left x h (holds_in ys) i
in_holds x h (a ∷ xs) ys i = in_right x h (a.holds ++ holds_in (xs ++ ys)) (in_holds x a.holds xs ys i)

-- Of a task.

pub held_ever : (t : Task) (n : ℕ) (x : List ℕ) → In x (holds t n) → In x (ever_held t)
held_ever t n x i = rw (script_is t n) (in_holds x t.held (past t n) (next t n) i)

-- what is given in all is what is given so far and what is still to be given
pub items_are : (p : Task) (j n : ℕ) → items j p ≡ sent p j n ++ given j (next p n)
items_are p j n = ap (given j) (script_is p n) ∙ given-append j (past p n) (next p n)

pub sent_fewer : (p : Task) (j n : ℕ) → length (sent p j n) ≤ length (items j p)
sent_fewer p j n = rw (items_are p j n, length-append (sent p j n) (given j (next p n))) (omega arith)

pub closes_some_time : (p : Task) (j n : ℕ) → closed p j n ≡ true → closes j p ≡ true
closes_some_time p j n h =
    ap (shuts_in j) (script_is p n) ∙ shuts_in-append j (past p n) (next p n) ∙ or_true (closed p j n) (shuts_in j (next p n)) (inl h)

pub kind_some_time : (test : Kind → Bool) (t : Task) (n : ℕ) → next_kind test (next t n) ≡ true → any_kind test t.script ≡ true
kind_some_time test t n h =
    ap (any_kind test) (script_is t n) ∙ any_kind-append test (past t n) (next t n)
    ∙ or_true (any_kind test (past t n)) (any_kind test (next t n)) (inr (first_is (next t n) h))
  where
    first_is : (xs : List Action) → next_kind test xs ≡ true → any_kind test xs ≡ true
    first_is [] h = h
    first_is (a ∷ xs) h = or_true (test a.kind) (any_kind test xs) (inl h)

-- what appends or joins comes after the last item
pub late_from_still : (xs : List Action) → next_kind is_still xs ≡ true → next_kind is_late xs ≡ true
late_from_still [] h = h
late_from_still (a ∷ xs) h = at a.kind h
  where
    at : (k : Kind) → is_still k ≡ true → is_late k ≡ true
    at (Free w) h = h
    at Take h = h
    at TakeEnd h = refl
    at (Put c) h = h
    at (Append q) h = refl
    at Join h = refl

pub next_clean : (t : Task) (n : ℕ) → refuses_in t.script ≡ false → refuses_in (next t n) ≡ false
next_clean t n h =
    (or_false (refuses_in (past t n)) (refuses_in (next t n)) (sym (ap refuses_in (script_is t n) ∙ refuses_in-append (past t n) (next t n)) ∙ h)).1

pub holds_in-append : (xs ys : List Action) → holds_in (xs ++ ys) ≡ holds_in xs ++ holds_in ys
holds_in-append [] ys = refl
holds_in-append (a ∷ xs) ys = ap (λ y. a.holds ++ y) (holds_in-append xs ys) ∙ sym (append_assoc a.holds (holds_in xs) (holds_in ys))

pub given_rest : (j : ℕ) (xs : List Action) (n : ℕ) → given j xs ≡ [] → given j (drop n xs) ≡ []
given_rest j xs zero h = h
given_rest j [] (suc n) h = refl
given_rest j (a ∷ xs) (suc n) h = given_rest j xs n (nil_right (to_child j a.gives) (given j xs) h)
