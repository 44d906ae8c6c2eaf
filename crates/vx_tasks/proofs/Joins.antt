-- A task whose joins are above their children is apart from them.
use Rattle.std.proofs.Common.{◌≡◌, ℕ, zero, suc, Bool, true, false, nat_eq, ◌||◌, List, [], ◌∷◌, ◌++◌, take, drop, refl, sym, ap, ◌∙◌}
use Rattle.vx_path.specs.Lists.{In}
use Rattle.vx_tasks.specs.Task.{Action, Task, Forest, has, starts_in, holds_after}
use Rattle.vx_tasks.specs.Task.Kind.{Join}
use Rattle.vx_tasks.specs.Task.Forest.{Bare, Node}
use Rattle.vx_tasks.specs.Rules.{Apart, AllBelow}
use Rattle.vx_tasks.specs.Joins.{Under, Joins}

has-append : (j : ℕ) (xs ys : List ℕ) → has j (xs ++ ys) ≡ (has j xs || has j ys)
has-append j [] ys = refl
has-append j (x ∷ xs) ys = ap (λ b. nat_eq x j || b) (has-append j xs ys) ∙ sym (or_assoc (nat_eq x j) (has j xs) (has j ys))
  where
    or_assoc : (a b c : Bool) → ((a || b) || c) ≡ (a || (b || c))
    or_assoc true b c = refl
    or_assoc false b c = refl

-- started by the actions, or before
abbrev Grown : List ℕ → List Action → List ℕ
Grown on [] = on
Grown on (a ∷ xs) = Grown (a.starts ++ on) xs

has_grown : (j : ℕ) (on : List ℕ) (xs : List Action) → (has j on || starts_in j xs) ≡ true → has j (Grown on xs) ≡ true
has_grown j on [] h = none (has j on) h
  where
    none : (b : Bool) → (b || false) ≡ true → b ≡ true
    none true h = refl
    none false h = h
has_grown j on (a ∷ xs) h = has_grown j (a.starts ++ on) xs (rw (has-append j a.starts on) (turn (has j a.starts) (has j on) (starts_in j xs) h))
  where
    turn : (a b c : Bool) → (b || (a || c)) ≡ true → ((a || b) || c) ≡ true
    turn true b c h = refl
    turn false true c h = refl
    turn false false c h = h

at_join : (kids : Forest) (on : List ℕ) (h : List (List ℕ)) (xs : List Action) → Joins kids on h xs → (n : ℕ) (a : Action) (todo : List Action) → drop n xs ≡ a ∷ todo
    → a.kind ≡ Join → (m : List ℕ) → In m (holds_after h (take n xs)) → Under m (Grown on (take n xs)) 0 kids
at_join kids on h [] b zero a todo e k m i = cc
at_join kids on h [] b (suc n) a todo e k m i = cc
at_join kids on h (x ∷ xs) b zero a todo e k m i = let z : x ≡ a = cc in b.0 (ap (λ y. y.kind) z ∙ k) m i
at_join kids on h (x ∷ xs) b (suc n) a todo e k m i = at_join kids (x.starts ++ on) x.holds xs b.1 n a todo e k m i

pub joins_apart : (t : Task) (kids : Forest) → Joins kids t.first t.held t.script → Apart t kids
joins_apart t kids b n a todo w k m i = below 0 kids (at_join kids t.first t.held t.script b n a todo w k m i)
  where
    below : (j : ℕ) (kids : Forest) → Under m (Grown t.first (take n t.script)) j kids → AllBelow m t n j kids
    below j Bare u = tt
    below j (Node c kids rest) u = (λ h. u.0 (has_grown j t.first (take n t.script) h), below (suc j) rest u.1)
