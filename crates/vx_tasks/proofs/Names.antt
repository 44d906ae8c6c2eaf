-- The order of names is the order in which the tree is walked.
use Rattle.std.proofs.Common.{◌≡◌, ℕ, suc, ◌⊎◌, Bool, true, false, List, [], ◌∷◌, ◌++◌, map, refl, sym, ap, subst, inl, inr, ⊎_elim}
use Rattle.vx_path.specs.Lists.{In}
use Rattle.vx_path.specs.Path.{path_lt}
use Rattle.vx_path.proofs.Lists.{in_left, in_right, in_cases, from_map}
use Rattle.vx_tasks.specs.Task.{Task, Action, Forest, next, started, closed}
use Rattle.vx_tasks.specs.Task.Forest.{Bare, Node}
use Rattle.vx_tasks.specs.State.{Counts, top, below, beside, queue}
use Rattle.vx_tasks.specs.Run.{can, Move, own_move, move_below, move_beside, moves}
use Rattle.vx_tasks.specs.Rules.{Rises, names}
use Rattle.vx_tasks.proofs.Steps.{Where, here, under, aside, which}

abbrev pub Across : List (List ℕ) → List (List ℕ) → Type 0
Across xs ys = (x y : List ℕ) → In x xs → In y ys → path_lt x y ≡ true

pub rises_join : (xs ys : List (List ℕ)) → Rises xs → Rises ys → Across xs ys → Rises (xs ++ ys)
rises_join [] ys a b c = b
rises_join (x ∷ xs) ys a b c =
    (λ y i. ⊎_elim (λ l. a.0 y l) (λ r. c x y (inl refl) r) (in_cases y xs ys i), rises_join xs ys a.1 b (λ u v i k. c u v (inr i) k))

pub rises_left : (xs ys : List (List ℕ)) → Rises (xs ++ ys) → Rises xs
rises_left [] ys h = tt
rises_left (x ∷ xs) ys h = (λ y i. h.0 y (in_left y xs ys i), rises_left xs ys h.1)

pub rises_right : (xs ys : List (List ℕ)) → Rises (xs ++ ys) → Rises ys
rises_right [] ys h = h
rises_right (x ∷ xs) ys h = rises_right xs ys h.1

pub rises_across : (xs ys : List (List ℕ)) → Rises (xs ++ ys) → Across xs ys
rises_across [] ys h u v i k = absurd i
rises_across (x ∷ xs) ys h u v i k = ⊎_elim (λ e. rw e (h.0 v (in_right v xs ys k))) (λ l. rises_across xs ys h.1 u v l k) i

-- a move's name is that of a task
move_named : (all : List (List ℕ)) (p : Task) (n j : ℕ) (f : Forest) (s : Counts) (m : Move) → In m (moves all p n j f s) → In m.name (names f)
move_named all p n j Bare s m i = absurd i
move_named all p n j (Node t kids rest) s m i =
    by_place (which all p n j t kids rest s m i)
    (λ d k. move_named all t (top s) 0 kids (below s) d k) (λ d k. move_named all p n (suc j) rest (beside s) d k)
  where
    by_place : Where all p n j t kids rest s m → ((d : Move) → In d (moves all t (top s) 0 kids (below s)) → In d.name (names kids))
        → ((d : Move) → In d (moves all p n (suc j) rest (beside s)) → In d.name (names rest)) → In m.name (names (Node t kids rest))
    by_place (here g o) down over = inl o.name_is
    by_place (under g d k e) down over = subst (λ x. In x (names (Node t kids rest))) (sym (ap (λ x. x.name) e)) (inr (in_left d.name (names kids) (names rest) (down d k)))
    by_place (aside d k e) down over = subst (λ x. In x (names (Node t kids rest))) (sym (ap (λ x. x.name) e)) (inr (in_right d.name (names kids) (names rest) (over d k)))

abbrev named : List Move → List (List ℕ)
named ms = map (λ m. m.name) ms

named-append : (xs ys : List Move) → named (xs ++ ys) ≡ named xs ++ named ys
named-append [] ys = refl
named-append (x ∷ xs) ys = ap (λ l. x.name ∷ l) (named-append xs ys)

named-below : (s : Counts) (ms : List Move) → named (map (move_below s) ms) ≡ named ms
named-below s [] = refl
named-below s (m ∷ ms) = ap (λ l. m.name ∷ l) (named-below s ms)

named-beside : (s : Counts) (ms : List Move) → named (map (move_beside s) ms) ≡ named ms
named-beside s [] = refl
named-beside s (m ∷ ms) = ap (λ l. m.name ∷ l) (named-beside s ms)

-- the names of the moves of a part of a tree are names of its tasks
named_in : (all : List (List ℕ)) (p : Task) (n j : ℕ) (f : Forest) (s : Counts) (y : List ℕ) → In y (named (moves all p n j f s)) → In y (names f)
named_in all p n j f s y i = from (from_map (λ m. m.name) y (moves all p n j f s) i)
  where
    from : (m : Move) × In m (moves all p n j f s) × (y ≡ m.name) → In y (names f)
    from (m, k, e) = rw e (move_named all p n j f s m k)

-- at most one move, of the task's own name
own_named : (all q : List (List ℕ)) (shut : Bool) (t : Task) (kids : Forest) (s : Counts) (todo : List Action)
    → (named (own_move all q shut t kids s todo) ≡ []) ⊎ (named (own_move all q shut t kids s todo) ≡ t.name ∷ [])
own_named all q shut t kids s [] = inl refl
own_named all q shut t kids s (a ∷ todo) = by_test (can all q shut t (top s) kids (below s) a.kind) refl
  where
    by_test : (b : Bool) → can all q shut t (top s) kids (below s) a.kind ≡ b
        → (named (own_move all q shut t kids s (a ∷ todo)) ≡ []) ⊎ (named (own_move all q shut t kids s (a ∷ todo)) ≡ t.name ∷ [])
    by_test true e = rw e (inr refl)
    by_test false e = rw e (inl refl)

pub moves_rise : (all : List (List ℕ)) (p : Task) (n j : ℕ) (f : Forest) (s : Counts) → Rises (names f) → Rises (named (moves all p n j f s))
moves_rise all p n j Bare s h = tt
moves_rise all p n j (Node t kids rest) s (first, more) =
    by_start (started p j n) refl
    (moves_rise all t (top s) 0 kids (below s) (rises_left (names kids) (names rest) more))
    (moves_rise all p n (suc j) rest (beside s) (rises_right (names kids) (names rest) more))
  where
    over : List Move
    over = moves all p n (suc j) rest (beside s)

    down : List Move
    down = moves all t (top s) 0 kids (below s)

    own : List Move
    own = own_move all (queue p n j t (top s)) (closed p j n) t kids s (next t (top s))

    own_rises : (l : List (List ℕ)) → (l ≡ []) ⊎ (l ≡ t.name ∷ []) → Rises (named down) → Rises (l ++ named down)
    own_rises l (inl e) r = rw e r
    own_rises l (inr e) r = rw e (λ y i. first y (in_left y (names kids) (names rest) (named_in all t (top s) 0 kids (below s) y i)), r)

    own_before : (l : List (List ℕ)) → (l ≡ []) ⊎ (l ≡ t.name ∷ []) → (x : List ℕ) → In x (l ++ named down) → (y : List ℕ) → In y (named over) → path_lt x y ≡ true
    own_before l c x i y k = ⊎_elim
        (λ a. ⊎_elim (λ e. let z : In x [] = rw e at a in absurd z)
        (λ e. let z : In x (t.name ∷ []) = rw e at a in ⊎_elim
        (λ w. rw w (first y (in_right y (names kids) (names rest) (named_in all p n (suc j) rest (beside s) y k)))) (λ w. absurd w) z) c)
        (λ b. rises_across (names kids) (names rest) more x y (named_in all t (top s) 0 kids (below s) x b) (named_in all p n (suc j) rest (beside s) y k))
        (in_cases x l (named down) i)

    one : (named own ≡ []) ⊎ (named own ≡ t.name ∷ [])
    one = own_named all (queue p n j t (top s)) (closed p j n) t kids s (next t (top s))

    by_start : (b : Bool) → started p j n ≡ b → Rises (named down) → Rises (named over) → Rises (named (moves all p n j (Node t kids rest) s))
    by_start true g low high = rw g (rw (named-append (own ++ map (move_below s) down) (map (move_beside s) over), named-append own (map (move_below s) down), named-below s down, named-beside s over)
        (rises_join (named own ++ named down) (named over) (own_rises (named own) one low) high (λ x y i k. own_before (named own) one x i y k)))
    by_start false g low high = rw g (rw (named-beside s over) high)
