-- What a move does to a state: the work left falls by one, no refusal is passed, and the path that is
-- appended leaves those that are pending.
use Rattle.std.proofs.Common.{◌≡◌, ℕ, suc, ◌⊎◌, Bool, true, false, cond, List, [], ◌∷◌, ◌++◌, map, refl, sym, ap, ◌∙◌, subst, inl, inr, ⊎_elim, arith, append_assoc}
use Rattle.std.proofs.lemmas.Bool.{cases_Bool}
use Rattle.vx_path.specs.Lists.{In}
use Rattle.vx_path.proofs.Lists.{in_cases, from_map}
use Rattle.vx_tasks.specs.Task.{Task, Action, Forest, next, refuses_in, started, closed, appends_of, appends_in}
use Rattle.vx_tasks.specs.Task.Forest.{Bare, Node}
use Rattle.vx_tasks.specs.State.{Counts, top, below, beside, left, queue, pending}
use Rattle.vx_tasks.specs.State.Counts.{Zeros, Count}
use Rattle.vx_tasks.specs.Run.{can, Move, own_move, move_below, move_beside, moves}
use Rattle.vx_tasks.proofs.Stuck.{Kept}
use Rattle.vx_tasks.proofs.Scripts.{next_suc, no_true, or_parts}

-- The task that moves: this one, one below it, or one beside it.

-- the first task's own move: its next action, with its number raised
pub record Own (all q : List (List ℕ)) (shut : Bool) (t : Task) (kids : Forest) (s : Counts) (m : Move) : Type 0 where
  pub todo : List Action
  pub next_is : next t (top s) ≡ m.action ∷ todo
  pub allowed : can all q shut t (top s) kids (below s) m.action.kind ≡ true
  pub after_is : m.after ≡ Count (suc (top s)) (below s) (beside s)
  pub name_is : m.name ≡ t.name

from_own : (all q : List (List ℕ)) (shut : Bool) (t : Task) (kids : Forest) (s : Counts) (m : Move) (todo : List Action) → next t (top s) ≡ todo
    → In m (own_move all q shut t kids s todo) → Own all q shut t kids s m
from_own all q shut t kids s m [] w i = absurd i
from_own all q shut t kids s m (a ∷ todo) w i = by_test (cases_Bool (can all q shut t (top s) kids (below s) a.kind))
  where
    it : Move
    it = record { name = t.name; action = a; after = Count (suc (top s)) (below s) (beside s) }

    by_test : (can all q shut t (top s) kids (below s) a.kind ≡ true) ⊎ (can all q shut t (top s) kids (below s) a.kind ≡ false) → Own all q shut t kids s m
    by_test (inl h) =
        let o : In m (it ∷ []) = rw h at i in
        let e : m ≡ it = ⊎_elim (λ y. y) (λ y. absurd y) o in
        rw e (record { todo = todo; next_is = w; allowed = h; after_is = refl; name_is = refl })
    by_test (inr h) = let o : In m [] = rw h at i in absurd o

pub data Where (all : List (List ℕ)) (p : Task) (n j : ℕ) (t : Task) (kids rest : Forest) (s : Counts) (m : Move) : Type 0 where
  here : started p j n ≡ true → Own all (queue p n j t (top s)) (closed p j n) t kids s m → Where all p n j t kids rest s m
  under : started p j n ≡ true → (d : Move) → In d (moves all t (top s) 0 kids (below s)) → m ≡ move_below s d → Where all p n j t kids rest s m
  aside : (d : Move) → In d (moves all p n (suc j) rest (beside s)) → m ≡ move_beside s d → Where all p n j t kids rest s m

pub which : (all : List (List ℕ)) (p : Task) (n j : ℕ) (t : Task) (kids rest : Forest) (s : Counts) (m : Move)
    → In m (moves all p n j (Node t kids rest) s) → Where all p n j t kids rest s m
which all p n j t kids rest s m i = ⊎_elim
    (λ a. ⊎_elim (λ g. in_here g (rw g at a)) (λ g. let z : In m [] = rw g at a in absurd z) (cases_Bool (started p j n)))
    (λ b. in_aside (from_map (move_beside s) m (moves all p n (suc j) rest (beside s)) b))
    (in_cases m (cond (started p j n) (own_move all (queue p n j t (top s)) (closed p j n) t kids s (next t (top s))
    ++ map (move_below s) (moves all t (top s) 0 kids (below s))) []) (map (move_beside s) (moves all p n (suc j) rest (beside s))) i)
  where
    in_aside : (d : Move) × In d (moves all p n (suc j) rest (beside s)) × (m ≡ move_beside s d) → Where all p n j t kids rest s m
    in_aside (d, i, e) = aside d i e

    in_under : started p j n ≡ true → (d : Move) × In d (moves all t (top s) 0 kids (below s)) × (m ≡ move_below s d) → Where all p n j t kids rest s m
    in_under g (d, i, e) = under g d i e

    in_here : started p j n ≡ true → In m (own_move all (queue p n j t (top s)) (closed p j n) t kids s (next t (top s))
        ++ map (move_below s) (moves all t (top s) 0 kids (below s))) → Where all p n j t kids rest s m
    in_here g h = ⊎_elim
        (λ a. here g (from_own all (queue p n j t (top s)) (closed p j n) t kids s m (next t (top s)) refl a))
        (λ b. in_under g (from_map (move_below s) m (moves all t (top s) 0 kids (below s)) b))
        (in_cases m (own_move all (queue p n j t (top s)) (closed p j n) t kids s (next t (top s)))
        (map (move_below s) (moves all t (top s) 0 kids (below s))) h)

-- A move lowers the work left by one.

pub move_left : (all : List (List ℕ)) (p : Task) (n j : ℕ) (f : Forest) (s : Counts) (m : Move) → In m (moves all p n j f s) → suc (left f m.after) ≡ left f s
move_left all p n j Bare s m i = absurd i
move_left all p n j (Node t kids rest) s m i =
    by_place (which all p n j t kids rest s m i)
    (λ d k. move_left all t (top s) 0 kids (below s) d k) (λ d k. move_left all p n (suc j) rest (beside s) d k)
  where
    by_place : Where all p n j t kids rest s m → ((d : Move) → In d (moves all t (top s) 0 kids (below s)) → suc (left kids d.after) ≡ left kids (below s))
        → ((d : Move) → In d (moves all p n (suc j) rest (beside s)) → suc (left rest d.after) ≡ left rest (beside s))
        → suc (left (Node t kids rest) m.after) ≡ left (Node t kids rest) s
    by_place (here g o) down over =
        rw (o.after_is, o.next_is, next_suc t.script (top s) m.action o.todo o.next_is) (omega arith)
    by_place (under g d k e) down over = rw e (omega (arith, down d k))
    by_place (aside d k e) down over = rw e (omega (arith, over d k))

-- No refusal is passed.

pub move_kept : (all : List (List ℕ)) (p : Task) (n j : ℕ) (f : Forest) (s : Counts) (m : Move) → In m (moves all p n j f s)
    → m.action.refuses ≡ false → Kept f s → Kept f m.after
move_kept all p n j Bare s m i r kept = tt
move_kept all p n j (Node t kids rest) s m i r (k, below_kept, more) =
    by_place (which all p n j t kids rest s m i)
    (λ d y e. move_kept all t (top s) 0 kids (below s) d y e below_kept) (λ d y e. move_kept all p n (suc j) rest (beside s) d y e more)
  where
    by_place : Where all p n j t kids rest s m → ((d : Move) → In d (moves all t (top s) 0 kids (below s)) → d.action.refuses ≡ false → Kept kids d.after)
        → ((d : Move) → In d (moves all p n (suc j) rest (beside s)) → d.action.refuses ≡ false → Kept rest d.after) → Kept (Node t kids rest) m.after
    by_place (here g o) down over = rw o.after_is (
      (λ h. rw (next_suc t.script (top s) m.action o.todo o.next_is)
          (⊎_elim (λ y. absurd (no_true r y)) (λ y. y) (or_parts m.action.refuses (refuses_in o.todo) (sym (ap refuses_in o.next_is) ∙ k h)))),
      below_kept,
      more,
    )
    by_place (under g d y e) down over = rw e (k, down d y (sym (ap (λ x. x.action.refuses) e) ∙ r), more)
    by_place (aside d y e) down over = rw e (k, below_kept, over d y (sym (ap (λ x. x.action.refuses) e) ∙ r))

pub at_start : (f : Forest) → Kept f Zeros
at_start Bare = tt
at_start (Node t kids rest) = (λ h. h, at_start kids, at_start rest)

-- What a move appends leaves what is pending.

abbrev pub Removes : Forest → Counts → Move → Type 0
Removes f s m = (front : List (List ℕ)) × (back : List (List ℕ)) × (pending f s ≡ front ++ (appends_of m.action.kind ++ back)) × (pending f m.after ≡ front ++ back)

in_front : (a b c d : List (List ℕ)) → (a ++ (b ++ c)) ++ d ≡ a ++ (b ++ (c ++ d))
in_front a b c d = append_assoc a (b ++ c) d ∙ ap (λ x. a ++ x) (append_assoc b c d)

removes_below : (t : Task) (kids rest : Forest) (s : Counts) (d : Move) → Removes kids (below s) d → Removes (Node t kids rest) s (move_below s d)
removes_below t kids rest s d (front, back, was, is) =
    let own : List (List ℕ) = appends_in (next t (top s)) in
    let others : List (List ℕ) = pending rest (beside s) in (
      own ++ front,
      back ++ others,
      ap (λ x. own ++ (x ++ others)) was
          ∙ ap (λ x. own ++ x) (in_front front (appends_of d.action.kind) back others)
          ∙ sym (append_assoc own front (appends_of d.action.kind ++ (back ++ others))),
      ap (λ x. own ++ (x ++ others)) is ∙ ap (λ x. own ++ x) (append_assoc front back others)
          ∙ sym (append_assoc own front (back ++ others)),
    )

removes_aside : (t : Task) (kids rest : Forest) (s : Counts) (d : Move) → Removes rest (beside s) d → Removes (Node t kids rest) s (move_beside s d)
removes_aside t kids rest s d (front, back, was, is) =
    let own : List (List ℕ) = appends_in (next t (top s)) in
    let inner : List (List ℕ) = pending kids (below s) in (
      own ++ (inner ++ front),
      back,
      ap (λ x. own ++ (inner ++ x)) was ∙ sym (in_front own inner front (appends_of d.action.kind ++ back)),
      ap (λ x. own ++ (inner ++ x)) is ∙ sym (in_front own inner front back),
    )

pub move_removes : (all : List (List ℕ)) (p : Task) (n j : ℕ) (f : Forest) (s : Counts) (m : Move) → In m (moves all p n j f s) → Removes f s m
move_removes all p n j Bare s m i = absurd i
move_removes all p n j (Node t kids rest) s m i =
    by_place (which all p n j t kids rest s m i)
    (λ d k. move_removes all t (top s) 0 kids (below s) d k) (λ d k. move_removes all p n (suc j) rest (beside s) d k)
  where
    by_place : Where all p n j t kids rest s m → ((d : Move) → In d (moves all t (top s) 0 kids (below s)) → Removes kids (below s) d)
        → ((d : Move) → In d (moves all p n (suc j) rest (beside s)) → Removes rest (beside s) d) → Removes (Node t kids rest) s m
    by_place (here g o) down over = (
      [],
      appends_in o.todo ++ (pending kids (below s) ++ pending rest (beside s)),
      ap (λ x. appends_in x ++ (pending kids (below s) ++ pending rest (beside s))) o.next_is
          ∙ append_assoc (appends_of m.action.kind) (appends_in o.todo) (pending kids (below s) ++ pending rest (beside s)),
      ap (pending (Node t kids rest)) o.after_is
          ∙ ap (λ x. appends_in x ++ (pending kids (below s) ++ pending rest (beside s))) (next_suc t.script (top s) m.action o.todo o.next_is),
    )
    by_place (under g d k e) down over = subst (λ x. Removes (Node t kids rest) s x) (sym e) (removes_below t kids rest s d (down d k))
    by_place (aside d k e) down over = subst (λ x. Removes (Node t kids rest) s x) (sym e) (removes_aside t kids rest s d (over d k))
