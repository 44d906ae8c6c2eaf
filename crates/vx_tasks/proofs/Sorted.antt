-- What is appended is the least of all that is still to be appended.
use Rattle.std.proofs.Common.{◌≡◌, ℕ, suc, ◌⊎◌, Bool, true, false, not, List, [], ◌∷◌, ◌++◌, drop, refl, sym, ap, ◌∙◌, ⊎_elim, append_assoc}
use Rattle.std.proofs.lemmas.Bool.{cases_Bool}
use Rattle.vx_path.specs.Lists.{In}
use Rattle.vx_path.specs.Path.{path_le, is_least}
use Rattle.vx_path.specs.Sort.{sort, Ascends}
use Rattle.vx_path.proofs.Lists.{in_left, in_right, in_cases, in_rest}
use Rattle.vx_path.proofs.Path.{path_le-refl, path_le-trans, is_least_in}
use Rattle.vx_path.proofs.Sort.{sort-least, sort_ascends, in_sorted}
use Rattle.vx_tasks.specs.Task.{Task, Kind, Forest, next, past, given, started, sent, taken, holds, items, closes, appends_of, appends_in}
use Rattle.vx_tasks.specs.Task.Kind.{Free, Take, TakeEnd, Put, Append, Join}
use Rattle.vx_tasks.specs.Task.Forest.{Bare, Node}
use Rattle.vx_tasks.specs.State.{Counts, top, below, beside, queue, held, pending}
use Rattle.vx_tasks.specs.State.Counts.{Zeros}
use Rattle.vx_tasks.specs.Run.{Move, moves, outside, all_held, all_moves, Leads, written}
use Rattle.vx_tasks.specs.Rules.{Rules, AtLeast, Covers, appends, InOrder}
use Rattle.vx_tasks.proofs.Scripts.{script_is, in_drop, items_are, appends_in-append}
use Rattle.vx_tasks.proofs.Stuck.{in_here, in_own, in_below, in_aside}
use Rattle.vx_tasks.proofs.Steps.{Where, here, under, aside, which, Removes, move_removes}

-- What is pending is some of what is appended in all.

todo_appends : (t : Task) (n : ℕ) (x : List ℕ) → In x (appends_in (next t n)) → In x (appends_in t.script)
todo_appends t n x i = rw (script_is t n, appends_in-append (past t n) (next t n)) (in_right x (appends_in (past t n)) (appends_in (next t n)) i)

pending_appends : (f : Forest) (s : Counts) (x : List ℕ) → In x (pending f s) → In x (appends f)
pending_appends Bare s x i = i
pending_appends (Node t kids rest) s x i = ⊎_elim
    (λ a. in_left x (appends_in t.script) (appends kids ++ appends rest) (todo_appends t (top s) x a))
    (λ b. in_right x (appends_in t.script) (appends kids ++ appends rest) (⊎_elim
    (λ c. in_left x (appends kids) (appends rest) (pending_appends kids (below s) x c))
    (λ c. in_right x (appends kids) (appends rest) (pending_appends rest (beside s) x c))
    (in_cases x (pending kids (below s)) (pending rest (beside s)) b)))
    (in_cases x (appends_in (next t (top s))) (pending kids (below s) ++ pending rest (beside s)) i)

-- Each pending path is at least a held one.

at_least_trans : (ps : List (List ℕ)) (x y : List ℕ) → AtLeast ps x → path_le x y ≡ true → AtLeast ps y
at_least_trans ps x y (z, i, h) k = (z, i, path_le-trans z x y h k)

covered : (all : List (List ℕ)) (cut : Bool) (ps : List (List ℕ)) (p : Task) (n j : ℕ) (f : Forest) (s : Counts) → Rules cut p j f → InOrder ps p j f
    → ((x : List ℕ) → In x (held p n j f s) → In x all) → ((y : List ℕ) → In y (holds p n ++ drop (taken p n) ps) → AtLeast all y)
    → (x : List ℕ) → In x (pending f s) → AtLeast all x
covered all cut ps p n j Bare s rules order sub known x i = absurd i
covered all cut ps p n j (Node t kids rest) s (fit, keeps, apart, lower, later) (o, inner, outer) sub known x i =
    by_place (cases_Bool (started p j n))
    (λ k y a. covered all (not (closes j p)) (items j p) t (top s) 0 kids (below s) lower inner
    (λ z b. sub z (in_below p n j t kids rest s z k b)) (known_here k) y a)
    (λ y a. covered all cut ps p n (suc j) rest (beside s) later outer (λ z b. sub z (in_aside p n j t kids rest s z b)) known y a)
  where
    -- by what p holds or is still to take
    by_parent : (y : List ℕ) → Covers ps p n y → AtLeast all y
    by_parent y (z, a, h) = at_least_trans all z y (known z a) h

    known_here : started p j n ≡ true → (y : List ℕ) → In y (holds t (top s) ++ drop (taken t (top s)) (items j p)) → AtLeast all y
    known_here g y a = ⊎_elim
        (λ b. (y, sub y (in_own p n j t kids rest s y g b), path_le-refl y))
        (λ b. ⊎_elim
        (λ c. (
          y,
          sub y (in_here p n j t kids rest s y g (in_left y (queue p n j t (top s)) (holds t (top s) ++ held t (top s) 0 kids (below s)) c)),
          path_le-refl y,
        ))
        (λ c. by_parent y (o.unsent n y c))
        (in_drop (taken t (top s)) y (sent p j n) (given j (next p n)) (let e : In y (drop (taken t (top s)) (sent p j n ++ given j (next p n))) = rw (items_are p j n) at b in e)))
        (in_cases y (holds t (top s)) (drop (taken t (top s)) (items j p)) a)

    -- of a task that isn't started
    not_yet : started p j n ≡ false → (y : List ℕ) → In y (appends (Node t kids Bare)) → AtLeast all y
    not_yet g y a = by_least (o.inside y a)
      where
        by_least : AtLeast (t.eof ∷ items j p) y → AtLeast all y
        by_least (z, b, h) = ⊎_elim
            (λ e. at_least_trans all t.eof y (by_parent t.eof (o.unborn n g)) (rw e at h))
            (λ c. at_least_trans all z y (by_parent z (o.unsent n z
            (let w : In z (sent p j n ++ given j (next p n)) = rw (items_are p j n) at c in rw (fit.started_first n g) at w))) h)
            b

    by_place : (started p j n ≡ true) ⊎ (started p j n ≡ false)
        → (started p j n ≡ true → (y : List ℕ) → In y (pending kids (below s)) → AtLeast all y)
        → ((y : List ℕ) → In y (pending rest (beside s)) → AtLeast all y) → AtLeast all x
    by_place g down over = ⊎_elim
        (λ a. ⊎_elim
        (λ k. let c : Covers (items j p) t (top s) x = o.own (top s) x a in at_least_trans all c.0 x (known_here k c.0 c.1) c.2)
        (λ k. not_yet k x (in_left x (appends_in t.script) (appends kids ++ []) (todo_appends t (top s) x a))) g)
        (λ b. ⊎_elim
        (λ c. ⊎_elim (λ k. down k x c)
        (λ k. not_yet k x (in_right x (appends_in t.script) (appends kids ++ []) (in_left x (appends kids) [] (pending_appends kids (below s) x c)))) g)
        (λ c. over x c) (in_cases x (pending kids (below s)) (pending rest (beside s)) b))
        (in_cases x (appends_in (next t (top s))) (pending kids (below s) ++ pending rest (beside s)) i)

pub all_covered : (f : Forest) (s : Counts) → Rules false outside 0 f → InOrder [] outside 0 f → (x : List ℕ) → In x (pending f s) → AtLeast (all_held f s) x
all_covered f s rules order x i = covered (all_held f s) false [] outside 1 0 f s rules order (λ y a. a) (λ y a. absurd a) x i

-- An append's path is the least one held.

append_least : (all : List (List ℕ)) (p : Task) (n j : ℕ) (f : Forest) (s : Counts) (m : Move) (q : List ℕ) → In m (moves all p n j f s)
    → m.action.kind ≡ Append q → is_least q all ≡ true
append_least all p n j Bare s m q i e = absurd i
append_least all p n j (Node t kids rest) s m q i e =
    by_place (which all p n j t kids rest s m i)
    (λ d k e. append_least all t (top s) 0 kids (below s) d q k e) (λ d k e. append_least all p n (suc j) rest (beside s) d q k e)
  where
    by_place : Where all p n j t kids rest s m → ((d : Move) → In d (moves all t (top s) 0 kids (below s)) → d.action.kind ≡ Append q → is_least q all ≡ true)
        → ((d : Move) → In d (moves all p n (suc j) rest (beside s)) → d.action.kind ≡ Append q → is_least q all ≡ true) → is_least q all ≡ true
    by_place (here g o) down over = rw e at o.allowed
    by_place (under g d k w) down over = down d k (sym (ap (λ x. x.action.kind) w) ∙ e)
    by_place (aside d k w) down over = over d k (sym (ap (λ x. x.action.kind) w) ∙ e)

-- So what is appended comes first in the sorted list of what is pending.

sort_move : (f : Forest) (s : Counts) (m : Move) → Rules false outside 0 f → InOrder [] outside 0 f → In m (all_moves f s)
    → sort (pending f s) ≡ appends_of m.action.kind ++ sort (pending f m.after)
sort_move f s m rules order i = by_kind m.action.kind refl (move_removes (all_held f s) outside 1 0 f s m i)
  where
    same : (k : Kind) → m.action.kind ≡ k → appends_of k ≡ [] → Removes f s m → sort (pending f s) ≡ appends_of k ++ sort (pending f m.after)
    same k e z (front, back, was, is) = rw z (ap sort (was ∙ ap (λ x. front ++ (x ++ back)) (ap appends_of e ∙ z) ∙ sym is))

    least : (q : List ℕ) → m.action.kind ≡ Append q → Removes f s m → sort (pending f s) ≡ q ∷ sort (pending f m.after)
    least q e (front, back, was, is) =
        let now : pending f s ≡ front ++ (q ∷ back) = was ∙ ap (λ x. front ++ (x ++ back)) (ap appends_of e) in
        ap sort now ∙ sort-least q front back
        (λ y a.
        let c : AtLeast (all_held f s) y = all_covered f s rules order y (rw now (in_rest q y front back a)) in
        path_le-trans q c.0 y (is_least_in q (all_held f s) (append_least (all_held f s) outside 1 0 f s m q i e) c.0 c.1) c.2)
        ∙ ap (λ x. q ∷ sort x) (sym is)

    by_kind : (k : Kind) → m.action.kind ≡ k → Removes f s m → sort (pending f s) ≡ appends_of m.action.kind ++ sort (pending f m.after)
    by_kind (Free w) e r = rw e (same (Free w) e refl r)
    by_kind Take e r = rw e (same Take e refl r)
    by_kind TakeEnd e r = rw e (same TakeEnd e refl r)
    by_kind (Put c) e r = rw e (same (Put c) e refl r)
    by_kind (Append q) e r = rw e (least q e r)
    by_kind Join e r = rw e (same Join e refl r)

pub sort_run : (f : Forest) (s e : Counts) (ms : List Move) → Rules false outside 0 f → InOrder [] outside 0 f → Leads f s ms e
    → sort (pending f s) ≡ written ms ++ sort (pending f e)
sort_run f s e [] rules order l = ap (λ x. sort (pending f x)) l
sort_run f s e (m ∷ ms) rules order (i, r, l) =
    sort_move f s m rules order i ∙ ap (λ x. appends_of m.action.kind ++ x) (sort_run f m.after e ms rules order l)
    ∙ sym (append_assoc (appends_of m.action.kind) (written ms) (sort (pending f e)))

-- each element of the first part is at most each of the second
first_below : (xs ys : List (List ℕ)) → Ascends (λ p. p) (xs ++ ys) → (x y : List ℕ) → In x xs → In y ys → path_le x y ≡ true
first_below [] ys h x y i k = absurd i
first_below (z ∷ xs) ys h x y i k = ⊎_elim (λ e. rw e (h.0 y (in_right y xs ys k))) (λ a. first_below xs ys h.1 x y a k) i

first_ascends : (xs ys : List (List ℕ)) → Ascends (λ p. p) (xs ++ ys) → Ascends (λ p. p) xs
first_ascends [] ys h = tt
first_ascends (z ∷ xs) ys h = (λ y i. h.0 y (in_left y xs ys i), first_ascends xs ys h.1)

pub run_below : (f : Forest) (s e : Counts) (ms : List Move) → Rules false outside 0 f → InOrder [] outside 0 f → Leads f s ms e
    → (x y : List ℕ) → In x (written ms) → In y (pending f e) → path_le x y ≡ true
run_below f s e ms rules order l x y i k =
    first_below (written ms) (sort (pending f e))
    (let a : Ascends (λ p. p) (sort (pending f s)) = sort_ascends (λ p. p) (pending f s) in rw (sort_run f s e ms rules order l) at a)
    x y i (in_sorted (λ p. p) y (pending f e) k)

pub run_ascends : (f : Forest) (s e : Counts) (ms : List Move) → Rules false outside 0 f → InOrder [] outside 0 f → Leads f s ms e
    → Ascends (λ p. p) (written ms)
run_ascends f s e ms rules order l =
    first_ascends (written ms) (sort (pending f e))
    (let a : Ascends (λ p. p) (sort (pending f s)) = sort_ascends (λ p. p) (pending f s) in rw (sort_run f s e ms rules order l) at a)

-- at the start all appends are pending
all_pending : (f : Forest) → pending f Zeros ≡ appends f
all_pending Bare = refl
all_pending (Node t kids rest) =
    ap (λ x. appends_in t.script ++ (x ++ pending rest Zeros)) (all_pending kids) ∙ ap (λ x. appends_in t.script ++ (appends kids ++ x)) (all_pending rest)

pub numbered_run : (f : Forest) (e : Counts) (ms : List Move) → Rules false outside 0 f → InOrder [] outside 0 f → Leads f Zeros ms e
    → sort (appends f) ≡ written ms ++ sort (pending f e)
numbered_run f e ms rules order l = ap sort (sym (all_pending f)) ∙ sort_run f Zeros e ms rules order l
