-- A state with work left has a move.
use Rattle.std.proofs.Common.{◌≡◌, ℕ, suc, ◌+◌, ◌<◌, ◌≤◌, ◌⊎◌, Bool, true, false, cond, not, nat_eq, nat_le, ◌||◌, List, [], ◌∷◌, ◌++◌, map, length, drop, IsTrue, refl, sym, ap, ◌∙◌, subst, inl, inr, ⊎_elim, arith, get_or}
use Rattle.std.proofs.lemmas.Bool.{cases_Bool}
use Rattle.std.proofs.lemmas.Bool.Decides.{nat_tests}
use Rattle.std.proofs.lemmas.List.{drop_all}
use Rattle.vx_path.specs.Lists.{In}
use Rattle.vx_path.specs.Path.{path_lt, is_least}
use Rattle.vx_path.proofs.Lists.{in_left, in_right, in_cases}
use Rattle.vx_path.proofs.Path.{least_in, is_least_in, lt_not_le}
use Rattle.vx_tasks.specs.Task.{Task, Action, Kind, Forest, next, shuts_in, refuses_in, holds_after, is_still, next_kind, sent, started, closed, taken, holds, items, closes, places}
use Rattle.vx_tasks.specs.Task.Kind.{Free, Take, TakeEnd, Put, Append, Join}
use Rattle.vx_tasks.specs.Task.Forest.{Bare, Node}
use Rattle.vx_tasks.specs.State.{Counts, top, below, beside, left, left_started, queue, full, held}
use Rattle.vx_tasks.specs.State.Counts.{Count}
use Rattle.vx_tasks.specs.Run.{can, any_there, Move, own_move, move_below, move_beside, moves, outside, all_held, all_moves, ready}
use Rattle.vx_tasks.specs.Rules.{Fits, AllHeld, AllBelow, Rules}
use Rattle.vx_tasks.proofs.Scripts.{nil_left, nil_right, map_nil, drop_nil, no_true, all_done, all_whole, held_ever, sent_fewer, kind_some_time, late_from_still}

-- Of a state: a task that refuses has still to reach the action at which it does.
abbrev pub Kept : Forest → Counts → Type 0
Kept Bare s = Unit {0}
Kept (Node t kids rest) s =
    (IsTrue (refuses_in t.script) → IsTrue (refuses_in (next t (top s)))) × Kept kids (below s) × Kept rest (beside s)

-- A task at rest: it is about to append or to join, or is done.
abbrev Rests : Task → ℕ → Type 0
Rests t n = (next_kind is_still (next t n) ≡ true) ⊎ (next t n ≡ [])

-- t has still to refuse, if it does
abbrev Still : Task → ℕ → Type 0
Still t n = refuses_in t.script ≡ true → refuses_in (next t n) ≡ true

done_clean : (t : Task) (n : ℕ) → Still t n → next t n ≡ [] → refuses_in t.script ≡ false
done_clean t n k e = ⊎_elim (λ h. absurd (no_true (ap refuses_in e) (k h))) (λ h. h) (cases_Bool (refuses_in t.script))

-- a task at rest has taken all items
took_all : (cut : Bool) (p : Task) (j : ℕ) (t : Task) (m : ℕ) → Fits cut p j t → Still t m → Rests t m → length (items j p) ≤ taken t m
took_all cut p j t m fit k r = ⊎_elim (λ h. fit.reads_first m (late_from_still (next t m) h))
    (λ e. rw (all_done t m e) (fit.reads_all (done_clean t m k e))) r

empty_queue : (cut : Bool) (p : Task) (n j : ℕ) (t : Task) (m : ℕ) → Fits cut p j t → Still t m → Rests t m → queue p n j t m ≡ []
empty_queue cut p n j t m fit k r =
    drop_all (taken t m) (sent p j n) (omega (arith, sent_fewer p j n, took_all cut p j t m fit k r))

cond_nil : (b : Bool) (m : Move) → cond b (m ∷ []) [] ≡ [] → b ≡ false
cond_nil true m e = cc
cond_nil false m e = refl

-- what can't be moved isn't ready
cannot : (all q : List (List ℕ)) (shut : Bool) (t : Task) (kids : Forest) (s : Counts) (todo : List Action) → own_move all q shut t kids s todo ≡ []
    → (a : Action) (more : List Action) → todo ≡ a ∷ more → can all q shut t (top s) kids (below s) a.kind ≡ false
cannot all q shut t kids s [] e a more f = cc
cannot all q shut t kids s (b ∷ todo) e a more f =
    let h : b ≡ a = cc in
    rw (← h) (cond_nil (can all q shut t (top s) kids (below s) b.kind)
    (record { name = t.name; action = b; after = Count (suc (top s)) (below s) (beside s) }) e)

-- a task that can't move is at rest, or waits at an empty queue that is open
waits : (all q : List (List ℕ)) (shut : Bool) (t : Task) (kids : Forest) (s : Counts) → own_move all q shut t kids s (next t (top s)) ≡ []
    → ((c : ℕ) → full t (top s) 0 kids (below s) c ≡ false) → Rests t (top s) ⊎ ((q ≡ []) × (shut ≡ false))
waits all q shut t kids s e room = go (next t (top s)) refl
  where
    empty : (q : List (List ℕ)) → (any_there q || shut) ≡ false → (q ≡ []) × (shut ≡ false)
    empty [] h = (refl, h)
    empty (x ∷ q) h = cc

    by_kind : (k : Kind) (todo : List Action) → can all q shut t (top s) kids (below s) k ≡ false → (is_still k ≡ true) ⊎ ((q ≡ []) × (shut ≡ false))
    by_kind (Free w) todo f = cc
    by_kind Take todo f = inr (empty q f)
    by_kind TakeEnd todo f = inr (empty q f)
    by_kind (Put c) todo f = absurd (no_true f (ap not (room c)))
    by_kind (Append x) todo f = inl refl
    by_kind Join todo f = inl refl

    go : (todo : List Action) → next t (top s) ≡ todo → ((next_kind is_still (next t (top s)) ≡ true) ⊎ (next t (top s) ≡ [])) ⊎ ((q ≡ []) × (shut ≡ false))
    go [] w = inl (inr w)
    go (a ∷ todo) w = ⊎_elim (λ h. inl (inl (ap (next_kind is_still) w ∙ h))) (λ h. inr h)
        (by_kind a.kind todo (cannot all q shut t kids s (next t (top s)) e a todo w))

-- The parts of a state in which nothing can be done.

module _ (all : List (List ℕ)) (p : Task) (n j : ℕ) (t : Task) (kids rest : Forest) (s : Counts) (e : moves all p n j (Node t kids rest) s ≡ []) where
  aside_none : moves all p n (suc j) rest (beside s) ≡ []
  aside_none = map_nil (move_beside s) (moves all p n (suc j) rest (beside s)) (nil_right
      (cond (started p j n) (own_move all (queue p n j t (top s)) (closed p j n) t kids s (next t (top s))
      ++ map (move_below s) (moves all t (top s) 0 kids (below s))) [])
      (map (move_beside s) (moves all p n (suc j) rest (beside s))) e)

  here_none : started p j n ≡ true
      → own_move all (queue p n j t (top s)) (closed p j n) t kids s (next t (top s)) ++ map (move_below s) (moves all t (top s) 0 kids (below s)) ≡ []
  here_none g = rw g at (nil_left
      (cond (started p j n) (own_move all (queue p n j t (top s)) (closed p j n) t kids s (next t (top s))
      ++ map (move_below s) (moves all t (top s) 0 kids (below s))) [])
      (map (move_beside s) (moves all p n (suc j) rest (beside s))) e)

  own_none : started p j n ≡ true → own_move all (queue p n j t (top s)) (closed p j n) t kids s (next t (top s)) ≡ []
  own_none g = nil_left (own_move all (queue p n j t (top s)) (closed p j n) t kids s (next t (top s)))
      (map (move_below s) (moves all t (top s) 0 kids (below s))) (here_none g)

  below_none : started p j n ≡ true → moves all t (top s) 0 kids (below s) ≡ []
  below_none g = map_nil (move_below s) (moves all t (top s) 0 kids (below s))
      (nil_right (own_move all (queue p n j t (top s)) (closed p j n) t kids s (next t (top s)))
      (map (move_below s) (moves all t (top s) 0 kids (below s))) (here_none g))

-- The queues are empty.

abbrev AllEmpty : Task → ℕ → ℕ → Forest → Counts → Type 0
AllEmpty p n j Bare s = Unit {0}
AllEmpty p n j (Node t kids rest) s = (queue p n j t (top s) ≡ []) × AllEmpty p n (suc j) rest (beside s)

not_full : (p : Task) (n j : ℕ) (f : Forest) (s : Counts) → AllEmpty p n j f s → (c : ℕ) → full p n j f s c ≡ false
not_full p n j Bare s h c = refl
not_full p n j (Node t kids rest) s h c =
    at (nat_eq j c) (queue p n j t (top s)) (full p n (suc j) rest (beside s) c) h.0 (not_full p n (suc j) rest (beside s) h.1 c)
  where
    at : (b : Bool) (q : List (List ℕ)) (f : Bool) → q ≡ [] → f ≡ false → cond b (nat_le (places p j) (length q)) f ≡ false
    at true q f e g = rw e (none (get_or p.spare j 0))
      where
        none : (k : ℕ) → nat_le (1 + k) 0 ≡ false
        none k = grind (arith, nat_tests)
    at false q f e g = g

all_empty : (all : List (List ℕ)) (cut : Bool) (p : Task) (n j : ℕ) (f : Forest) (s : Counts) → Rules cut p j f → Kept f s
    → moves all p n j f s ≡ [] → AllEmpty p n j f s
all_empty all cut p n j Bare s rules kept e = tt
all_empty all cut p n j (Node t kids rest) s (fit, keeps, apart, under, aside) (k, kept, more) e = (
  ⊎_elim (λ g. ⊎_elim
      (λ r. empty_queue cut p n j t (top s) fit k r) (λ w. w.0)
      (waits all (queue p n j t (top s)) (closed p j n) t kids s (own_none all p n j t kids rest s e g)
      (not_full t (top s) 0 kids (below s)
      (all_empty all (not (closes j p)) t (top s) 0 kids (below s) under kept (below_none all p n j t kids rest s e g)))))
      (λ g. ap (λ q. drop (taken t (top s)) q) (fit.started_first n g) ∙ drop_nil (taken t (top s)))
      (cases_Bool (started p j n)),
  all_empty all cut p n (suc j) rest (beside s) aside more (aside_none all p n j t kids rest s e),
)

-- All started tasks are at rest, and their streams have ended.

-- a task at rest whose own stream has ended has closed every queue
closes_all : (cut : Bool) (p : Task) (j : ℕ) (t : Task) (n : ℕ) → Fits cut p j t → cut ≡ false → Still p n → Rests p n → closes j p ≡ true
closes_all cut p j t n fit c k r = ⊎_elim (λ h. h)
    (λ h. absurd (⊎_elim
    (λ a. no_true (fit.open_moves h) (kind_some_time is_still p n a))
    (λ e. no_true (done_clean p n k e) (fit.open_refuses c h)) r))
    (cases_Bool (closes j p))

has_closed : (cut : Bool) (p : Task) (j : ℕ) (t : Task) (n : ℕ) → Fits cut p j t → started p j n ≡ true → cut ≡ false → Still p n → Rests p n → closed p j n ≡ true
has_closed cut p j t n fit g c k r = ⊎_elim
    (λ a. fit.closed_first n a g (closes_all cut p j t n fit c k r))
    (λ e. ap (shuts_in j) (all_done p n e) ∙ closes_all cut p j t n fit c k r) r

abbrev Quiet : Task → ℕ → ℕ → Forest → Counts → Type 0
Quiet p n j Bare s = Unit {0}
Quiet p n j (Node t kids rest) s =
    (started p j n ≡ true → Rests t (top s) × (closes j p ≡ true) × (queue p n j t (top s) ≡ []) × Quiet t (top s) 0 kids (below s))
    × Quiet p n (suc j) rest (beside s)

all_quiet : (all : List (List ℕ)) (cut : Bool) (p : Task) (n j : ℕ) (f : Forest) (s : Counts) → Rules cut p j f → Kept f s
    → moves all p n j f s ≡ [] → cut ≡ false → Still p n → Rests p n → Quiet p n j f s
all_quiet all cut p n j Bare s rules kept e c sp rp = tt
all_quiet all cut p n j (Node t kids rest) s (fit, keeps, apart, under, aside) (k, kept, more) e c sp rp = (
  λ g.
      let shut : closes j p ≡ true = closes_all cut p j t n fit c sp rp in
      let rt : Rests t (top s) = ⊎_elim (λ r. r) (λ w. absurd (no_true w.1 (has_closed cut p j t n fit g c sp rp)))
      (waits all (queue p n j t (top s)) (closed p j n) t kids s (own_none all p n j t kids rest s e g)
      (not_full t (top s) 0 kids (below s)
      (all_empty all (not (closes j p)) t (top s) 0 kids (below s) under kept (below_none all p n j t kids rest s e g)))) in (
        rt,
        shut,
        empty_queue cut p n j t (top s) fit k rt,
        all_quiet all (not (closes j p)) t (top s) 0 kids (below s) under kept (below_none all p n j t kids rest s e g) (ap not shut) k rt,
      ),
  all_quiet all cut p n (suc j) rest (beside s) aside more (aside_none all p n j t kids rest s e) c sp rp,
)

-- Where something is left, a path is held.

below_from_held : (m : List ℕ) (p : Task) (n j : ℕ) (f : Forest) → AllHeld (λ x. IsTrue (path_lt x m)) f → AllBelow m p n j f
below_from_held m p n j Bare h = tt
below_from_held m p n j (Node t kids rest) (a, b, c) = (λ g. (a, b, tt), below_from_held m p n (suc j) rest c)

-- the paths of a node's part of what is held
pub in_here : (p : Task) (n j : ℕ) (t : Task) (kids rest : Forest) (s : Counts) (x : List ℕ) → started p j n ≡ true
    → In x (queue p n j t (top s) ++ (holds t (top s) ++ held t (top s) 0 kids (below s))) → In x (held p n j (Node t kids rest) s)
in_here p n j t kids rest s x g i = rw g (in_left x (queue p n j t (top s) ++ (holds t (top s) ++ held t (top s) 0 kids (below s)))
    (held p n (suc j) rest (beside s)) i)

pub in_own : (p : Task) (n j : ℕ) (t : Task) (kids rest : Forest) (s : Counts) (x : List ℕ) → started p j n ≡ true
    → In x (holds t (top s)) → In x (held p n j (Node t kids rest) s)
in_own p n j t kids rest s x g i = in_here p n j t kids rest s x g (in_right x (queue p n j t (top s)) (holds t (top s) ++ held t (top s) 0 kids (below s))
    (in_left x (holds t (top s)) (held t (top s) 0 kids (below s)) i))

pub in_below : (p : Task) (n j : ℕ) (t : Task) (kids rest : Forest) (s : Counts) (x : List ℕ) → started p j n ≡ true
    → In x (held t (top s) 0 kids (below s)) → In x (held p n j (Node t kids rest) s)
in_below p n j t kids rest s x g i = in_here p n j t kids rest s x g (in_right x (queue p n j t (top s)) (holds t (top s) ++ held t (top s) 0 kids (below s))
    (in_right x (holds t (top s)) (held t (top s) 0 kids (below s)) i))

pub in_aside : (p : Task) (n j : ℕ) (t : Task) (kids rest : Forest) (s : Counts) (x : List ℕ)
    → In x (held p n (suc j) rest (beside s)) → In x (held p n j (Node t kids rest) s)
in_aside p n j t kids rest s x i = in_right x
    (cond (started p j n) (queue p n j t (top s) ++ (holds t (top s) ++ held t (top s) 0 kids (below s))) []) (held p n (suc j) rest (beside s)) i

-- A path held by one of the forest's tasks: below each m that all which they ever hold is below.
abbrev SomeHeld : Task → ℕ → ℕ → Forest → Counts → Type 0
SomeHeld p n j f s = (x : List ℕ) × In x (held p n j f s) × ((m : List ℕ) → AllBelow m p n j f → path_lt x m ≡ true)

waits_join : (b : ℕ) → nat_eq b 0 ≡ false → 0 < b
waits_join b h = grind (arith, nat_tests)

cases_sum : (a b c : ℕ) → 0 < a + b + c → (0 < c) ⊎ ((0 < a) ⊎ (0 < b))
cases_sum a b c h = grind arith

some_held : (all : List (List ℕ)) (cut : Bool) (p : Task) (n j : ℕ) (f : Forest) (s : Counts) → Rules cut p j f → Kept f s
    → moves all p n j f s ≡ [] → Quiet p n j f s → 0 < left_started p n j f s → SomeHeld p n j f s
some_held all cut p n j Bare s rules kept e quiet h = absurd (omega arith)
some_held all cut p n j (Node t kids rest) s (fit, keeps, apart, under, aside) (k, kept, more) e (here, beyond) h =
    by_started (cases_Bool (started p j n))
    (λ l. some_held all cut p n (suc j) rest (beside s) aside more (aside_none all p n j t kids rest s e) beyond l)
    (λ g l. some_held all (not (closes j p)) t (top s) 0 kids (below s) under kept (below_none all p n j t kids rest s e g) (here g).3 l)
  where
    aside_held : SomeHeld p n (suc j) rest (beside s) → SomeHeld p n j (Node t kids rest) s
    aside_held (x, i, f) = (x, in_aside p n j t kids rest s x i, λ m b. f m b.1)

    below_held : started p j n ≡ true → SomeHeld t (top s) 0 kids (below s) → SomeHeld p n j (Node t kids rest) s
    below_held g (x, i, f) = (x, in_below p n j t kids rest s x g i, λ m b. f m (below_from_held m t (top s) 0 kids (b.0 g).1))

    own_held : started p j n ≡ true → (x : List ℕ) → In x (holds t (top s)) → SomeHeld p n j (Node t kids rest) s
    own_held g x i = (x, in_own p n j t kids rest s x g i, λ m b. (b.0 g).0 x (held_ever t (top s) x i))

    by_kind : (g : started p j n ≡ true) (a : Action) (todo : List Action) → next t (top s) ≡ a ∷ todo → (0 < left_started t (top s) 0 kids (below s) → SomeHeld t (top s) 0 kids (below s))
        → (kind : Kind) → a.kind ≡ kind → is_still kind ≡ true → can all (queue p n j t (top s)) (closed p j n) t (top s) kids (below s) kind ≡ false
        → SomeHeld p n j (Node t kids rest) s
    by_kind g a todo w down (Free x) is still stuck = cc
    by_kind g a todo w down Take is still stuck = cc
    by_kind g a todo w down TakeEnd is still stuck = cc
    by_kind g a todo w down (Put c) is still stuck = cc
    by_kind g a todo w down (Append q) is still stuck = own_held g q (rw (keeps (top s) q a todo w is) (inl refl))
    by_kind g a todo w down Join is still stuck = below_held g (down (waits_join (left_started t (top s) 0 kids (below s)) stuck))

    by_todo : (g : started p j n ≡ true) → Rests t (top s) → (0 < left_started t (top s) 0 kids (below s) → SomeHeld t (top s) 0 kids (below s))
        → (0 < length (next t (top s))) ⊎ (0 < left_started t (top s) 0 kids (below s)) → (todo : List Action) → next t (top s) ≡ todo → SomeHeld p n j (Node t kids rest) s
    by_todo g r down l [] w = below_held g (down (⊎_elim (λ a. absurd (let z : length (next t (top s)) ≡ 0 = ap length w in omega arith)) (λ b. b) l))
    by_todo g r down l (a ∷ todo) w = by_kind g a todo w down a.kind refl
        (⊎_elim (λ y. sym (ap (next_kind is_still) w) ∙ y) (λ z. cc) r)
        (cannot all (queue p n j t (top s)) (closed p j n) t kids s (next t (top s)) (own_none all p n j t kids rest s e g) a todo w)

    by_started : (started p j n ≡ true) ⊎ (started p j n ≡ false) → (0 < left_started p n (suc j) rest (beside s) → SomeHeld p n (suc j) rest (beside s))
        → (started p j n ≡ true → 0 < left_started t (top s) 0 kids (below s) → SomeHeld t (top s) 0 kids (below s)) → SomeHeld p n j (Node t kids rest) s
    by_started (inl g) over down =
        let h' : 0 < length (next t (top s)) + left_started t (top s) 0 kids (below s) + left_started p n (suc j) rest (beside s) = rw g at h in
        ⊎_elim (λ l. aside_held (over l)) (λ l. by_todo g (here g).0 (down g) l (next t (top s)) refl)
        (cases_sum (length (next t (top s))) (left_started t (top s) 0 kids (below s)) (left_started p n (suc j) rest (beside s)) h')
    by_started (inr g) over down =
        let h' : 0 < 0 + left_started p n (suc j) rest (beside s) = rw g at h in
        aside_held (over (omega arith))

-- Where nothing can be done, no held path is the least one.

no_least : (all : List (List ℕ)) (cut : Bool) (p : Task) (n j : ℕ) (f : Forest) (s : Counts) → Rules cut p j f → Kept f s
    → moves all p n j f s ≡ [] → Quiet p n j f s → ((x : List ℕ) → In x (held p n j f s) → In x all)
    → (m : List ℕ) → is_least m all ≡ true → In m (held p n j f s) → ⊥
no_least all cut p n j Bare s rules kept e quiet sub m least i = i
no_least all cut p n j (Node t kids rest) s (fit, keeps, apart, under, aside) (k, kept, more) e (here, beyond) sub m least i =
    ⊎_elim
    (λ a. ⊎_elim
    (λ g. by_place g (rw g at a)
    (no_least all (not (closes j p)) t (top s) 0 kids (below s) under kept (below_none all p n j t kids rest s e g) (here g).3
    (λ x y. sub x (in_below p n j t kids rest s x g y)) m least))
    (λ g. let z : In m [] = rw g at a in z)
    (cases_Bool (started p j n)))
    (λ b. no_least all cut p n (suc j) rest (beside s) aside more (aside_none all p n j t kids rest s e) beyond
    (λ x y. sub x (in_aside p n j t kids rest s x y)) m least b)
    (in_cases m (cond (started p j n) (queue p n j t (top s) ++ (holds t (top s) ++ held t (top s) 0 kids (below s))) [])
    (held p n (suc j) rest (beside s)) i)
  where
    by_kind : (g : started p j n ≡ true) → In m (holds t (top s)) → (a : Action) (todo : List Action) → next t (top s) ≡ a ∷ todo
        → (kind : Kind) → a.kind ≡ kind → is_still kind ≡ true → can all (queue p n j t (top s)) (closed p j n) t (top s) kids (below s) kind ≡ false → ⊥
    by_kind g h a todo w (Free x) is still stuck = cc
    by_kind g h a todo w Take is still stuck = cc
    by_kind g h a todo w TakeEnd is still stuck = cc
    by_kind g h a todo w (Put c) is still stuck = cc
    by_kind g h a todo w (Append q) is still stuck =
        let o : In m (q ∷ []) = rw (keeps (top s) q a todo w is) at h in
        ⊎_elim (λ z. no_true stuck (rw z at least)) (λ z. z) o
    by_kind g h a todo w Join is still stuck =
        let x : SomeHeld t (top s) 0 kids (below s) =
        some_held all (not (closes j p)) t (top s) 0 kids (below s) under kept (below_none all p n j t kids rest s e g) (here g).3
        (waits_join (left_started t (top s) 0 kids (below s)) stuck) in
        lt_not_le x.0 m (x.2 m (apart (top s) a todo w is m h))
        (is_least_in m all least x.0 (sub x.0 (in_below p n j t kids rest s x.0 g x.1)))

    by_todo : (g : started p j n ≡ true) → In m (holds t (top s)) → Rests t (top s) → (todo : List Action) → next t (top s) ≡ todo → ⊥
    by_todo g h r [] w =
        let same : holds t (top s) ≡ holds t (length t.script) = ap (holds_after t.held) (all_done t (top s) w ∙ sym (all_whole t)) in
        let z : In m (holds t (length t.script)) = subst (λ l. In m l) same h in
        let y : In m [] = rw (fit.at_end (here g).1 (done_clean t (top s) k w)) at z in y
    by_todo g h r (a ∷ todo) w = by_kind g h a todo w a.kind refl
        (⊎_elim (λ y. sym (ap (next_kind is_still) w) ∙ y) (λ z. cc) r)
        (cannot all (queue p n j t (top s)) (closed p j n) t kids s (next t (top s)) (own_none all p n j t kids rest s e g) a todo w)

    by_place : (g : started p j n ≡ true) → In m (queue p n j t (top s) ++ (holds t (top s) ++ held t (top s) 0 kids (below s)))
        → (In m (held t (top s) 0 kids (below s)) → ⊥) → ⊥
    by_place g h down = ⊎_elim
        (λ a. let y : In m [] = rw ((here g).2) at a in y)
        (λ b. ⊎_elim (λ c. by_todo g c (here g).0 (next t (top s)) refl) (λ c. down c)
        (in_cases m (holds t (top s)) (held t (top s) 0 kids (below s)) b))
        (in_cases m (queue p n j t (top s)) (holds t (top s) ++ held t (top s) 0 kids (below s)) h)

-- Where the task above is done and nothing is left of what is started, nothing is left.

nothing_left : (cut : Bool) (p : Task) (n j : ℕ) (f : Forest) (s : Counts) → Rules cut p j f → next p n ≡ [] → left_started p n j f s ≡ 0 → left f s ≡ 0
nothing_left cut p n j Bare s rules e h = refl
nothing_left cut p n j (Node t kids rest) s (fit, keeps, apart, under, aside) e h =
    let g : started p j n ≡ true = rw (all_done p n e) fit.begun in
    let z : length (next t (top s)) + left_started t (top s) 0 kids (below s) + left_started p n (suc j) rest (beside s) ≡ 0 = rw g at h in
    let d : length (next t (top s)) ≡ 0 = omega arith in
    let a : left kids (below s) ≡ 0 = nothing_left (not (closes j p)) t (top s) 0 kids (below s) under (empty (next t (top s)) d) (omega arith) in
    let b : left rest (beside s) ≡ 0 = nothing_left cut p n (suc j) rest (beside s) aside e (omega arith) in
    omega arith
  where
    empty : (xs : List Action) → length xs ≡ 0 → xs ≡ []
    empty [] d = refl
    empty (x ∷ xs) d = absurd (omega arith)

-- A state in which something is left has a move.

none_left : (f : Forest) (s : Counts) → Rules false outside 0 f → Kept f s → all_moves f s ≡ [] → left f s ≡ 0
none_left f s rules kept e = ⊎_elim
    (λ h. let x : SomeHeld outside 1 0 f s = some_held (all_held f s) false outside 1 0 f s rules kept e quiet h in
    absurd (by_list (all_held f s) refl x.0 x.1))
    (λ h. nothing_left false outside 1 0 f s rules refl h)
    (zero_or (left_started outside 1 0 f s))
  where
    zero_or : (n : ℕ) → (0 < n) ⊎ (n ≡ 0)
    zero_or n = grind arith

    quiet : Quiet outside 1 0 f s
    quiet = all_quiet (all_held f s) false outside 1 0 f s rules kept e refl (λ h. cc) (inr refl)

    by_list : (ps : List (List ℕ)) → all_held f s ≡ ps → (x : List ℕ) → In x (all_held f s) → ⊥
    by_list [] w x i = let y : In x [] = rw w at i in y
    by_list (q ∷ ps) w x i =
        let l : (m : List ℕ) × In m (q ∷ ps) × (is_least m (q ∷ ps) ≡ true) = least_in q ps in
        no_least (all_held f s) false outside 1 0 f s rules kept e quiet (λ y z. z) l.0 (rw w l.2) (rw w l.1)

pub some_move : (f : Forest) (s : Counts) → Rules false outside 0 f → Kept f s → 0 < left f s → 0 < ready f s
some_move f s rules kept h = by_moves (all_moves f s) refl
  where
    by_moves : (ms : List Move) → all_moves f s ≡ ms → 0 < length (all_moves f s)
    by_moves [] w = absurd (let z : left f s ≡ 0 = none_left f s rules kept w in omega arith)
    by_moves (m ∷ ms) w = rw w (omega arith)
