-- In the cut tree the same can be done, and the same is held.
use Rattle.std.proofs.Common.{◌≡◌, ℕ, suc, ◌+◌, ◌-◌, ◌≤◌, ◌<◌, ◌⊎◌, ◌||◌, ◌&&◌, Bool, true, false, cond, not, nat_eq, nat_le, get_or, List, [], ◌∷◌, ◌++◌, map, length, take, drop, refl, sym, ap, ◌∙◌, subst, inl, inr, ⊎_elim, arith}
use Rattle.std.proofs.lemmas.Bool.{cases_Bool}
use Rattle.std.proofs.lemmas.Bool.Decides.{nat_tests}
use Rattle.std.proofs.lemmas.List.{drop_all}
use Rattle.vx_tasks.specs.Task.{Action, Kind, Task, Forest, next, past, sent, started, closed, taken, holds, closes, takes_of, given, has, starts_in, shuts_in, refuses_in, takes_in, any_kind, next_kind, is_still, places, holds_after}
use Rattle.vx_tasks.specs.Task.Kind.{Free, Take, TakeEnd, Put, Append, Join}
use Rattle.vx_tasks.specs.Task.Forest.{Bare, Node}
use Rattle.vx_tasks.specs.State.{Counts, top, below, beside, left, left_started, queue, full, held}
use Rattle.vx_tasks.specs.State.Counts.{Count}
use Rattle.vx_tasks.specs.Queues.{is_take, is_end, Queued, AllQueued}
use Rattle.vx_tasks.specs.Run.{any_there, can, Move, own_move, move_below, move_beside, moves}
use Rattle.vx_tasks.specs.Rules.{Fits, Rules}
use Rattle.vx_tasks.proofs.Scripts.{no_true, all_done, closes_some_time, kind_some_time, drop_nil}
use Rattle.vx_cut_laws.specs.Cut.{reads_past, known, to_refusal, known_of, made_of, cut_task, idle, behind, cut_kids}
use Rattle.vx_cut_laws.proofs.Passing.{Follows, Passed, AllPassed, left_in, past_cut, next_cut, follows_down, sent_same, closed_same, started_same, sent_part, shut_part, started_part}
use Rattle.vx_cut_laws.proofs.Lists.{cut_shorter}

-- Where a child's next action stands in the cut tree: it is the next there too, or it waits for what never comes.

pub data Stands (a : Action) (todo cut : List Action) (ready : Bool) : Type 0 where
  there : (more : List Action) → cut ≡ a ∷ more → Stands a todo cut ready
  waits : cut ≡ [] → ready ≡ false → Stands a todo cut ready

-- whether an action is ready, as far as its task's own queue tells
abbrev pub fed : Task → ℕ → ℕ → Task → ℕ → Kind → Bool
fed p n j t m (Free w) = true
fed p n j t m Take = any_there (queue p n j t m) || closed p j n
fed p n j t m TakeEnd = any_there (queue p n j t m) || closed p j n
fed p n j t m (Put c) = true
fed p n j t m (Append x) = true
fed p n j t m Join = true

module _ (made : List Action) (q p : Task) (n j : ℕ) (t : Task) (m : ℕ) (fol : Follows made q p n) (d : Passed made j t m) (qd : Queued p n j t m) where
  shut_not : shuts_in j made ≡ false → closed p j n ≡ false
  shut_not e = ⊎_elim (λ x. absurd (no_true e (shut_part made q p n fol j x))) (λ x. x) (cases_Bool (closed p j n))

  emptied : length (given j made) - taken t m ≡ 0 → queue p n j t m ≡ []
  emptied e =
      let l : length (sent p j n) ≤ length (given j made) = sent_part made q p n fol j in
      drop_all (taken t m) (sent p j n) (omega (arith, e, l))

  none_there : (xs : List (List ℕ)) (b : Bool) → xs ≡ [] → b ≡ false → (any_there xs || b) ≡ false
  none_there xs b e f = rw (e, f) refl

  -- the item that a take waits for is there as soon as the take is ready
  no_item : (a : Action) (todo : List Action) → next t m ≡ a ∷ todo → a.kind ≡ Take → queue p n j t m ≡ [] → (any_there (queue p n j t m) || closed p j n) ≡ false
  no_item a todo e k z = ⊎_elim
      (λ x. absurd (no_true (ap any_there z) (qd.item (ap (next_kind is_take) e ∙ ap is_take k) x)))
      (λ x. x) (cases_Bool (any_there (queue p n j t m) || closed p j n))

  no_end : (a : Action) (todo : List Action) → next t m ≡ a ∷ todo → a.kind ≡ TakeEnd → shuts_in j made ≡ false → (any_there (queue p n j t m) || closed p j n) ≡ false
  no_end a todo e k z = none_there (queue p n j t m) (closed p j n)
      (qd.last (ap (next_kind is_end) e ∙ ap is_end k)) (shut_not z)

  pub stands : (a : Action) (todo : List Action) → next t m ≡ a ∷ todo → Stands a todo (next (cut_task made j t) m) (fed p n j t m a.kind)
  stands a todo e = by (cases_Bool (reads_past a.kind (length (given j made) - taken t m) (shuts_in j made)))
    where
      cut_is : next (cut_task made j t) m ≡ to_refusal (known (length (given j made) - taken t m) (shuts_in j made) (a ∷ todo))
      cut_is = next_cut made j t m d ∙ ap (λ z. to_refusal (known (length (given j made) - taken t m) (shuts_in j made) z)) e

      none_zero : (k : ℕ) → nat_eq k 0 ≡ true → k ≡ 0
      none_zero k h = grind (arith, nat_tests)

      not_true : (b : Bool) → not b ≡ true → b ≡ false
      not_true true h = absurd (no_true refl h)
      not_true false h = refl

      unfed : (k : Kind) → a.kind ≡ k → reads_past k (length (given j made) - taken t m) (shuts_in j made) ≡ true → fed p n j t m k ≡ false
      unfed (Free w) k h = absurd (no_true refl h)
      unfed Take k h = no_item a todo e k (emptied (none_zero (length (given j made) - taken t m) h))
      unfed TakeEnd k h = no_end a todo e k (not_true (shuts_in j made) h)
      unfed (Put c) k h = absurd (no_true refl h)
      unfed (Append x) k h = absurd (no_true refl h)
      unfed Join k h = absurd (no_true refl h)

      by : (reads_past a.kind (length (given j made) - taken t m) (shuts_in j made) ≡ true) ⊎ (reads_past a.kind (length (given j made) - taken t m) (shuts_in j made) ≡ false)
          → Stands a todo (next (cut_task made j t) m) (fed p n j t m a.kind)
      by (inl h) = waits (cut_is ∙ rw h refl) (unfed a.kind refl h)
      by (inr h) = there (cond a.refuses [] (to_refusal (known ((length (given j made) - taken t m) - takes_of a.kind) (shuts_in j made) todo))) (cut_is ∙ rw h refl)

-- Words that tell nothing of what isn't started.

pub moves_behind : (all : List (List ℕ)) (q : Task) (n j : ℕ) (t : Task) (r : Forest) (s : Counts) → started q j n ≡ false
    → moves all q n j (behind t r) s ≡ map (move_beside s) (moves all q n (suc j) r (beside s))
moves_behind all q n j t Bare s e = refl
moves_behind all q n j t (Node u kids r) s e = rw e refl

pub held_behind : (q : Task) (n j : ℕ) (t : Task) (r : Forest) (s : Counts) → started q j n ≡ false → held q n j (behind t r) s ≡ held q n (suc j) r (beside s)
held_behind q n j t Bare s e = refl
held_behind q n j t (Node u kids r) s e = rw e refl

pub left_behind : (q : Task) (n j : ℕ) (t : Task) (r : Forest) (s : Counts) → started q j n ≡ false → left_started q n j (behind t r) s ≡ left_started q n (suc j) r (beside s)
left_behind q n j t Bare s e = refl
left_behind q n j t (Node u kids r) s e = rw e (omega arith)

pub all_left_behind : (t : Task) (r : Forest) (s : Counts) → left (behind t r) s ≡ left r (beside s)
all_left_behind t Bare s = refl
all_left_behind t (Node u kids r) s = go (top s)
  where
    go : (k : ℕ) → length (drop {A = Action} k []) + 0 + left (Node u kids r) (beside s) ≡ left (Node u kids r) (beside s)
    go k = rw (drop_nil {A = Action} k) (omega arith)

pub full_behind : (q : Task) (n j : ℕ) (t : Task) (r : Forest) (s : Counts) (c : ℕ) → sent q j n ≡ []
    → full q n j (behind t r) s c ≡ cond (nat_eq j c) false (full q n (suc j) r (beside s) c)
full_behind q n j t Bare s c e = by (nat_eq j c)
  where
    by : (b : Bool) → false ≡ cond b false false
    by true = refl
    by false = refl
full_behind q n j t (Node u kids r) s c e = ap (λ z. cond (nat_eq j c) z (full q n (suc j) (Node u kids r) (beside s) c)) none
  where
    room : (k : ℕ) → nat_le (1 + k) 0 ≡ false
    room k = grind (arith, nat_tests)

    none : nat_le (places q j) (length (queue q n j (idle t) (top s))) ≡ false
    none = ap (λ z. nat_le (places q j) (length (drop (taken (idle t) (top s)) z))) e
        ∙ ap (λ z. nat_le (places q j) (length z)) (drop_nil (taken (idle t) (top s))) ∙ room (get_or q.spare j 0)

-- ---- whether a queue has no place

full_same : (cut : Bool) (made : List Action) (q p : Task) (n j : ℕ) (f : Forest) (s : Counts) → Follows made q p n → Rules cut p j f → AllPassed made j f s
    → (c : ℕ) → full q n j (cut_kids p.first made j f) s c ≡ full p n j f s c
full_same cut made q p n j Bare s fol rules ps c = refl
full_same cut made q p n j (Node t kids rest) s fol (fit, keeps, apart, lower, later) (d, inner, outer) c =
    by (cases_Bool (has j p.first || starts_in j made)) (full_same cut made q p n (suc j) rest (beside s) fol later outer c)
  where
    was : queue q n j (cut_task made j t) (top s) ≡ queue p n j t (top s)
    was = ap (λ z. drop (takes_in z) (sent q j n)) (past_cut made j t (top s) d) ∙ ap (λ z. drop (taken t (top s)) z) (sent_same made q p n fol j)

    spares : places q j ≡ places p j
    spares = ap (λ z. 1 + get_or z j 0) fol.spare_is

    room : (k : ℕ) → nat_le (1 + k) 0 ≡ false
    room k = grind (arith, nat_tests)

    by : ((has j p.first || starts_in j made) ≡ true) ⊎ ((has j p.first || starts_in j made) ≡ false)
        → full q n (suc j) (cut_kids p.first made (suc j) rest) (beside s) c ≡ full p n (suc j) rest (beside s) c
        → full q n j (cut_kids p.first made j (Node t kids rest)) s c ≡ full p n j (Node t kids rest) s c
    by (inl h) ih = rw h (ap (λ z. cond (nat_eq j c) (nat_le (places q j) (length z)) (full q n (suc j) (cut_kids p.first made (suc j) rest) (beside s) c)) was
        ∙ ap (λ z. cond (nat_eq j c) (nat_le z (length (queue p n j t (top s)))) (full q n (suc j) (cut_kids p.first made (suc j) rest) (beside s) c)) spares
        ∙ ap (λ z. cond (nat_eq j c) (nat_le (places p j) (length (queue p n j t (top s)))) z) ih)
    by (inr h) ih =
        let off : started p j n ≡ false = ⊎_elim (λ x. absurd (no_true h (started_part made q p n fol j x))) (λ x. x) (cases_Bool (started p j n)) in
        let none : sent p j n ≡ [] = fit.started_first n off in
        let z : nat_le (places p j) (length (queue p n j t (top s))) ≡ false =
        ap (λ y. nat_le (places p j) (length (drop (taken t (top s)) y))) none ∙ ap (λ y. nat_le (places p j) (length y)) (drop_nil (taken t (top s))) ∙ room (get_or p.spare j 0) in
        rw h (full_behind q n j t (cut_kids p.first made (suc j) rest) s c (sent_same made q p n fol j ∙ none)
        ∙ ap (λ y. cond (nat_eq j c) false y) ih ∙ ap (λ y. cond (nat_eq j c) y (full p n (suc j) rest (beside s) c)) (sym z))

-- ---- what is held

pub held_same : (made : List Action) (q p : Task) (n j : ℕ) (f : Forest) (s : Counts) → Follows made q p n → AllPassed made j f s
    → held q n j (cut_kids p.first made j f) s ≡ held p n j f s
held_same made q p n j Bare s fol ps = refl
held_same made q p n j (Node t kids rest) s fol (d, inner, outer) =
    by (cases_Bool (has j p.first || starts_in j made)) (held_same made q p n (suc j) rest (beside s) fol outer)
    (held_same (made_of made j t) (cut_task made j t) t (top s) 0 kids (below s) (follows_down made j t (top s) d) inner)
  where
    was : queue q n j (cut_task made j t) (top s) ≡ queue p n j t (top s)
    was = ap (λ z. drop (takes_in z) (sent q j n)) (past_cut made j t (top s) d) ∙ ap (λ z. drop (taken t (top s)) z) (sent_same made q p n fol j)

    own : holds (cut_task made j t) (top s) ≡ holds t (top s)
    own = ap (holds_after t.held) (past_cut made j t (top s) d)

    by : ((has j p.first || starts_in j made) ≡ true) ⊎ ((has j p.first || starts_in j made) ≡ false)
        → held q n (suc j) (cut_kids p.first made (suc j) rest) (beside s) ≡ held p n (suc j) rest (beside s)
        → held (cut_task made j t) (top s) 0 (cut_kids t.first (made_of made j t) 0 kids) (below s) ≡ held t (top s) 0 kids (below s)
        → held q n j (cut_kids p.first made j (Node t kids rest)) s ≡ held p n j (Node t kids rest) s
    by (inl h) ih down = rw h (
        ap (λ z. cond z (queue q n j (cut_task made j t) (top s) ++ (holds (cut_task made j t) (top s) ++ held (cut_task made j t) (top s) 0 (cut_kids t.first (made_of made j t) 0 kids) (below s))) [] ++ held q n (suc j) (cut_kids p.first made (suc j) rest) (beside s)) (started_same made q p n fol j)
        ∙ ap (λ z. cond (started p j n) (z ++ (holds (cut_task made j t) (top s) ++ held (cut_task made j t) (top s) 0 (cut_kids t.first (made_of made j t) 0 kids) (below s))) [] ++ held q n (suc j) (cut_kids p.first made (suc j) rest) (beside s)) was
        ∙ ap (λ z. cond (started p j n) (queue p n j t (top s) ++ (z ++ held (cut_task made j t) (top s) 0 (cut_kids t.first (made_of made j t) 0 kids) (below s))) [] ++ held q n (suc j) (cut_kids p.first made (suc j) rest) (beside s)) own
        ∙ ap (λ z. cond (started p j n) (queue p n j t (top s) ++ (holds t (top s) ++ z)) [] ++ held q n (suc j) (cut_kids p.first made (suc j) rest) (beside s)) down
        ∙ ap (λ z. cond (started p j n) (queue p n j t (top s) ++ (holds t (top s) ++ held t (top s) 0 kids (below s))) [] ++ z) ih)
    by (inr h) ih down =
        let off : started p j n ≡ false = ⊎_elim (λ x. absurd (no_true h (started_part made q p n fol j x))) (λ x. x) (cases_Bool (started p j n)) in
        rw (h, off) (held_behind q n j t (cut_kids p.first made (suc j) rest) s (started_same made q p n fol j ∙ off) ∙ ih)

-- ---- joins: what is left below is none in both

-- the queues of all children that p has started are closed
abbrev pub AllShut : Bool → Task → ℕ → Type 0
AllShut cut p n = (i : ℕ) (c : Task) → Fits cut p i c → started p i n ≡ true → closed p i n ≡ true

no_sum : (x y z : ℕ) → nat_eq (x + y + z) 0 ≡ (nat_eq x 0 && nat_eq y 0 && nat_eq z 0)
no_sum x y z = grind (arith, nat_tests)

and_parts : (a b c x y z : Bool) → a ≡ x → (x ≡ true → b ≡ y) → c ≡ z → (a && b && c) ≡ (x && y && z)
and_parts a b c x y z e f g = rw (e, g) (by x f)
  where
    by : (x : Bool) → (x ≡ true → b ≡ y) → (x && b && z) ≡ (x && y && z)
    by true f = ap (λ w. true && w && z) (f refl)
    by false f = refl

zero_length : {A : Type 0} (xs : List A) → nat_eq (length xs) 0 ≡ true → xs ≡ []
zero_length [] e = refl
zero_length (x ∷ xs) e = absurd (no_true (suc_not (length xs)) e)
  where
    suc_not : (k : ℕ) → nat_eq (suc k) 0 ≡ false
    suc_not k = grind (arith, nat_tests)

-- a task that has done all, whose own stream has ended, has closed all queues
done_shut : (cut : Bool) (t : Task) (m : ℕ) → cut ≡ false → next t m ≡ [] → refuses_in (past t m) ≡ false → AllShut cut t m
done_shut cut t m c e r i k fits st = by (cases_Bool (closes i t))
  where
    all : past t m ≡ t.script
    all = all_done t m e

    by : (closes i t ≡ true) ⊎ (closes i t ≡ false) → closed t i m ≡ true
    by (inl h) = ap (shuts_in i) all ∙ h
    by (inr h) = absurd (no_true (sym (ap refuses_in all) ∙ r) (fits.open_refuses c h))

joins_same : (cut : Bool) (made : List Action) (q p : Task) (n j : ℕ) (f : Forest) (s : Counts) → Follows made q p n → Rules cut p j f → AllQueued p n j f s → AllPassed made j f s
    → AllShut cut p n → nat_eq (left_started q n j (cut_kids p.first made j f) s) 0 ≡ nat_eq (left_started p n j f s) 0
joins_same cut made q p n j Bare s fol rules qs ps sh = refl
joins_same cut made q p n j (Node t kids rest) s fol (fit, keeps, apart, lower, later) (on, off_is, more) (d, inner, outer) sh =
    by (cases_Bool (started p j n)) (joins_same cut made q p n (suc j) rest (beside s) fol later more outer sh)
    (λ g a. joins_same (not (closes j p)) (made_of made j t) (cut_task made j t) t (top s) 0 kids (below s) (follows_down made j t (top s) d) lower (on g).1 inner a)
  where
    Down : Type 0
    Down = nat_eq (left_started (cut_task made j t) (top s) 0 (cut_kids t.first (made_of made j t) 0 kids) (below s)) 0 ≡ nat_eq (left_started t (top s) 0 kids (below s)) 0

    -- of a closed queue: what is next is next in both
    same_end : started p j n ≡ true → nat_eq (length (next (cut_task made j t) (top s))) 0 ≡ nat_eq (length (next t (top s))) 0
    same_end g = at (next t (top s)) refl
      where
        shut_is : closed p j n ≡ true
        shut_is = sh j t fit g

        or_right : (a b : Bool) → b ≡ true → (a || b) ≡ true
        or_right a b e = grind (arith, nat_tests)

        is_fed : (k : Kind) → fed p n j t (top s) k ≡ true
        is_fed (Free w) = refl
        is_fed Take = or_right (any_there (queue p n j t (top s))) (closed p j n) shut_is
        is_fed TakeEnd = or_right (any_there (queue p n j t (top s))) (closed p j n) shut_is
        is_fed (Put c) = refl
        is_fed (Append x) = refl
        is_fed Join = refl

        by_stand : (a : Action) (todo : List Action) → next t (top s) ≡ a ∷ todo → Stands a todo (next (cut_task made j t) (top s)) (fed p n j t (top s) a.kind)
            → nat_eq (length (next (cut_task made j t) (top s))) 0 ≡ nat_eq (length (next t (top s))) 0
        by_stand a todo e (there m w) = ap (λ z. nat_eq (length z) 0) w ∙ same_suc (length m) (length todo) ∙ sym (ap (λ z. nat_eq (length z) 0) e)
          where
            same_suc : (k l : ℕ) → nat_eq (suc k) 0 ≡ nat_eq (suc l) 0
            same_suc k l = grind (arith, nat_tests)
        by_stand a todo e (waits w x) = absurd (no_true x (is_fed a.kind))

        at : (xs : List Action) → next t (top s) ≡ xs → nat_eq (length (next (cut_task made j t) (top s))) 0 ≡ nat_eq (length (next t (top s))) 0
        at [] e = ap (λ z. nat_eq (length z) 0) (next_cut made j t (top s) d ∙ ap (λ z. to_refusal (known (length (given j made) - taken t (top s)) (shuts_in j made) z)) e)
            ∙ sym (ap (λ z. nat_eq (length z) 0) e)
        at (a ∷ todo) e = by_stand a todo e (stands made q p n j t (top s) fol d (on g).0 a todo e)

    shut_below : started p j n ≡ true → nat_eq (length (next t (top s))) 0 ≡ true → AllShut (not (closes j p)) t (top s)
    shut_below g e = done_shut (not (closes j p)) t (top s) (ap not (closes_some_time p j n (sh j t fit g))) (zero_length (next t (top s)) e) d.clean

    by : (started p j n ≡ true) ⊎ (started p j n ≡ false)
        → nat_eq (left_started q n (suc j) (cut_kids p.first made (suc j) rest) (beside s)) 0 ≡ nat_eq (left_started p n (suc j) rest (beside s)) 0
        → (started p j n ≡ true → AllShut (not (closes j p)) t (top s) → Down)
        → nat_eq (left_started q n j (cut_kids p.first made j (Node t kids rest)) s) 0 ≡ nat_eq (left_started p n j (Node t kids rest) s) 0
    by (inl g) ih down =
        let h : (has j p.first || starts_in j made) ≡ true = started_part made q p n fol j g in
        let g' : started q j n ≡ true = started_same made q p n fol j ∙ g in
        rw (h, g', g) (no_sum (length (next (cut_task made j t) (top s))) (left_started (cut_task made j t) (top s) 0 (cut_kids t.first (made_of made j t) 0 kids) (below s)) (left_started q n (suc j) (cut_kids p.first made (suc j) rest) (beside s))
        ∙ and_parts _ _ _ (nat_eq (length (next t (top s))) 0) (nat_eq (left_started t (top s) 0 kids (below s)) 0) (nat_eq (left_started p n (suc j) rest (beside s)) 0)
        (same_end g) (λ e. down g (shut_below g e)) ih
        ∙ sym (no_sum (length (next t (top s))) (left_started t (top s) 0 kids (below s)) (left_started p n (suc j) rest (beside s))))
    by (inr g) ih down = ap (λ z. nat_eq z 0) (at_cut (cases_Bool (has j p.first || starts_in j made)))
        ∙ ih ∙ ap (λ z. nat_eq z 0) rest_is
      where
        rest_is : left_started p n (suc j) rest (beside s) ≡ left_started p n j (Node t kids rest) s
        rest_is = rw g (omega arith)

        g' : started q j n ≡ false
        g' = started_same made q p n fol j ∙ g

        at_cut : ((has j p.first || starts_in j made) ≡ true) ⊎ ((has j p.first || starts_in j made) ≡ false)
            → left_started q n j (cut_kids p.first made j (Node t kids rest)) s ≡ left_started q n (suc j) (cut_kids p.first made (suc j) rest) (beside s)
        at_cut (inl h) = rw (h, g') (omega arith)
        at_cut (inr h) = rw h (left_behind q n j t (cut_kids p.first made (suc j) rest) s g')

-- ---- what can be done

glue : (b' b : Bool) (own' own down' down over' over : List Move) → b' ≡ b → (b ≡ true → own' ≡ own) → (b ≡ true → down' ≡ down) → over' ≡ over
    → cond b' (own' ++ down') [] ++ over' ≡ cond b (own ++ down) [] ++ over
glue b' true own' own down' down over' over e f g h = rw (e, f refl, g refl, h) refl
glue b' false own' own down' down over' over e f g h = rw (e, h) refl

-- a task's own move
own_same : (all : List (List ℕ)) (cut : Bool) (made : List Action) (q p : Task) (n j : ℕ) (t : Task) (kids : Forest) (s : Counts) → Follows made q p n → Fits cut p j t → Rules (not (closes j p)) t 0 kids
    → Queued p n j t (top s) → AllQueued t (top s) 0 kids (below s) → Passed made j t (top s) → AllPassed (made_of made j t) 0 kids (below s)
    → own_move all (queue q n j (cut_task made j t) (top s)) (closed q j n) (cut_task made j t) (cut_kids t.first (made_of made j t) 0 kids) s (next (cut_task made j t) (top s))
    ≡ own_move all (queue p n j t (top s)) (closed p j n) t kids s (next t (top s))
own_same all cut made q p n j t kids s fol fit lower qd qs d inner = at (next t (top s)) refl
  where
    goes : Follows (made_of made j t) (cut_task made j t) t (top s)
    goes = follows_down made j t (top s) d

    was : queue q n j (cut_task made j t) (top s) ≡ queue p n j t (top s)
    was = ap (λ z. drop (takes_in z) (sent q j n)) (past_cut made j t (top s) d) ∙ ap (λ z. drop (taken t (top s)) z) (sent_same made q p n fol j)

    shut_same : closed q j n ≡ closed p j n
    shut_same = closed_same made q p n fol j

    fed_same : (any_there (queue q n j (cut_task made j t) (top s)) || closed q j n) ≡ (any_there (queue p n j t (top s)) || closed p j n)
    fed_same = ap (λ z. any_there z || closed q j n) was ∙ ap (λ z. any_there (queue p n j t (top s)) || z) shut_same

    -- a task that joins has closed the queues of all children that it has started
    joining : (a : Action) (todo : List Action) → next t (top s) ≡ a ∷ todo → a.kind ≡ Join → AllShut (not (closes j p)) t (top s)
    joining a todo e k i c f st =
        let still : next_kind is_still (next t (top s)) ≡ true = ap (next_kind is_still) e ∙ ap is_still k in
        let shuts : closes i t ≡ true = ⊎_elim (λ x. x) (λ x. absurd (no_true (f.open_moves x) (kind_some_time is_still t (top s) still))) (cases_Bool (closes i t)) in
        f.closed_first (top s) still st shuts

    can_same : (a : Action) (todo : List Action) → next t (top s) ≡ a ∷ todo → (k : Kind) → a.kind ≡ k
        → can all (queue q n j (cut_task made j t) (top s)) (closed q j n) (cut_task made j t) (top s) (cut_kids t.first (made_of made j t) 0 kids) (below s) k
        ≡ can all (queue p n j t (top s)) (closed p j n) t (top s) kids (below s) k
    can_same a todo e (Free w) k = refl
    can_same a todo e Take k = fed_same
    can_same a todo e TakeEnd k = fed_same
    can_same a todo e (Put c) k = ap not (full_same (not (closes j p)) (made_of made j t) (cut_task made j t) t (top s) 0 kids (below s) goes lower inner c)
    can_same a todo e (Append x) k = refl
    can_same a todo e Join k = joins_same (not (closes j p)) (made_of made j t) (cut_task made j t) t (top s) 0 kids (below s) goes lower qs inner (joining a todo e k)

    unready : (k : Kind) → fed p n j t (top s) k ≡ false → can all (queue p n j t (top s)) (closed p j n) t (top s) kids (below s) k ≡ false
    unready (Free w) h = absurd (no_true h refl)
    unready Take h = h
    unready TakeEnd h = h
    unready (Put c) h = absurd (no_true h refl)
    unready (Append x) h = absurd (no_true h refl)
    unready Join h = absurd (no_true h refl)

    by : (a : Action) (todo : List Action) → next t (top s) ≡ a ∷ todo → Stands a todo (next (cut_task made j t) (top s)) (fed p n j t (top s) a.kind)
        → own_move all (queue q n j (cut_task made j t) (top s)) (closed q j n) (cut_task made j t) (cut_kids t.first (made_of made j t) 0 kids) s (next (cut_task made j t) (top s))
        ≡ own_move all (queue p n j t (top s)) (closed p j n) t kids s (next t (top s))
    by a todo e (there more w) =
        ap (own_move all (queue q n j (cut_task made j t) (top s)) (closed q j n) (cut_task made j t) (cut_kids t.first (made_of made j t) 0 kids) s) w
        ∙ ap (λ z. cond z (record { name = t.name; action = a; after = Count (suc (top s)) (below s) (beside s) } ∷ []) []) (can_same a todo e a.kind refl)
        ∙ sym (ap (own_move all (queue p n j t (top s)) (closed p j n) t kids s) e)
    by a todo e (waits w x) =
        ap (own_move all (queue q n j (cut_task made j t) (top s)) (closed q j n) (cut_task made j t) (cut_kids t.first (made_of made j t) 0 kids) s) w
        ∙ sym (ap (λ z. cond z (record { name = t.name; action = a; after = Count (suc (top s)) (below s) (beside s) } ∷ []) []) (unready a.kind x))
        ∙ sym (ap (own_move all (queue p n j t (top s)) (closed p j n) t kids s) e)

    at : (xs : List Action) → next t (top s) ≡ xs
        → own_move all (queue q n j (cut_task made j t) (top s)) (closed q j n) (cut_task made j t) (cut_kids t.first (made_of made j t) 0 kids) s (next (cut_task made j t) (top s))
        ≡ own_move all (queue p n j t (top s)) (closed p j n) t kids s (next t (top s))
    at [] e =
        ap (own_move all (queue q n j (cut_task made j t) (top s)) (closed q j n) (cut_task made j t) (cut_kids t.first (made_of made j t) 0 kids) s)
        (next_cut made j t (top s) d ∙ ap (λ z. to_refusal (known (length (given j made) - taken t (top s)) (shuts_in j made) z)) e)
        ∙ sym (ap (own_move all (queue p n j t (top s)) (closed p j n) t kids s) e)
    at (a ∷ todo) e = by a todo e (stands made q p n j t (top s) fol d qd a todo e)

pub moves_same : (all : List (List ℕ)) (cut : Bool) (made : List Action) (q p : Task) (n j : ℕ) (f : Forest) (s : Counts) → Follows made q p n → Rules cut p j f → AllQueued p n j f s → AllPassed made j f s
    → moves all q n j (cut_kids p.first made j f) s ≡ moves all p n j f s
moves_same all cut made q p n j Bare s fol rules qs ps = refl
moves_same all cut made q p n j (Node t kids rest) s fol (fit, keeps, apart, lower, later) (on, off_is, more) (d, inner, outer) =
    by (cases_Bool (has j p.first || starts_in j made)) (moves_same all cut made q p n (suc j) rest (beside s) fol later more outer)
    (λ g. moves_same all (not (closes j p)) (made_of made j t) (cut_task made j t) t (top s) 0 kids (below s) (follows_down made j t (top s) d) lower (on g).1 inner)
  where
    by : ((has j p.first || starts_in j made) ≡ true) ⊎ ((has j p.first || starts_in j made) ≡ false)
        → moves all q n (suc j) (cut_kids p.first made (suc j) rest) (beside s) ≡ moves all p n (suc j) rest (beside s)
        → (started p j n ≡ true → moves all (cut_task made j t) (top s) 0 (cut_kids t.first (made_of made j t) 0 kids) (below s) ≡ moves all t (top s) 0 kids (below s))
        → moves all q n j (cut_kids p.first made j (Node t kids rest)) s ≡ moves all p n j (Node t kids rest) s
    by (inl h) ih down = rw h (glue (started q j n) (started p j n)
        (own_move all (queue q n j (cut_task made j t) (top s)) (closed q j n) (cut_task made j t) (cut_kids t.first (made_of made j t) 0 kids) s (next (cut_task made j t) (top s)))
        (own_move all (queue p n j t (top s)) (closed p j n) t kids s (next t (top s)))
        (map (move_below s) (moves all (cut_task made j t) (top s) 0 (cut_kids t.first (made_of made j t) 0 kids) (below s)))
        (map (move_below s) (moves all t (top s) 0 kids (below s)))
        (map (move_beside s) (moves all q n (suc j) (cut_kids p.first made (suc j) rest) (beside s)))
        (map (move_beside s) (moves all p n (suc j) rest (beside s)))
        (started_same made q p n fol j)
        (λ g. own_same all cut made q p n j t kids s fol fit lower (on g).0 (on g).1 d inner)
        (λ g. ap (map (move_below s)) (down g))
        (ap (map (move_beside s)) ih))
    by (inr h) ih down =
        let off : started p j n ≡ false = ⊎_elim (λ x. absurd (no_true h (started_part made q p n fol j x))) (λ x. x) (cases_Bool (started p j n)) in
        rw (h, off) (moves_behind all q n j t (cut_kids p.first made (suc j) rest) s (started_same made q p n fol j ∙ off) ∙ ap (map (move_beside s)) ih)

-- ---- what is left

pub left_fewer : (first : List ℕ) (made : List Action) (j : ℕ) (f : Forest) (s : Counts) → AllPassed made j f s → left (cut_kids first made j f) s ≤ left f s
left_fewer first made j Bare s ps = omega arith
left_fewer first made j (Node t kids rest) s (d, inner, outer) =
    by (cases_Bool (has j first || starts_in j made)) (left_fewer first made (suc j) rest (beside s) outer) (left_fewer t.first (made_of made j t) 0 kids (below s) inner)
  where
    own : length (next (cut_task made j t) (top s)) ≤ length (next t (top s))
    own = subst (λ z. length z ≤ length (next t (top s))) (sym (next_cut made j t (top s) d)) (cut_shorter (length (given j made) - taken t (top s)) (shuts_in j made) (next t (top s)))

    by : ((has j first || starts_in j made) ≡ true) ⊎ ((has j first || starts_in j made) ≡ false) → left (cut_kids first made (suc j) rest) (beside s) ≤ left rest (beside s)
        → left (cut_kids t.first (made_of made j t) 0 kids) (below s) ≤ left kids (below s) → left (cut_kids first made j (Node t kids rest)) s ≤ left (Node t kids rest) s
    by (inl h) ih down = rw h (omega (arith, own, ih, down))
    by (inr h) ih down = rw h (let e : left (behind t (cut_kids first made (suc j) rest)) s ≡ left (cut_kids first made (suc j) rest) (beside s) = all_left_behind t (cut_kids first made (suc j) rest) s in omega (arith, e, ih))
