-- The queues of every state that a run reaches.
use Rattle.std.proofs.Common.{not, ◌≡◌, ℕ, suc, ◌+◌, ◌<◌, ◌≤◌, ◌⊎◌, Bool, true, false, ◌||◌, List, [], ◌∷◌, ◌++◌, length, refl, sym, ap, ◌∙◌, subst, inl, inr, ⊎_elim, arith, length-append, length-drop, append-nil}
use Rattle.std.proofs.lemmas.Bool.{cases_Bool}
use Rattle.std.proofs.lemmas.List.{drop_all}
use Rattle.vx_path.specs.Lists.{In}
use Rattle.vx_tasks.specs.Task.{Task, Action, Kind, Forest, next, past, given, sent, started, starts_in, has, closed, closes, items, taken, takes_of, takes_in, next_kind, is_late}
use Rattle.vx_tasks.specs.Task.Kind.{Free, Take, TakeEnd, Put, Append, Join}
use Rattle.vx_tasks.specs.Task.Forest.{Bare, Node}
use Rattle.vx_tasks.specs.State.{Counts, top, below, beside, queue}
use Rattle.vx_tasks.specs.State.Counts.{Zeros}
use Rattle.vx_tasks.specs.Run.{any_there, can, Move, moves, outside, all_held, Leads}
use Rattle.vx_tasks.specs.Rules.{Fits, Rules}
use Rattle.vx_tasks.specs.Queues.{is_take, is_end, Queued, AtZero, AllQueued}
use Rattle.vx_tasks.proofs.Scripts.{no_true, or_parts, or_true, script_is, past_suc, items_are, sent_fewer, given-append, starts_in-append, takes_in-append}
use Rattle.vx_tasks.proofs.Steps.{Where, here, under, aside, which}

-- What one more action does.

taken_more : (t : Task) (n : ℕ) (a : Action) (todo : List Action) → next t n ≡ a ∷ todo → taken t (suc n) ≡ taken t n + takes_of a.kind
taken_more t n a todo e =
    let h : takes_in (past t n ++ (a ∷ [])) ≡ takes_in (past t n) + takes_in (a ∷ []) = takes_in-append (past t n) (a ∷ []) in
    ap takes_in (past_suc t.script n a todo e) ∙ omega (arith, h)

sent_more : (p : Task) (j n : ℕ) (a : Action) (todo : List Action) → next p n ≡ a ∷ todo → length (sent p j n) ≤ length (sent p j (suc n))
sent_more p j n a todo e =
    rw (past_suc p.script n a todo e, given-append j (past p n) (a ∷ []), length-append (given j (past p n)) (given j (a ∷ []))) (omega arith)

started_more : (p : Task) (j n : ℕ) (a : Action) (todo : List Action) → next p n ≡ a ∷ todo → started p j n ≡ true → started p j (suc n) ≡ true
started_more p j n a todo e h =
    ap (λ s. has j p.first || starts_in j s) (past_suc p.script n a todo e)
    ∙ or_true (has j p.first) (starts_in j (past p n ++ (a ∷ []))) (⊎_elim (λ x. inl x)
    (λ x. inr (starts_in-append j (past p n) (a ∷ []) ∙ or_true (starts_in j (past p n)) (starts_in j (a ∷ [])) (inl x)))
    (or_parts (has j p.first) (starts_in j (past p n)) h))

-- From what is taken so far the rest follows.

some_there : (xs : List (List ℕ)) → 0 < length xs → any_there xs ≡ true
some_there [] h = absurd (omega arith)
some_there (x ∷ xs) h = refl

some_length : (xs : List (List ℕ)) → any_there xs ≡ true → 0 < length xs
some_length [] h = cc
some_length (x ∷ xs) h = omega arith

-- a take to come is one of the script's takes
take_to_come : (t : Task) (m : ℕ) → next_kind is_take (next t m) ≡ true → suc (taken t m) ≤ takes_in t.script
take_to_come t m h =
    let w : takes_in t.script ≡ taken t m + takes_in (next t m) = ap takes_in (script_is t m) ∙ takes_in-append (past t m) (next t m) in
    omega (arith, one (next t m) h)
  where
    kind_one : (k : Kind) → is_take k ≡ true → 1 ≤ takes_of k
    kind_one (Free w) h = cc
    kind_one Take h = omega arith
    kind_one TakeEnd h = cc
    kind_one (Put c) h = cc
    kind_one (Append q) h = cc
    kind_one Join h = cc

    one : (xs : List Action) → next_kind is_take xs ≡ true → 1 ≤ takes_in xs
    one [] h = cc
    one (a ∷ xs) h = omega (arith, kind_one a.kind h)

late_from_end : (xs : List Action) → next_kind is_end xs ≡ true → next_kind is_late xs ≡ true
late_from_end [] h = h
late_from_end (a ∷ xs) h = at a.kind h
  where
    at : (k : Kind) → is_end k ≡ true → is_late k ≡ true
    at (Free w) h = cc
    at Take h = cc
    at TakeEnd h = refl
    at (Put c) h = cc
    at (Append q) h = cc
    at Join h = cc

queued : (cut : Bool) (p : Task) (n j : ℕ) (t : Task) (m : ℕ) → Fits cut p j t → taken t m ≤ length (sent p j n) → Queued p n j t m
queued cut p n j t m fit l = record {
  fewer = l;
  item = λ h r. ⊎_elim (λ x. x) (λ x. some_there (queue p n j t m) (when_shut h x)) (or_parts (any_there (queue p n j t m)) (closed p j n) r);
  last = λ h. drop_all (taken t m) (sent p j n) (omega (arith, sent_fewer p j n, fit.reads_first m (late_from_end (next t m) h)));
}
  where
    when_shut : next_kind is_take (next t m) ≡ true → closed p j n ≡ true → 0 < length (queue p n j t m)
    when_shut h c =
        let all_sent : items j p ≡ sent p j n = items_are p j n ∙ ap (λ y. sent p j n ++ y) (fit.shut_last n c) ∙ append-nil (sent p j n) in
        let as_many : length (items j p) ≡ length (sent p j n) = ap length all_sent in
        omega (arith, length-drop (taken t m) (sent p j n), take_to_come t m h, fit.enough)

-- The start, and one step.

at_zero : (p : Task) (n j : ℕ) (cut : Bool) (f : Forest) (s : Counts) → Rules cut p j f → AtZero f s → AllQueued p n j f s
at_zero p n j cut Bare s rules z = tt
at_zero p n j cut (Node t kids rest) s (fit, keeps, apart, lower, later) (z, inner, outer) = (
  λ g. (queued cut p n j t (top s) fit (rw z (omega arith)), at_zero t (top s) 0 (not (closes j p)) kids (below s) lower inner),
  λ g. (z, inner),
  at_zero p n (suc j) cut rest (beside s) later outer,
)

-- p does one more action
parent_moved : (p : Task) (n j : ℕ) (a : Action) (todo : List Action) (cut : Bool) (f : Forest) (s : Counts) → next p n ≡ a ∷ todo → Rules cut p j f
    → AllQueued p n j f s → AllQueued p (suc n) j f s
parent_moved p n j a todo cut Bare s e rules q = tt
parent_moved p n j a todo cut (Node t kids rest) s e (fit, keeps, apart, lower, later) (on, off, more) = (
  λ g. by_start (cases_Bool (started p j n)),
  λ g. off (was_off g),
  parent_moved p n (suc j) a todo cut rest (beside s) e later more,
)
  where
    was_off : started p j (suc n) ≡ false → started p j n ≡ false
    was_off g = ⊎_elim (λ h. absurd (no_true g (started_more p j n a todo e h))) (λ h. h) (cases_Bool (started p j n))

    by_start : (started p j n ≡ true) ⊎ (started p j n ≡ false) → Queued p (suc n) j t (top s) × AllQueued t (top s) 0 kids (below s)
    by_start (inl h) =
        let q : Queued p n j t (top s) × AllQueued t (top s) 0 kids (below s) = on h in
        let l : taken t (top s) ≤ length (sent p j n) = q.0.fewer in
        (queued cut p (suc n) j t (top s) fit (omega (arith, sent_more p j n a todo e)), q.1)
    by_start (inr h) =
        let z : (top s ≡ 0) × AtZero kids (below s) = off h in
        (queued cut p (suc n) j t (top s) fit (rw z.0 (omega arith)), at_zero t (top s) 0 (not (closes j p)) kids (below s) lower z.1)

moved : (all : List (List ℕ)) (cut : Bool) (p : Task) (n j : ℕ) (f : Forest) (s : Counts) (m : Move) → Rules cut p j f → In m (moves all p n j f s)
    → AllQueued p n j f s → AllQueued p n j f m.after
moved all cut p n j Bare s m rules i q = tt
moved all cut p n j (Node t kids rest) s m (fit, keeps, apart, lower, later) i (on, off, more) =
    by_place (which all p n j t kids rest s m i)
    (λ d k q. moved all (not (closes j p)) t (top s) 0 kids (below s) d lower k q)
    (λ d k q. moved all cut p n (suc j) rest (beside s) d later k q)
  where
    one_more : (k : Kind) (q : List (List ℕ)) (shut : Bool) → can all q shut t (top s) kids (below s) k ≡ true
        → (is_take k ≡ true → (any_there q || shut) ≡ true → any_there q ≡ true) → q ≡ queue p n j t (top s)
        → taken t (top s) ≤ length (sent p j n) → taken t (top s) + takes_of k ≤ length (sent p j n)
    one_more (Free w) q shut c f e l = omega arith
    one_more Take q shut c f e l =
        let some : 0 < length (queue p n j t (top s)) = subst (λ y. 0 < length y) e (some_length q (f refl c)) in
        omega (arith, length-drop (taken t (top s)) (sent p j n))
    one_more TakeEnd q shut c f e l = omega arith
    one_more (Put d) q shut c f e l = omega arith
    one_more (Append x) q shut c f e l = omega arith
    one_more Join q shut c f e l = omega arith

    by_place : Where all p n j t kids rest s m → ((d : Move) → In d (moves all t (top s) 0 kids (below s)) → AllQueued t (top s) 0 kids (below s) → AllQueued t (top s) 0 kids d.after)
        → ((d : Move) → In d (moves all p n (suc j) rest (beside s)) → AllQueued p n (suc j) rest (beside s) → AllQueued p n (suc j) rest d.after)
        → AllQueued p n j (Node t kids rest) m.after
    by_place (here g o) down over =
        let q : Queued p n j t (top s) × AllQueued t (top s) 0 kids (below s) = on g in
        let l : taken t (suc (top s)) ≤ length (sent p j n) =
        subst (λ x. x ≤ length (sent p j n)) (sym (taken_more t (top s) m.action o.todo o.next_is))
        (one_more m.action.kind (queue p n j t (top s)) (closed p j n) o.allowed
        (λ h r. q.0.item (ap (next_kind is_take) o.next_is ∙ h) r) refl q.0.fewer) in
        rw o.after_is (
          λ h. (queued cut p n j t (suc (top s)) fit l, parent_moved t (top s) 0 m.action o.todo (not (closes j p)) kids (below s) o.next_is lower q.1),
          λ h. absurd (no_true h g),
          more,
        )
    by_place (under g d k e) down over = rw e (λ h. ((on h).0, down d k (on h).1), λ h. absurd (no_true h g), more)
    by_place (aside d k e) down over = rw e (on, off, over d k more)

pub run_queued : (f : Forest) (s e : Counts) (ms : List Move) → Rules false outside 0 f → AllQueued outside 1 0 f s → Leads f s ms e → AllQueued outside 1 0 f e
run_queued f s e [] rules q l = subst (λ x. AllQueued outside 1 0 f x) l q
run_queued f s e (m ∷ ms) rules q (i, r, l) = run_queued f m.after e ms rules (moved (all_held f s) false outside 1 0 f s m rules i q) l

zeros : (f : Forest) → AtZero f Zeros
zeros Bare = tt
zeros (Node t kids rest) = (refl, zeros kids, zeros rest)

pub always_queued : (f : Forest) (e : Counts) (ms : List Move) → Rules false outside 0 f → Leads f Zeros ms e → AllQueued outside 1 0 f e
always_queued f e ms rules l = run_queued f Zeros e ms rules (at_zero outside 1 0 false f Zeros rules (zeros f)) l
