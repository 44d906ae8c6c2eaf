-- Runs: how long they are, where they end, and what stands at the end.
use Rattle.std.proofs.Common.{◌≡◌, ℕ, zero, suc, ◌+◌, ◌%◌, ◌<◌, ◌≤◌, ◌⊎◌, Bool, true, false, not, List, [], ◌∷◌, length, Option, Some, None, refl, sym, ap, ◌∙◌, subst, inl, inr, ⊎_elim, arith}
use Rattle.std.proofs.lemmas.Bool.{cases_Bool}
use Rattle.vx_path.specs.Lists.{In}
use Rattle.vx_tasks.specs.Task.{Task, Action, Forest, next, refuses_in, closes}
use Rattle.vx_tasks.specs.Task.Forest.{Bare, Node}
use Rattle.vx_tasks.specs.State.{Counts, top, below, beside, left}
use Rattle.vx_tasks.specs.State.Counts.{Zeros}
use Rattle.vx_tasks.specs.Run.{Move, moves, outside, all_held, all_moves, ready, work, Leads, Step, first_pick, later_picks, nth, step_at, run, end_of, moves_of}
use Rattle.vx_tasks.specs.Rules.{Rules, NoneRefuses, AllEnd}
use Rattle.vx_tasks.proofs.Scripts.{no_true, or_false, next_clean}
use Rattle.vx_tasks.proofs.Stuck.{Kept, some_move}
use Rattle.vx_tasks.proofs.Steps.{Where, here, under, aside, which, move_left, move_kept, at_start}

pub leads_kept : (f : Forest) (s e : Counts) (ms : List Move) → Kept f s → Leads f s ms e → Kept f e
leads_kept f s e [] k l = subst (λ x. Kept f x) l k
leads_kept f s e (m ∷ ms) k (i, r, l) = leads_kept f m.after e ms (move_kept (all_held f s) outside 1 0 f s m i r k) l

pub leads_left : (f : Forest) (s e : Counts) (ms : List Move) → Leads f s ms e → left f e + length ms ≡ left f s
leads_left f s e [] l = rw l (omega arith)
leads_left f s e (m ∷ ms) (i, r, l) = omega (arith, leads_left f m.after e ms l, move_left (all_held f s) outside 1 0 f s m i)

pub always_ready : (f : Forest) (e : Counts) (ms : List Move) → Rules false outside 0 f → Leads f Zeros ms e → 0 < left f e → 0 < ready f e
always_ready f e ms rules l h = some_move f e rules (leads_kept f Zeros e ms (at_start f) l) h

-- Where nothing is left, nothing refuses and all streams end.

no_refusal : (f : Forest) (s : Counts) → Kept f s → left f s ≡ 0 → NoneRefuses f
no_refusal Bare s kept h = tt
no_refusal (Node t kids rest) s (k, inner, outer) h = (
  ⊎_elim (λ r. absurd (no_true (ap refuses_in (empty (next t (top s)) (omega arith))) (k r))) (λ r. r) (cases_Bool (refuses_in t.script)),
  no_refusal kids (below s) inner (omega arith),
  no_refusal rest (beside s) outer (omega arith),
)
  where
    empty : (xs : List Action) → length xs ≡ 0 → xs ≡ []
    empty [] d = refl
    empty (x ∷ xs) d = absurd (omega arith)

all_end : (cut : Bool) (p : Task) (j : ℕ) (f : Forest) → Rules cut p j f → cut ≡ false → refuses_in p.script ≡ false → NoneRefuses f → AllEnd p j f
all_end cut p j Bare rules c r none = tt
all_end cut p j (Node t kids rest) (fit, keeps, apart, inner, outer) c r (own, none, more) =
    let h : closes j p ≡ true = ⊎_elim (λ y. y) (λ y. absurd (no_true r (fit.open_refuses c y))) (cases_Bool (closes j p)) in
    (h, all_end (not (closes j p)) t 0 kids inner (ap not h) own none, all_end cut p (suc j) rest outer c r more)

pub at_the_end : (f : Forest) (e : Counts) (ms : List Move) → Rules false outside 0 f → Leads f Zeros ms e → left f e ≡ 0 → NoneRefuses f × AllEnd outside 0 f
at_the_end f e ms rules l h =
    let n : NoneRefuses f = no_refusal f e (leads_kept f Zeros e ms (at_start f) l) h in
    (n, all_end false outside 0 f rules refl refl n)

-- A run under a schedule.

nth_in : {A : Type 0} (xs : List A) (k : ℕ) (x : A) → nth xs k ≡ Some x → In x xs
nth_in [] k x e = cc
nth_in (y ∷ xs) zero x e = let h : y ≡ x = cc in inl (sym h)
nth_in (y ∷ xs) (suc k) x e = inr (nth_in xs k x e)

nth_some : {A : Type 0} (xs : List A) (k : ℕ) → k < length xs → nth xs k ≡ None → ⊥
nth_some [] k h e = omega arith
nth_some (y ∷ xs) zero h e = cc
nth_some (y ∷ xs) (suc k) h e = nth_some xs k (omega arith) e

-- Where a run stands still after fewer steps than it may take.
abbrev Stopped : Forest → Counts → Type 0
Stopped f s = (left f s ≡ 0) ⊎ ((m : Move) × In m (all_moves f s) × (m.action.refuses ≡ true))

pub run_leads : (f : Forest) (s : Counts) (picks : List ℕ) (n : ℕ) → Leads f s (moves_of (run f s picks n)) (end_of s (run f s picks n))
run_leads f s picks zero = refl
run_leads f s picks (suc n) =
    let k : ℕ = first_pick picks % length (all_moves f s) in
    by_move k (nth (all_moves f s) k) refl (λ m. run_leads f m.after (later_picks picks) n)
  where
    by_test : (k : ℕ) (m : Move) → In m (all_moves f s) → (b : Bool) → m.action.refuses ≡ b
        → ((m : Move) → Leads f m.after (moves_of (run f m.after (later_picks picks) n)) (end_of m.after (run f m.after (later_picks picks) n)))
        → Leads f s (moves_of (step_at (length (all_moves f s)) k (Some m) (λ m. run f m.after (later_picks picks) n)))
        (end_of s (step_at (length (all_moves f s)) k (Some m) (λ m. run f m.after (later_picks picks) n)))
    by_test k m i true r go = rw r refl
    by_test k m i false r go = rw r (i, r, go m)

    by_move : (k : ℕ) (o : Option Move) → nth (all_moves f s) k ≡ o
        → ((m : Move) → Leads f m.after (moves_of (run f m.after (later_picks picks) n)) (end_of m.after (run f m.after (later_picks picks) n)))
        → Leads f s (moves_of (step_at (length (all_moves f s)) k (nth (all_moves f s) k) (λ m. run f m.after (later_picks picks) n)))
        (end_of s (step_at (length (all_moves f s)) k (nth (all_moves f s) k) (λ m. run f m.after (later_picks picks) n)))
    by_move k None e go = rw e refl
    by_move k (Some m) e go = rw e (by_test k m (nth_in (all_moves f s) k m e) m.action.refuses refl go)

-- the next step and those after it, where the pick is at place k
abbrev Goes : Forest → Counts → List ℕ → ℕ → ℕ → Option Move → List Step
Goes f s picks n k o = step_at (length (all_moves f s)) k o (λ m. run f m.after (later_picks picks) n)

place_fits : (pick size : ℕ) → 0 < size → pick % size < size
place_fits pick size h = omega arith

pub run_stops : (f : Forest) (s : Counts) (picks : List ℕ) (n : ℕ) → Rules false outside 0 f → Kept f s
    → length (run f s picks n) < n → Stopped f (end_of s (run f s picks n))
run_stops f s picks zero rules kept h = absurd (omega arith)
run_stops f s picks (suc n) rules kept h =
    let k : ℕ = first_pick picks % length (all_moves f s) in
    by_move k (place_fits (first_pick picks) (length (all_moves f s))) (nth (all_moves f s) k) refl
    (λ m i r l. run_stops f m.after (later_picks picks) n rules (move_kept (all_held f s) outside 1 0 f s m i r kept) l) h
  where
    by_test : (k : ℕ) (m : Move) → In m (all_moves f s) → (b : Bool) → m.action.refuses ≡ b
        → ((m : Move) → In m (all_moves f s) → m.action.refuses ≡ false → length (run f m.after (later_picks picks) n) < n
        → Stopped f (end_of m.after (run f m.after (later_picks picks) n)))
        → length (Goes f s picks n k (Some m)) < suc n → Stopped f (end_of s (Goes f s picks n k (Some m)))
    by_test k m i true r go l = rw r (inr (m, i, r))
    by_test k m i false r go l = rw r (go m i r (let z : suc (length (run f m.after (later_picks picks) n)) < suc n = rw r at l in omega arith))

    none_ready : (k : ℕ) → (0 < length (all_moves f s) → k < length (all_moves f s)) → nth (all_moves f s) k ≡ None → left f s ≡ 0
    none_ready k fits e = ⊎_elim (λ z. z) (λ z. absurd (nth_some (all_moves f s) k (fits (some_move f s rules kept z)) e)) (zero_or (left f s))
      where
        zero_or : (n : ℕ) → (n ≡ 0) ⊎ (0 < n)
        zero_or n = grind arith

    by_move : (k : ℕ) → (0 < length (all_moves f s) → k < length (all_moves f s)) → (o : Option Move) → nth (all_moves f s) k ≡ o
        → ((m : Move) → In m (all_moves f s) → m.action.refuses ≡ false → length (run f m.after (later_picks picks) n) < n
        → Stopped f (end_of m.after (run f m.after (later_picks picks) n)))
        → length (Goes f s picks n k (nth (all_moves f s) k)) < suc n → Stopped f (end_of s (Goes f s picks n k (nth (all_moves f s) k)))
    by_move k fits None e go l = rw e (inl (none_ready k fits e))
    by_move k fits (Some m) e go l = rw e (by_test k m (nth_in (all_moves f s) k m e) m.action.refuses refl go (rw e at l))

-- a task that doesn't refuse has no refusing move
clean_moves : (all : List (List ℕ)) (p : Task) (n j : ℕ) (f : Forest) (s : Counts) (m : Move) → NoneRefuses f → In m (moves all p n j f s) → m.action.refuses ≡ false
clean_moves all p n j Bare s m none i = absurd i
clean_moves all p n j (Node t kids rest) s m (own, inner, outer) i =
    by_place (which all p n j t kids rest s m i)
    (λ d k. clean_moves all t (top s) 0 kids (below s) d inner k) (λ d k. clean_moves all p n (suc j) rest (beside s) d outer k)
  where
    by_place : Where all p n j t kids rest s m → ((d : Move) → In d (moves all t (top s) 0 kids (below s)) → d.action.refuses ≡ false)
        → ((d : Move) → In d (moves all p n (suc j) rest (beside s)) → d.action.refuses ≡ false) → m.action.refuses ≡ false
    by_place (here g o) down over = (or_false m.action.refuses (refuses_in o.todo) (sym (ap refuses_in o.next_is) ∙ next_clean t (top s) own)).0
    by_place (under g d k e) down over = ap (λ x. x.action.refuses) e ∙ down d k
    by_place (aside d k e) down over = ap (λ x. x.action.refuses) e ∙ over d k

pub as_many : (xs : List Step) → length (moves_of xs) ≡ length xs
as_many [] = refl
as_many (x ∷ xs) = ap suc (as_many xs)

pub run_exact : (f : Forest) (picks : List ℕ) → Rules false outside 0 f → NoneRefuses f → length (run f Zeros picks (work f)) ≡ work f
run_exact f picks rules none = by_stop (run_stops f Zeros picks (work f) rules (at_start f))
  where
    sum : left f (end_of Zeros (run f Zeros picks (work f))) + length (run f Zeros picks (work f)) ≡ work f
    sum = rw (← as_many (run f Zeros picks (work f)))
        (leads_left f Zeros (end_of Zeros (run f Zeros picks (work f))) (moves_of (run f Zeros picks (work f))) (run_leads f Zeros picks (work f)))

    cases : (a b : ℕ) → (a < b) ⊎ (b ≤ a)
    cases a b = grind arith

    by_stop : (length (run f Zeros picks (work f)) < work f → Stopped f (end_of Zeros (run f Zeros picks (work f)))) → length (run f Zeros picks (work f)) ≡ work f
    by_stop stop = ⊎_elim
        (λ l. ⊎_elim (λ z. omega (arith, sum, z))
        (λ m. absurd (no_true (clean_moves (all_held f (end_of Zeros (run f Zeros picks (work f)))) outside 1 0 f (end_of Zeros (run f Zeros picks (work f))) m.0 none m.1) m.2))
        (stop l))
        (λ g. omega (arith, sum))
        (cases (length (run f Zeros picks (work f))) (work f))

-- where a refusing action can come next, something is left
pub refusal_left : (f : Forest) (e : Counts) (ms : List Move) (m : Move) → Leads f Zeros ms e → In m (all_moves f e) → length ms < work f
refusal_left f e ms m l i = omega (arith, leads_left f Zeros e ms l, move_left (all_held f e) outside 1 0 f e m i)
