-- Runs of a tree and of its cut tree.
use Rattle.std.proofs.Common.{◌≡◌, ℕ, zero, suc, ◌+◌, ◌-◌, ◌%◌, ◌<◌, ◌≤◌, ◌⊎◌, ◌||◌, Bool, true, false, not, List, [], ◌∷◌, length, map, Option, Some, None, refl, sym, ap, ◌∙◌, subst, inl, inr, ⊎_elim, arith}
use Rattle.std.proofs.lemmas.Bool.{cases_Bool}
use Rattle.vx_path.specs.Lists.{In}
use Rattle.vx_tasks.specs.Task.{Action, Task, Forest, items, closes, given, has, starts_in, refuses_in}
use Rattle.vx_tasks.specs.Task.Forest.{Bare, Node}
use Rattle.vx_tasks.specs.State.{Counts, left}
use Rattle.vx_tasks.specs.State.Counts.{Zeros}
use Rattle.vx_tasks.specs.Queues.{AllQueued}
use Rattle.vx_tasks.specs.Run.{Move, moves, outside, all_held, all_moves, ready, work, Leads, Step, first_pick, later_picks, nth, step_at, step_of, run, note, trace}
use Rattle.vx_tasks.specs.Rules.{Fits, Rules, NoneRefuses}
use Rattle.vx_tasks.proofs.Scripts.{no_true}
use Rattle.vx_tasks.proofs.Runs.{leads_left, refusal_left}
use Rattle.vx_tasks.proofs.Picks.{run_done, none_ready}
use Rattle.vx_tasks.proofs.Queues.{run_queued, always_queued}
use Rattle.vx_tasks.proofs.Steps.{move_left}
use Rattle.vx_cut_laws.specs.Cut.{to_refusal, before_refusal, known_of, made_of, cut_task, behind, cut_kids, cut}
use Rattle.vx_cut_laws.specs.Laws.{SameMoves, SameHeld, SameRuns, SameTrace, RefusedEarly, CutIsDone, NothingCut}
use Rattle.vx_cut_laws.proofs.Lists.{known_all, to_refusal_all, before_refusal_all}
use Rattle.vx_cut_laws.proofs.Passing.{AllPassed, at_start, move_passed, outside_follows}
use Rattle.vx_cut_laws.proofs.Alike.{moves_same, held_same, left_fewer}

-- A state that a run reaches.
record Reached (f : Forest) (s : Counts) : Type 0 where
  queued : AllQueued outside 1 0 f s
  passed : AllPassed outside.script 0 f s

held_is : (f : Forest) (s : Counts) → Reached f s → all_held (cut f) s ≡ all_held f s
held_is f s r = held_same outside.script outside outside 1 0 f s outside_follows r.passed

moves_are : (f : Forest) (s : Counts) → Rules false outside 0 f → Reached f s → all_moves (cut f) s ≡ all_moves f s
moves_are f s rules r =
    ap (λ z. moves z outside 1 0 (cut f) s) (held_is f s r)
    ∙ moves_same (all_held f s) false outside.script outside outside 1 0 f s outside_follows rules r.queued r.passed

step_reached : (f : Forest) (s : Counts) (m : Move) → Rules false outside 0 f → Reached f s → In m (all_moves f s) → m.action.refuses ≡ false → Reached f m.after
step_reached f s m rules r i c =
    let q : AllQueued outside 1 0 f m.after = run_queued f s m.after (m ∷ []) rules r.queued (i, c, refl) in
    record { queued = q; passed = move_passed (all_held f s) outside.script outside outside 1 0 f s m outside_follows i c r.queued q r.passed }

start_reached : (f : Forest) → Rules false outside 0 f → Reached f Zeros
start_reached f rules = record { queued = always_queued f Zeros [] rules refl; passed = at_start outside.script 0 f }

leads_reached : (f : Forest) (s e : Counts) (ms : List Move) → Rules false outside 0 f → Reached f s → Leads f s ms e → Reached f e
leads_reached f s e [] rules r l = subst (λ z. Reached f z) l r
leads_reached f s e (m ∷ ms) rules r (i, c, l) = leads_reached f m.after e ms rules (step_reached f s m rules r i c) l

leads_cut : (f : Forest) (s e : Counts) (ms : List Move) → Rules false outside 0 f → Reached f s → Leads f s ms e → Leads (cut f) s ms e
leads_cut f s e [] rules r l = l
leads_cut f s e (m ∷ ms) rules r (i, c, l) = (subst (λ z. In m z) (sym (moves_are f s rules r)) i, c, leads_cut f m.after e ms rules (step_reached f s m rules r i c) l)

nth_in : {A : Type 0} (xs : List A) (k : ℕ) (x : A) → nth xs k ≡ Some x → In x xs
nth_in [] k x e = cc
nth_in (y ∷ xs) zero x e = let h : y ≡ x = cc in inl (sym h)
nth_in (y ∷ xs) (suc k) x e = inr (nth_in xs k x e)

-- a step, and those after it
step_same : (size k : ℕ) (ms : List Move) (go go' : Move → List Step) → ((m : Move) → nth ms k ≡ Some m → m.action.refuses ≡ false → go m ≡ go' m) → step_at size k (nth ms k) go ≡ step_at size k (nth ms k) go'
step_same size k ms go go' h = by (nth ms k) refl
  where
    by_test : (m : Move) (b : Bool) → m.action.refuses ≡ b → (b ≡ false → go m ≡ go' m) → step_at size k (Some m) go ≡ step_at size k (Some m) go'
    by_test m true r g = rw r refl
    by_test m false r g = rw r (ap (λ z. record { ready = size; picked = k; move = m } ∷ z) (g refl))

    by : (o : Option Move) → nth ms k ≡ o → step_at size k (nth ms k) go ≡ step_at size k (nth ms k) go'
    by None e = rw e refl
    by (Some m) e = rw e (by_test m m.action.refuses refl (λ r. h m e r))

run_same : (f : Forest) (s : Counts) (picks : List ℕ) (n : ℕ) → Rules false outside 0 f → Reached f s → run (cut f) s picks n ≡ run f s picks n
run_same f s picks zero rules r = refl
run_same f s picks (suc n) rules r =
    ap (λ z. step_of z (first_pick picks) (λ m. run (cut f) m.after (later_picks picks) n)) (moves_are f s rules r)
    ∙ step_same (length (all_moves f s)) (first_pick picks % length (all_moves f s)) (all_moves f s)
    (λ m. run (cut f) m.after (later_picks picks) n) (λ m. run f m.after (later_picks picks) n)
    (λ m e c. run_same f m.after (later_picks picks) n rules (step_reached f s m rules r (nth_in (all_moves f s) (first_pick picks % length (all_moves f s)) m e) c))

-- a run takes no more steps than the work that is left
run_whole : (f : Forest) (s : Counts) (picks : List ℕ) (k n : ℕ) → left f s ≡ k → run f s picks (k + n) ≡ run f s picks k
run_whole f s picks zero n e = run_done f s picks (0 + n) (none_ready f s e)
run_whole f s picks (suc k) n e =
    ap (run f s picks) (one_more k n)
    ∙ step_same (length (all_moves f s)) (first_pick picks % length (all_moves f s)) (all_moves f s)
    (λ m. run f m.after (later_picks picks) (k + n)) (λ m. run f m.after (later_picks picks) k)
    (λ m g c. run_whole f m.after (later_picks picks) k n
    (let l : suc (left f m.after) ≡ left f s = move_left (all_held f s) outside 1 0 f s m (nth_in (all_moves f s) (first_pick picks % length (all_moves f s)) m g) in omega (arith, l, e)))
  where
    one_more : (k n : ℕ) → suc k + n ≡ suc (k + n)
    one_more k n = omega arith

-- so two trees with the same runs have the same trace
whole_same : (f g : Forest) (picks : List ℕ) → ((n : ℕ) → run f Zeros picks n ≡ run g Zeros picks n) → run f Zeros picks (work f) ≡ run g Zeros picks (work g)
whole_same f g picks same = ⊎_elim
    (λ l. same (work f) ∙ sym (more g (work f) (work g) refl l))
    (λ l. more f (work g) (work f) refl l ∙ same (work g)) (cases (work f) (work g))
  where
    cases : (a b : ℕ) → (b ≤ a) ⊎ (a ≤ b)
    cases a b = grind arith

    more : (h : Forest) (a b : ℕ) → work h ≡ b → b ≤ a → run h Zeros picks b ≡ run h Zeros picks a
    more h a b e l = sym (ap (run h Zeros picks) (sum a b l) ∙ run_whole h Zeros picks b (a - b) e)
      where
        sum : (a b : ℕ) → b ≤ a → a ≡ b + (a - b)
        sum a b l = omega (arith, l)

-- ---- the laws

pub same_moves : SameMoves
same_moves f e ms rules l = moves_are f e rules (leads_reached f Zeros e ms rules (start_reached f rules) l)

pub same_held : SameHeld
same_held f e ms rules l = held_is f e (leads_reached f Zeros e ms rules (start_reached f rules) l)

pub same_runs : SameRuns
same_runs f picks n rules = run_same f Zeros picks n rules (start_reached f rules)

pub same_trace : SameTrace
same_trace f picks rules = ap (map note) (whole_same (cut f) f picks (λ n. same_runs f picks n rules))

pub refused_early : RefusedEarly
refused_early f e ms m rules l i = refusal_left (cut f) e ms m (leads_cut f Zeros e ms rules (start_reached f rules) l) (subst (λ z. In m z) (sym (same_moves f e ms rules l)) i)

pub cut_is_done : CutIsDone
cut_is_done f e ms rules l z =
    let a : left (cut f) e + length ms ≡ work (cut f) = leads_left (cut f) Zeros e ms (leads_cut f Zeros e ms rules (start_reached f rules) l) in
    let b : left (cut f) e ≤ left f e = left_fewer outside.first outside.script 0 f e (leads_reached f Zeros e ms rules (start_reached f rules) l).passed in
    omega (arith, a, b, z)

-- ---- where no task refuses

whole_kids : (cut : Bool) (p : Task) (j : ℕ) (f : Forest) → Rules cut p j f → cut ≡ false → refuses_in p.script ≡ false → NoneRefuses f → cut_kids p.first p.script j f ≡ f
whole_kids cut p j Bare rules c r none = refl
whole_kids cut p j (Node t kids rest) (fit, keeps, apart, lower, later) c r (own, none, more) =
    let h : closes j p ≡ true = ⊎_elim (λ y. y) (λ y. absurd (no_true r (fit.open_refuses c y))) (cases_Bool (closes j p)) in
    let k : known_of p.script j t ≡ t.script = known_all (length (given j p.script)) (closes j p) t.script fit.enough h in
    let made : made_of p.script j t ≡ t.script = ap before_refusal k ∙ before_refusal_all t.script own in
    let task : cut_task p.script j t ≡ t = ap (λ z. record t { script = z }) (ap to_refusal k ∙ to_refusal_all t.script own) in
    let down : cut_kids t.first t.script 0 kids ≡ kids = whole_kids (not (closes j p)) t 0 kids lower (ap not h) own none in
    let over : cut_kids p.first p.script (suc j) rest ≡ rest = whole_kids cut p (suc j) rest later c r more in
    let b : (has j p.first || starts_in j p.script) ≡ true = fit.begun in
    rw b (ap (λ z. Node z (cut_kids t.first (made_of p.script j t) 0 kids) (cut_kids p.first p.script (suc j) rest)) task
    ∙ ap (λ z. Node t (cut_kids t.first z 0 kids) (cut_kids p.first p.script (suc j) rest)) made
    ∙ ap (λ z. Node t z (cut_kids p.first p.script (suc j) rest)) down
    ∙ ap (λ z. Node t kids z) over)

pub nothing_cut : NothingCut
nothing_cut f rules none = whole_kids false outside 0 f rules refl refl none
