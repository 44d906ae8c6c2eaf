-- How many tasks are ready, and how long a run is, against the work that is left.
use Rattle.std.proofs.Common.{◌≡◌, ◌+◌, ◌-◌, ◌≤◌, ◌∷◌, ◌++◌, ◌∙◌, ℕ, zero, suc, Bool, true, false, cond, List, map, take, length, refl, sym, ap, subst, inl, inr, arith, Option, Some, None, length-append, length-drop, []}
use Rattle.vx_path.specs.Lists.{In}
use Rattle.vx_path.proofs.Lists.{from_map}
use Rattle.vx_tasks.specs.Task.{Task, Action, Forest, next, started, closed}
use Rattle.vx_tasks.specs.Task.Forest.{Bare, Node}
use Rattle.vx_tasks.specs.State.{Counts, top, below, beside, left, queue}
use Rattle.vx_tasks.specs.State.Counts.{Zeros, Count}
use Rattle.vx_tasks.specs.Run.{can, Move, own_move, move_below, move_beside, moves, outside, all_held, all_moves, Leads, ready, work, trace, Step, Note, note, nth, later_picks, step_at, run}
use Rattle.vx_tasks.specs.Rules.{KeepsRules}
use Rattle.vx_tasks.proofs.Picks.{length_map, place, run_step, run_refused}
use Rattle.vx_tasks.proofs.Steps.{move_left}
use Rattle.vx_cut_laws.specs.Cut.{cut}
use Rattle.vx_cut_laws.proofs.Runs.{same_moves}
use Rattle.vx_machine_runs.specs.Traces.{ReadyIsWithinLeft}

pub nth_in : {A : Type 0} (xs : List A) (k : ℕ) (x : A) → nth xs k ≡ Some x → In x xs
nth_in [] k x e = cc
nth_in (y ∷ xs) zero x e = let h : y ≡ x = cc in inl (sym h)
nth_in (y ∷ xs) (suc k) x e = inr (nth_in xs k x e)

own_within : (all q : List (List ℕ)) (shut : Bool) (t : Task) (kids : Forest) (s : Counts) (todo : List Action) → length (own_move all q shut t kids s todo) ≤ length todo
own_within all q shut t kids s [] = omega arith
own_within all q shut t kids s (a ∷ todo) = by (can all q shut t (top s) kids (below s) a.kind)
  where
    it : Move
    it = record { name = t.name; action = a; after = Count (suc (top s)) (below s) (beside s) }

    by : (b : Bool) → length (cond b (it ∷ []) []) ≤ suc (length todo)
    by true = omega arith
    by false = omega arith

moves_within : (all : List (List ℕ)) (p : Task) (n j : ℕ) (f : Forest) (s : Counts) → length (moves all p n j f s) ≤ left f s
moves_within all p n j Bare s = omega arith
moves_within all p n j (Node t kids rest) s =
    by (started p j n) (own_within all (queue p n j t (top s)) (closed p j n) t kids s (next t (top s))) (moves_within all t (top s) 0 kids (below s)) (moves_within all p n (suc j) rest (beside s))
  where
    own : List Move
    own = own_move all (queue p n j t (top s)) (closed p j n) t kids s (next t (top s))

    down : List Move
    down = moves all t (top s) 0 kids (below s)

    over : List Move
    over = moves all p n (suc j) rest (beside s)

    by : (b : Bool) → length own ≤ length (next t (top s)) → length down ≤ left kids (below s) → length over ≤ left rest (beside s)
        → length (cond b (own ++ map (move_below s) down) [] ++ map (move_beside s) over) ≤ length (next t (top s)) + left kids (below s) + left rest (beside s)
    by true x y z =
        let a : length ((own ++ map (move_below s) down) ++ map (move_beside s) over) ≡ length (own ++ map (move_below s) down) + length (map (move_beside s) over) =
        length-append (own ++ map (move_below s) down) (map (move_beside s) over) in
        let b : length (own ++ map (move_below s) down) ≡ length own + length (map (move_below s) down) = length-append own (map (move_below s) down) in
        let c : length (map (move_below s) down) ≡ length down = length_map (move_below s) down in
        let d : length (map (move_beside s) over) ≡ length over = length_map (move_beside s) over in
        omega (arith, a, b, c, d, x, y, z)
    by false x y z = let d : length (map (move_beside s) over) ≡ length over = length_map (move_beside s) over in omega (arith, d, x, y, z)

pub ready_is_within_left : ReadyIsWithinLeft
ready_is_within_left f s = moves_within (all_held f s) outside 1 0 f s

-- so at each step of a run
run_within : (f : Forest) (s : Counts) (picks : List ℕ) (n : ℕ) (x : Step) → In x (run f s picks n) → x.ready ≤ left f s
run_within f s picks zero x i = absurd i
run_within f s picks (suc n) x i = by (nth (all_moves f s) (place f s picks)) refl i (λ m j. run_within f m.after (later_picks picks) n x j)
  where
    rest : Move → List Step
    rest m = run f m.after (later_picks picks) n

    done : (m : Move) → nth (all_moves f s) (place f s picks) ≡ Some m → In x (record { ready = ready f s; picked = place f s picks; move = m } ∷ rest m)
        → ((m : Move) → In x (rest m) → x.ready ≤ left f m.after) → x.ready ≤ left f s
    done m e (inl h) later = let a : ready f s ≤ left f s = ready_is_within_left f s in let b : x.ready ≡ ready f s = ap (λ (z : Step). z.ready) h in omega (arith, a, b)
    done m e (inr h) later =
        let a : x.ready ≤ left f m.after = later m h in
        let b : suc (left f m.after) ≡ left f s = move_left (all_held f s) outside 1 0 f s m (nth_in (all_moves f s) (place f s picks) m e) in
        omega (arith, a, b)

    by_test : (m : Move) (b : Bool) → m.action.refuses ≡ b → nth (all_moves f s) (place f s picks) ≡ Some m → ((m : Move) → In x (rest m) → x.ready ≤ left f m.after) → x.ready ≤ left f s
    by_test m true r e later = absurd (subst (In x) (run_refused f s picks n m e r) i)
    by_test m false r e later = done m e (subst (In x) (run_step f s picks n m e r) i) later

    by : (o : Option Move) → nth (all_moves f s) (place f s picks) ≡ o → In x (step_at (length (all_moves f s)) (place f s picks) o rest)
        → ((m : Move) → In x (rest m) → x.ready ≤ left f m.after) → x.ready ≤ left f s
    by None e j later = absurd j
    by (Some m) e j later = by_test m m.action.refuses refl e later

-- and in what is noted of it
pub noted_within : (f : Forest) (picks : List ℕ) (n : ℕ) (x : Note) → In x (map note (run f Zeros picks n)) → x.ready ≤ work f
noted_within f picks n x i =
    let r = from_map note x (run f Zeros picks n) i in
    subst (λ (z : Note). z.ready ≤ work f) (sym r.2) (run_within f Zeros picks n r.0 r.1)

-- no state has more work left than all
left_most : (f : Forest) (s : Counts) → left f s ≤ work f
left_most Bare s = omega arith
left_most (Node t kids rest) s =
    let a : length (next t (top s)) ≡ length t.script - top s = length-drop (top s) t.script in
    let b : left kids (below s) ≤ left kids Zeros = left_most kids (below s) in
    let c : left rest (beside s) ≤ left rest Zeros = left_most rest (beside s) in
    omega (arith, a, b, c)

-- in a state that a run reaches, as many are ready as are in the tree in which a refusal ends its task, and that has no more work
pub ready_within_cut : (f : Forest) (e : Counts) (ms : List Move) → KeepsRules f → Leads f Zeros ms e → ready f e ≤ work (cut f)
ready_within_cut f e ms rules l =
    let a : ready (cut f) e ≤ left (cut f) e = ready_is_within_left (cut f) e in
    let b : left (cut f) e ≤ work (cut f) = left_most (cut f) e in
    let c : ready (cut f) e ≡ ready f e = ap length (same_moves f e ms rules l) in
    omega (arith, a, b, c)

-- ---- how long a run is

idle : (f : Forest) (s : Counts) (picks : List ℕ) (n : ℕ) → nth (all_moves f s) (place f s picks) ≡ None → run f s picks (suc n) ≡ []
idle f s picks n e = ap (λ o. step_at (length (all_moves f s)) (place f s picks) o (λ m. run f m.after (later_picks picks) n)) e

-- at most as many steps as there is work left
run_length : (f : Forest) (s : Counts) (picks : List ℕ) (n : ℕ) → length (run f s picks n) ≤ left f s
run_length f s picks zero = omega arith
run_length f s picks (suc n) = by (nth (all_moves f s) (place f s picks)) refl (λ m. run_length f m.after (later_picks picks) n)
  where
    by_test : (m : Move) (b : Bool) → m.action.refuses ≡ b → nth (all_moves f s) (place f s picks) ≡ Some m → length (run f m.after (later_picks picks) n) ≤ left f m.after
        → length (run f s picks (suc n)) ≤ left f s
    by_test m true r e l = let a : length (run f s picks (suc n)) ≡ 0 = ap length (run_refused f s picks n m e r) in omega (arith, a)
    by_test m false r e l =
        let a : length (run f s picks (suc n)) ≡ suc (length (run f m.after (later_picks picks) n)) = ap length (run_step f s picks n m e r) in
        let b : suc (left f m.after) ≡ left f s = move_left (all_held f s) outside 1 0 f s m (nth_in (all_moves f s) (place f s picks) m e) in
        omega (arith, a, b, l)

    by : (o : Option Move) → nth (all_moves f s) (place f s picks) ≡ o → ((m : Move) → length (run f m.after (later_picks picks) n) ≤ left f m.after) → length (run f s picks (suc n)) ≤ left f s
    by None e later = let a : length (run f s picks (suc n)) ≡ 0 = ap length (idle f s picks n e) in omega (arith, a)
    by (Some m) e later = by_test m m.action.refuses refl e (later m)

-- a longer run begins with it
run_begins : (f : Forest) (s : Counts) (picks : List ℕ) (n k : ℕ) → n ≤ k → take n (map note (run f s picks k)) ≡ map note (run f s picks n)
run_begins f s picks zero k l = refl
run_begins f s picks (suc n) zero l = absurd (omega (arith, l))
run_begins f s picks (suc n) (suc k) l = by (nth (all_moves f s) (place f s picks)) refl (λ m. run_begins f m.after (later_picks picks) n k (omega (arith, l)))
  where
    Begins : Type 0
    Begins = take (suc n) (map note (run f s picks (suc k))) ≡ map note (run f s picks (suc n))

    by_test : (m : Move) (b : Bool) → m.action.refuses ≡ b → nth (all_moves f s) (place f s picks) ≡ Some m
        → take n (map note (run f m.after (later_picks picks) k)) ≡ map note (run f m.after (later_picks picks) n) → Begins
    by_test m true r e h = ap (λ z. take (suc n) (map note z)) (run_refused f s picks k m e r) ∙ sym (ap (map note) (run_refused f s picks n m e r))
    by_test m false r e h =
        ap (λ z. take (suc n) (map note z)) (run_step f s picks k m e r) ∙ ap (λ z. note (record { ready = ready f s; picked = place f s picks; move = m }) ∷ z) h
        ∙ sym (ap (map note) (run_step f s picks n m e r))

    by : (o : Option Move) → nth (all_moves f s) (place f s picks) ≡ o
        → ((m : Move) → take n (map note (run f m.after (later_picks picks) k)) ≡ map note (run f m.after (later_picks picks) n)) → Begins
    by None e later = ap (λ z. take (suc n) (map note z)) (idle f s picks k e) ∙ sym (ap (map note) (idle f s picks n e))
    by (Some m) e later = by_test m m.action.refuses refl e (later m)

-- a run that takes as many steps as it may is the first of the trace
pub run_is_front : (f : Forest) (picks : List ℕ) (seen : List Note) → seen ≡ map note (run f Zeros picks (length seen)) → seen ≡ take (length seen) (trace f picks)
run_is_front f picks seen e =
    let a : length seen ≡ length (run f Zeros picks (length seen)) = ap length e ∙ length_map note (run f Zeros picks (length seen)) in
    let b : length (run f Zeros picks (length seen)) ≤ work f = run_length f Zeros picks (length seen) in
    e ∙ sym (run_begins f Zeros picks (length seen) (work f) (omega (arith, a, b)))
