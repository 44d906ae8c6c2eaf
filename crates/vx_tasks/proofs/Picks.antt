-- For a machine that walks the tree: where a pick falls among the moves, and how a run goes on.
use Rattle.std.proofs.Common.{◌≡◌, ℕ, zero, suc, ◌+◌, ◌%◌, ◌<◌, ◌⊎◌, Bool, true, false, List, [], ◌∷◌, ◌++◌, map, length, Some, refl, sym, ap, ◌∙◌, inl, ⊎_elim, arith, length-append}
use Rattle.vx_path.specs.Lists.{In}
use Rattle.vx_tasks.specs.Task.{Task, Forest, next, started, closed}
use Rattle.vx_tasks.specs.Task.Forest.{Node}
use Rattle.vx_tasks.specs.State.{Counts, top, below, beside, left, queue}
use Rattle.vx_tasks.specs.State.Counts.{Zeros}
use Rattle.vx_tasks.specs.Run.{Move, own_move, move_below, move_beside, moves, outside, all_held, all_moves, ready, Leads, Step, first_pick, later_picks, nth, step_at, run}
use Rattle.vx_tasks.specs.Rules.{KeepsRules}
use Rattle.vx_tasks.proofs.Steps.{move_left}
use Rattle.vx_tasks.proofs.Runs.{always_ready}

-- Places in lists.

pub nth_left : {A : Type 0} (xs ys : List A) (k : ℕ) → k < length xs → nth (xs ++ ys) k ≡ nth xs k
nth_left [] ys k h = absurd (omega arith)
nth_left (x ∷ xs) ys zero h = refl
nth_left (x ∷ xs) ys (suc k) h = nth_left xs ys k (omega arith)

pub nth_right : {A : Type 0} (xs ys : List A) (k i : ℕ) → k ≡ length xs + i → nth (xs ++ ys) k ≡ nth ys i
nth_right [] ys k i e = let h : k ≡ i = omega arith in ap (nth ys) h
nth_right (x ∷ xs) ys zero i e = absurd (omega arith)
nth_right (x ∷ xs) ys (suc k) i e = nth_right xs ys k i (omega arith)

pub nth_map : {A B : Type 0} (f : A → B) (xs : List A) (k : ℕ) (x : A) → nth xs k ≡ Some x → nth (map f xs) k ≡ Some (f x)
nth_map f [] k x e = cc
nth_map f (y ∷ xs) zero x e = let h : y ≡ x = cc in ap (λ z. Some (f z)) h
nth_map f (y ∷ xs) (suc k) x e = nth_map f xs k x e

pub nth_there : {A : Type 0} (xs : List A) (k : ℕ) → k < length xs → (x : A) × (nth xs k ≡ Some x)
nth_there [] k h = absurd (omega arith)
nth_there (x ∷ xs) zero h = (x, refl)
nth_there (x ∷ xs) (suc k) h = nth_there xs k (omega arith)

pub length_map : {A B : Type 0} (f : A → B) (xs : List A) → length (map f xs) ≡ length xs
length_map f [] = refl
length_map f (x ∷ xs) = ap suc (length_map f xs)

-- How many are ready at a node: itself, those below it, and those beside it.

-- 1 if the first task can do its next action
abbrev pub own_ready : List (List ℕ) → Task → ℕ → ℕ → Task → Forest → Counts → ℕ
own_ready all p n j t kids s = length (own_move all (queue p n j t (top s)) (closed p j n) t kids s (next t (top s)))

module _ (all : List (List ℕ)) (p : Task) (n j : ℕ) (t : Task) (kids rest : Forest) (s : Counts) where
  own : List Move
  own = own_move all (queue p n j t (top s)) (closed p j n) t kids s (next t (top s))

  down : List Move
  down = moves all t (top s) 0 kids (below s)

  over : List Move
  over = moves all p n (suc j) rest (beside s)

  pub ready_started : started p j n ≡ true
      → length (moves all p n j (Node t kids rest) s) ≡ own_ready all p n j t kids s + length (moves all t (top s) 0 kids (below s)) + length (moves all p n (suc j) rest (beside s))
  unfolding own down over
  ready_started g = rw g (length-append (own ++ map (move_below s) down) (map (move_beside s) over)
      ∙ ap (λ x. x + length (map (move_beside s) over)) (length-append own (map (move_below s) down) ∙ ap (λ x. length own + x) (length_map (move_below s) down))
      ∙ ap (λ x. length own + length down + x) (length_map (move_beside s) over))

  pub ready_not_started : started p j n ≡ false → length (moves all p n j (Node t kids rest) s) ≡ length (moves all p n (suc j) rest (beside s))
  unfolding own down over
  ready_not_started g = rw g (length_map (move_beside s) over)

  -- a pick at the task itself, below it, or beside it

  pub pick_own : started p j n ≡ true → (k : ℕ) → k < own_ready all p n j t kids s
      → nth (moves all p n j (Node t kids rest) s) k ≡ nth (own_move all (queue p n j t (top s)) (closed p j n) t kids s (next t (top s))) k
  unfolding own down over
  pick_own g k h = rw g (nth_left (own ++ map (move_below s) down) (map (move_beside s) over) k
      (let l : length (own ++ map (move_below s) down) ≡ length own + length (map (move_below s) down) = length-append own (map (move_below s) down) in omega arith)
      ∙ nth_left own (map (move_below s) down) k h)

  pub pick_below : started p j n ≡ true → (k i : ℕ) (d : Move) → k ≡ own_ready all p n j t kids s + i → i < length (moves all t (top s) 0 kids (below s))
      → nth (moves all t (top s) 0 kids (below s)) i ≡ Some d → nth (moves all p n j (Node t kids rest) s) k ≡ Some (move_below s d)
  unfolding own down over
  pick_below g k i d e l h = rw g (nth_left (own ++ map (move_below s) down) (map (move_beside s) over) k
      (let w : length (own ++ map (move_below s) down) ≡ length own + length (map (move_below s) down) = length-append own (map (move_below s) down) in
      let v : length (map (move_below s) down) ≡ length down = length_map (move_below s) down in omega arith)
      ∙ nth_right own (map (move_below s) down) k i e ∙ nth_map (move_below s) down i d h)

  pub pick_beside : started p j n ≡ true → (k i : ℕ) (d : Move) → k ≡ own_ready all p n j t kids s + length (moves all t (top s) 0 kids (below s)) + i
      → nth (moves all p n (suc j) rest (beside s)) i ≡ Some d → nth (moves all p n j (Node t kids rest) s) k ≡ Some (move_beside s d)
  unfolding own down over
  pick_beside g k i d e h = rw g (nth_right (own ++ map (move_below s) down) (map (move_beside s) over) k i
      (e ∙ ap (λ x. x + i) (sym (length-append own (map (move_below s) down) ∙ ap (λ x. length own + x) (length_map (move_below s) down))))
      ∙ nth_map (move_beside s) over i d h)

  pub pick_past : started p j n ≡ false → (k : ℕ) (d : Move) → nth (moves all p n (suc j) rest (beside s)) k ≡ Some d
      → nth (moves all p n j (Node t kids rest) s) k ≡ Some (move_beside s d)
  unfolding own down over
  pick_past g k d h = rw g (nth_map (move_beside s) over k d h)

-- How a run goes on.

-- the pick, as a place among the moves
abbrev pub place : Forest → Counts → List ℕ → ℕ
place f s picks = first_pick picks % length (all_moves f s)

pub run_step : (f : Forest) (s : Counts) (picks : List ℕ) (n : ℕ) (m : Move) → nth (all_moves f s) (place f s picks) ≡ Some m → m.action.refuses ≡ false
    → run f s picks (suc n) ≡ record { ready = ready f s; picked = place f s picks; move = m } ∷ run f m.after (later_picks picks) n
run_step f s picks n m e r =
    ap (λ o. step_at (ready f s) (place f s picks) o (λ d. run f d.after (later_picks picks) n)) e
    ∙ (let goes : Bool → List Step =
    λ b. elim b [ true ↦ [] | false ↦ record { ready = ready f s; picked = place f s picks; move = m } ∷ run f m.after (later_picks picks) n ] in
    ap goes r)

pub run_refused : (f : Forest) (s : Counts) (picks : List ℕ) (n : ℕ) (m : Move) → nth (all_moves f s) (place f s picks) ≡ Some m → m.action.refuses ≡ true
    → run f s picks (suc n) ≡ []
run_refused f s picks n m e r = rw (e, r) refl

pub run_done : (f : Forest) (s : Counts) (picks : List ℕ) (n : ℕ) → ready f s ≡ 0 → run f s picks n ≡ []
run_done f s picks zero h = refl
run_done f s picks (suc n) h = by_list (all_moves f s) refl
  where
    by_list : (ms : List Move) → all_moves f s ≡ ms → run f s picks (suc n) ≡ []
    by_list [] w = rw w refl
    by_list (m ∷ ms) w = absurd (let z : ready f s ≡ suc (length ms) = ap length w in omega arith)

-- nothing is ready exactly where nothing is left

pub none_ready : (f : Forest) (s : Counts) → left f s ≡ 0 → ready f s ≡ 0
none_ready f s h = by_list (all_moves f s) refl
  where
    by_list : (ms : List Move) → all_moves f s ≡ ms → length (all_moves f s) ≡ 0
    by_list [] w = ap length w
    by_list (m ∷ ms) w =
        let i : In m (all_moves f s) = rw w (inl refl) in
        absurd (let z : suc (left f m.after) ≡ left f s = move_left (all_held f s) outside 1 0 f s m i in omega arith)

pub ready_none : (f : Forest) (e : Counts) (ms : List Move) → KeepsRules f → Leads f Zeros ms e → ready f e ≡ 0 → left f e ≡ 0
ready_none f e ms rules l h = ⊎_elim (λ z. z) (λ z. absurd (let r : 0 < ready f e = always_ready f e ms rules l z in omega arith)) (zero_or (left f e))
  where
    zero_or : (n : ℕ) → (n ≡ 0) ⊎ (0 < n)
    zero_or n = grind arith
