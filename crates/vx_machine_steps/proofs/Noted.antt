-- What is noted of a run is what the theory notes.
use Rattle.std.proofs.Common.{◌≡◌, ◌+◌, ◌%◌, ◌⊎◌, ◌∷◌, ◌++◌, ◌∙◌, ℕ, zero, suc, true, List, map, length, refl, sym, ap, subst, inl, inr, arith, append-nil, Some, []}
use Rattle.vx_path.specs.Lists.{In}
use Rattle.vx_tasks.specs.State.{left}
use Rattle.vx_tasks.specs.Run.{all_moves, ready, work, Leads, first_pick, later_picks, nth, run, note}
use Rattle.vx_tasks.specs.Runs.{noted}
use Rattle.vx_tasks.proofs.Runs.{leads_left}
use Rattle.vx_tasks.proofs.Picks.{run_step, run_refused, run_done, none_ready, nth_map, length_map}
use Rattle.vx_plan.specs.PlanData.{Setting}
use Rattle.vx_machine_turns.specs.Acts.{refuses}
use Rattle.vx_machine_turns.specs.Fuels.{Fuel}
use Rattle.vx_machine_steps.specs.Laws.{NotesAgree, NotesGrow, NotesEnd}
use Rattle.vx_machine_steps.specs.Moves.{TreeMove, machine_moves, view}
use Rattle.vx_machine_steps.specs.Runs.{Runs, pick_of, RunsBy, notes, picks_after}
use Rattle.vx_machine_steps.specs.Stands.{Stands}
use Rattle.vx_machine_steps.specs.Tree.{Tree, forest, counts}
use Rattle.vx_machine_steps.proofs.Laws.{moves_agree, move_keeps, runs_lead}

nth_in : {A : Type 0} (xs : List A) (k : ℕ) (x : A) → nth xs k ≡ Some x → In x xs
nth_in [] k x e = cc
nth_in (y ∷ xs) zero x e = let h : y ≡ x = cc in inl (sym h)
nth_in (y ∷ xs) (suc k) x e = inr (nth_in xs k x e)

pub ready_is : (s : Setting) (d : Fuel) (t : Tree) → Stands s d t → ready (forest s d t) (counts t) ≡ length (machine_moves s d t)
ready_is s d t st = ap length (moves_agree s d t st) ∙ length_map view (machine_moves s d t)

place_is : (s : Setting) (d : Fuel) (t : Tree) (picks : List ℕ) → Stands s d t → first_pick picks % ready (forest s d t) (counts t) ≡ pick_of s d t picks
place_is s d t picks st = ap (λ z. first_pick picks % z) (ready_is s d t st)

-- the move of the theory that is picked
picked_is : (s : Setting) (d : Fuel) (t : Tree) (picks : List ℕ) (m : TreeMove) → Stands s d t → nth (machine_moves s d t) (pick_of s d t picks) ≡ Some m
    → nth (all_moves (forest s d t) (counts t)) (first_pick picks % ready (forest s d t) (counts t)) ≡ Some (view m)
picked_is s d t picks m st e =
    ap (λ z. nth (all_moves (forest s d t) (counts t)) z) (place_is s d t picks st) ∙ ap (λ z. nth z (pick_of s d t picks)) (moves_agree s d t st)
    ∙ nth_map view (machine_moves s d t) (pick_of s d t picks) m e

-- the theory's run goes the same way, and on from there
goes_on : (s : Setting) (d : Fuel) (t e : Tree) (picks : List ℕ) (ms : List TreeMove) (k : ℕ) → Stands s d t → RunsBy s d t picks ms e
    → map note (run (forest s d t) (counts t) picks (length ms + k)) ≡ notes s d t picks ms ++ map note (run (forest s d t) (counts e) (picks_after (length ms) picks) k)
goes_on s d t e picks [] k st w =
    ap (λ z. map note (run (forest s d t) (counts t) picks z)) (zero_more k) ∙ ap (λ z. map note (run (forest s d t) z picks k)) (ap counts w)
  where
    zero_more : (n : ℕ) → 0 + n ≡ n
    zero_more n = omega arith
goes_on s d t e picks (m ∷ ms) k st (n, f, more) =
    let x : (forest s d m.after ≡ forest s d t) × Stands s d m.after = move_keeps s d t m st (nth_in (machine_moves s d t) (pick_of s d t picks) m n) f in
    let r : run (forest s d t) (counts t) picks (suc (length ms + k)) ≡ record { ready = ready (forest s d t) (counts t); picked = first_pick picks % ready (forest s d t) (counts t); move = view m }
    ∷ run (forest s d t) (counts m.after) (later_picks picks) (length ms + k) =
    run_step (forest s d t) (counts t) picks (length ms + k) (view m) (picked_is s d t picks m st n) f in
    let i : map note (run (forest s d m.after) (counts m.after) (later_picks picks) (length ms + k))
    ≡ notes s d m.after (later_picks picks) ms ++ map note (run (forest s d m.after) (counts e) (picks_after (length ms) (later_picks picks)) k) =
    goes_on s d m.after e (later_picks picks) ms k x.1 more in
    ap (λ z. map note (run (forest s d t) (counts t) picks z)) (one_more (length ms) k)
    ∙ ap (map note) r
    ∙ ap (λ z. noted z (first_pick picks % z) m.name m.act.kind ∷ map note (run (forest s d t) (counts m.after) (later_picks picks) (length ms + k))) (ready_is s d t st)
    ∙ ap (λ z. noted (length (machine_moves s d t)) (pick_of s d t picks) m.name m.act.kind ∷ z)
    (subst (λ z. map note (run z (counts m.after) (later_picks picks) (length ms + k))
    ≡ notes s d m.after (later_picks picks) ms ++ map note (run z (counts e) (picks_after (length ms) (later_picks picks)) k)) x.0 i)
  where
    one_more : (n k : ℕ) → suc n + k ≡ suc (n + k)
    one_more n k = omega arith

runs_by : (s : Setting) (d : Fuel) (t e : Tree) (picks : List ℕ) (ms : List TreeMove) → RunsBy s d t picks ms e → Runs s d t ms e
runs_by s d t e picks [] w = w
runs_by s d t e picks (m ∷ ms) (n, f, more) = (nth_in (machine_moves s d t) (pick_of s d t picks) m n, f, runs_by s d m.after e (later_picks picks) ms more)

pub notes_agree : NotesAgree
notes_agree s d t e picks ms st w = (
  runs_by s d t e picks ms w,
  sym (ap (λ z. map note (run (forest s d t) (counts t) picks z)) (sym (no_more (length ms))) ∙ goes_on s d t e picks ms 0 st w ∙ append-nil (notes s d t picks ms)),
)
  where
    no_more : (n : ℕ) → n + 0 ≡ n
    no_more n = omega arith

pub notes_grow : NotesGrow
notes_grow s d t e picks [] m w n r =
    subst (λ z. nth (machine_moves s d z) (pick_of s d z picks) ≡ Some m
    → RunsBy s d t picks (m ∷ []) m.after × (notes s d t picks (m ∷ []) ≡ noted (length (machine_moves s d z)) (pick_of s d z picks) m.name m.act.kind ∷ [])) w
    (λ i. ((i, r, refl), refl)) n
notes_grow s d t e picks (x ∷ ms) m (i, f, more) n r =
    let g : RunsBy s d x.after (later_picks picks) (ms ++ (m ∷ [])) m.after
    × (notes s d x.after (later_picks picks) (ms ++ (m ∷ [])) ≡ notes s d x.after (later_picks picks) ms
    ++ (noted (length (machine_moves s d e)) (pick_of s d e (picks_after (length ms) (later_picks picks))) m.name m.act.kind ∷ [])) =
    notes_grow s d x.after e (later_picks picks) ms m more n r in
    ((i, f, g.0), ap (λ z. noted (length (machine_moves s d t)) (pick_of s d t picks) x.name x.act.kind ∷ z) g.1)

-- no step comes where nothing is left, or the one that is picked refuses

stops : (s : Setting) (d : Fuel) (e : Tree) (picks : List ℕ) (k : ℕ) → Stands s d e
    → (left (forest s d e) (counts e) ≡ 0) ⊎ ((m : TreeMove) × (nth (machine_moves s d e) (pick_of s d e picks) ≡ Some m) × (refuses m.act ≡ true))
    → run (forest s d e) (counts e) picks k ≡ []
stops s d e picks k st (inl z) = run_done (forest s d e) (counts e) picks k (none_ready (forest s d e) (counts e) z)
stops s d e picks zero st (inr x) = refl
stops s d e picks (suc k) st (inr (m, n, r)) = run_refused (forest s d e) (counts e) picks k (view m) (picked_is s d e picks m st n) r

-- the same of the scripts at the start
stops_at : (s : Setting) (d : Fuel) (t e : Tree) (picks : List ℕ) (k : ℕ) → Stands s d e → forest s d e ≡ forest s d t
    → (left (forest s d t) (counts e) ≡ 0) ⊎ ((m : TreeMove) × (nth (machine_moves s d e) (pick_of s d e picks) ≡ Some m) × (refuses m.act ≡ true))
    → run (forest s d t) (counts e) picks k ≡ []
stops_at s d t e picks k st same (inl z) = subst (λ f. run f (counts e) picks k ≡ []) same (stops s d e picks k st (inl (ap (λ f. left f (counts e)) same ∙ z)))
stops_at s d t e picks k st same (inr x) = subst (λ f. run f (counts e) picks k ≡ []) same (stops s d e picks k st (inr x))

pub notes_end : NotesEnd
notes_end s d t e picks ms st zero_is w ends =
    let r : Runs s d t ms e = runs_by s d t e picks ms w in
    let x : Leads (forest s d t) (counts t) (map view ms) (counts e) × (forest s d e ≡ forest s d t) × Stands s d e = runs_lead s d t e ms st r in
    let l : left (forest s d t) (counts e) + length (map view ms) ≡ left (forest s d t) (counts t) = leads_left (forest s d t) (counts t) (counts e) (map view ms) x.0 in
    let v : length (map view ms) ≡ length ms = length_map view ms in
    let c : left (forest s d t) (counts t) ≡ work (forest s d t) = ap (left (forest s d t)) zero_is in
    let n : length ms + left (forest s d t) (counts e) ≡ work (forest s d t) = omega (arith, l, v, c) in
    let z : run (forest s d t) (counts e) (picks_after (length ms) picks) (left (forest s d t) (counts e)) ≡ [] =
    stops_at s d t e (picks_after (length ms) picks) (left (forest s d t) (counts e)) x.2 x.1 ends in
    sym (ap (λ y. map note (run (forest s d t) y picks (work (forest s d t)))) (sym zero_is) ∙ ap (λ y. map note (run (forest s d t) (counts t) picks y)) (sym n)
    ∙ goes_on s d t e picks ms (left (forest s d t) (counts e)) st w ∙ ap (λ y. notes s d t picks ms ++ map note y) z ∙ append-nil (notes s d t picks ms))
