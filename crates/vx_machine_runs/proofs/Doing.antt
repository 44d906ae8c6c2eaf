-- What the tasks of a state have counted by now.
use Rattle.std.proofs.Common.{◌≡◌, ◌+◌, ◌⊎◌, ◌||◌, ◌∷◌, ◌++◌, ◌∙◌, ℕ, suc, List, length, refl, sym, ap, subst, inl, inr, ⊎_elim, arith, append_assoc, append-nil, []}
use Rattle.vx_model.specs.ChunkData.{ChunkData}
use Rattle.vx_path.specs.Lists.{In}
use Rattle.vx_named_tasks.specs.Names.{Outset, root_outset}
use Rattle.vx_path.specs.Path.{root_eof}
use Rattle.vx_path.proofs.Lists.{in_left, in_right, in_cases}
use Rattle.vx_tasks.specs.Task.{next}
use Rattle.vx_tasks.specs.State.{left}
use Rattle.vx_plan.specs.PlanData.{Setting}
use Rattle.vx_machine_turns.specs.Acts.{Seed, Act, numbers_in, indices_in, gifts, shut, born}
use Rattle.vx_machine_turns.specs.Fuels.{Fuel, spent, fuel, fuel_of, less}
use Rattle.vx_machine_turns.specs.Turns.{firsts, start_indices}
use Rattle.vx_machine_turns.specs.Readings.{unread}
use Rattle.vx_machine_turns.specs.Source.{seed_at}
use Rattle.vx_machine_turns.specs.Plain.{plain, task_of, script_reading}
use Rattle.vx_machine_turns.proofs.Fueled.{fuel_is_enough}
use Rattle.vx_machine_steps.specs.Tree.{Tree, Leaf, Work, ahead, read, counts, sprout_row, quiet, sprout, feed, opened_row, opened}
use Rattle.vx_machine_steps.specs.Start.{root_at, root_seed}
use Rattle.vx_machine_steps.specs.Moves.{Due, TreeMove, tree_moves}
use Rattle.vx_machine_steps.proofs.Places.{Where, here, under, aside, which}
use Rattle.vx_machine_steps.proofs.Plain.{next_is}
use Rattle.vx_machine_steps.proofs.Seen.{Steps, steps_of, due_same}
use Rattle.vx_machine_steps.proofs.Trimmed.{top_trim, below_trim, beside_trim}
use Rattle.vx_machine_promises.specs.Write.{Write, Future, begin_at, begin}
use Rattle.vx_machine_state.specs.Start.{first_indices}
use Rattle.vx_machine_view.specs.Whole.{form_of, root_depth}
use Rattle.vx_machine_view.proofs.Beginning.{opened_is}
use Rattle.vx_machine_view.proofs.Suiting.{forms_are_suited}
use Rattle.vx_machine_view.proofs.Words.{numbers_in-append}
use Rattle.vx_machine_runs.proofs.Covers.{counted_by, count_reading}

abbrev pub did : Tree → List ℕ
did Leaf = []
did (Work h ks r) = counted_by h.seed h.past ++ (did ks ++ did r)

-- ---- births

sprout_did : (d : Fuel) (j : ℕ) (a : Act) (qs : List Seed) → did (sprout d a j qs) ≡ opened d qs
sprout_did spent j a qs = refl
sprout_did (fuel g) j a qs = along j qs (λ q fs. sprout_did (g q.type) 0 quiet fs)
  where
    along : (j : ℕ) (qs : List Seed) → ((q : Seed) (fs : List Seed) → did (sprout (g q.type) quiet 0 fs) ≡ opened (g q.type) fs)
        → did (sprout_row (λ q. sprout (g q.type) quiet 0) a j qs) ≡ opened_row (λ q. opened (g q.type)) qs
    along j [] deep = refl
    along j (q ∷ qs) deep =
        ap (λ z. start_indices q.local ++ (z ++ did (sprout_row (λ x. sprout (g x.type) quiet 0) a (suc j) qs))) (deep q (firsts q))
        ∙ ap (λ z. start_indices q.local ++ (opened (g q.type) (firsts q) ++ z)) (along (suc j) qs deep)

-- ---- a move

-- in a list of three parts
three : (n : ℕ) (xs ys zs : List ℕ) → In n (xs ++ (ys ++ zs)) → In n xs ⊎ (In n ys ⊎ In n zs)
three n xs ys zs i = ⊎_elim (λ a. inl a) (λ a. inr (in_cases n ys zs a)) (in_cases n xs (ys ++ zs) i)

fed_did : (d : Fuel) (j : ℕ) (a : Act) (ks : Tree) (n : ℕ) → In n (did (feed d a j ks)) → In n (did ks) ⊎ In n (opened d a.starts)
fed_did d j a Leaf n i = inr (subst (λ z. In n z) (sprout_did d j a a.starts) i)
fed_did d j a (Work h ks r) n i = by (three n own (did ks) (did (feed d a (suc j) r)) i) (λ z. fed_did d (suc j) a r n z)
  where
    own : List ℕ
    own = counted_by h.seed h.past

    by : In n own ⊎ (In n (did ks) ⊎ In n (did (feed d a (suc j) r))) → (In n (did (feed d a (suc j) r)) → In n (did r) ⊎ In n (opened d a.starts)) → In n (own ++ (did ks ++ did r)) ⊎ In n (opened d a.starts)
    by (inl x) later = inl (in_left n own (did ks ++ did r) x)
    by (inr (inl x)) later = inl (in_right n own (did ks ++ did r) (in_left n (did ks) (did r) x))
    by (inr (inr x)) later = ⊎_elim (λ z. inl (in_right n own (did ks ++ did r) (in_right n (did ks) (did r) z))) (λ z. inr z) (later x)

indices_in-append : (xs ys : List Act) → indices_in (xs ++ ys) ≡ indices_in xs ++ indices_in ys
indices_in-append [] ys = refl
indices_in-append (a ∷ xs) ys = ap (λ z. a.indices ++ z) (indices_in-append xs ys) ∙ sym (append_assoc a.indices (indices_in xs) (indices_in ys))

-- one act more
act_did : (q : Seed) (past : List Act) (a : Act) (n : ℕ) → In n (counted_by q (past ++ (a ∷ []))) → In n (counted_by q past) ⊎ In n (a.numbers ++ a.indices)
act_did q past a n i = of_all (in_cases n (numbers_in (past ++ (a ∷ [])) ++ indices_in (past ++ (a ∷ []))) (start_indices q.local) i)
  where
    before : List ℕ
    before = numbers_in past ++ indices_in past

    old : In n before → In n (counted_by q past)
    old x = in_left n before (start_indices q.local) x

    of_numbers : In n (numbers_in (past ++ (a ∷ []))) → In n (counted_by q past) ⊎ In n (a.numbers ++ a.indices)
    of_numbers x = ⊎_elim (λ y. inl (old (in_left n (numbers_in past) (indices_in past) y)))
        (λ y. inr (in_left n a.numbers a.indices (subst (λ z. In n z) (append-nil a.numbers) y)))
        (in_cases n (numbers_in past) (a.numbers ++ []) (subst (λ z. In n z) (numbers_in-append past (a ∷ [])) x))

    of_indices : In n (indices_in (past ++ (a ∷ []))) → In n (counted_by q past) ⊎ In n (a.numbers ++ a.indices)
    of_indices x = ⊎_elim (λ y. inl (old (in_right n (numbers_in past) (indices_in past) y)))
        (λ y. inr (in_right n a.numbers a.indices (subst (λ z. In n z) (append-nil a.indices) y)))
        (in_cases n (indices_in past) (a.indices ++ []) (subst (λ z. In n z) (indices_in-append past (a ∷ [])) x))

    of_all : In n (numbers_in (past ++ (a ∷ [])) ++ indices_in (past ++ (a ∷ []))) ⊎ In n (start_indices q.local) → In n (counted_by q past) ⊎ In n (a.numbers ++ a.indices)
    of_all (inl x) = ⊎_elim of_numbers of_indices (in_cases n (numbers_in (past ++ (a ∷ []))) (indices_in (past ++ (a ∷ []))) x)
    of_all (inr x) = inl (in_right n before (start_indices q.local) x)

-- what a move counts
abbrev pub counted_in : TreeMove → List ℕ
counted_in m = m.act.numbers ++ (m.act.indices ++ opened m.room m.act.starts)

pub move_did : (s : Setting) (all : List (List ℕ)) (d : Fuel) (t : Tree) (m : TreeMove) → In m (tree_moves s all d t) → (n : ℕ) → In n (did m.after) → In n (did t) ⊎ In n (counted_in m)
move_did s all d Leaf m i n k = absurd i
move_did s all d (Work h ks r) m i n k =
    by (which s all d h ks r m i) (λ x y z. move_did s all (less d h.seed.type) ks x y n z) (λ x y z. move_did s all d r x y n z)
  where
    own : List ℕ
    own = counted_by h.seed h.past

    Then : List ℕ → Type 0
    Then ns = In n (own ++ (did ks ++ did r)) ⊎ In n ns

    at_own : (g : Due) → Steps s h g → In n (did (Work g.head (feed (less d h.seed.type) g.act 0 ks) r)) → Then (g.act.numbers ++ (g.act.indices ++ opened (less d h.seed.type) g.act.starts))
    at_own g st z = go (three n (counted_by g.head.seed g.head.past) (did (feed (less d h.seed.type) g.act 0 ks)) (did r) z)
      where
        births : List ℕ
        births = opened (less d h.seed.type) g.act.starts

        same : counted_by g.head.seed g.head.past ≡ counted_by h.seed (h.past ++ (g.act ∷ []))
        same = ap (λ y. counted_by y g.head.past) (due_same s h g st).1 ∙ ap (counted_by h.seed) (due_same s h g st).2

        new : In n (g.act.numbers ++ g.act.indices) → In n (g.act.numbers ++ (g.act.indices ++ births))
        new x = subst (λ y. In n y) (append_assoc g.act.numbers g.act.indices births) (in_left n (g.act.numbers ++ g.act.indices) births x)

        go : In n (counted_by g.head.seed g.head.past) ⊎ (In n (did (feed (less d h.seed.type) g.act 0 ks)) ⊎ In n (did r)) → Then (g.act.numbers ++ (g.act.indices ++ births))
        go (inl x) = ⊎_elim (λ y. inl (in_left n own (did ks ++ did r) y)) (λ y. inr (new y)) (act_did h.seed h.past g.act n (subst (λ y. In n y) same x))
        go (inr (inl x)) = ⊎_elim (λ y. inl (in_right n own (did ks ++ did r) (in_left n (did ks) (did r) y)))
            (λ y. inr (in_right n g.act.numbers (g.act.indices ++ births) (in_right n g.act.indices births y))) (fed_did (less d h.seed.type) 0 g.act ks n x)
        go (inr (inr x)) = inl (in_right n own (did ks ++ did r) (in_right n (did ks) (did r) x))

    by : Where s all d h ks r m → ((x : TreeMove) → In x (tree_moves s all (less d h.seed.type) ks) → In n (did x.after) → In n (did ks) ⊎ In n (counted_in x))
        → ((x : TreeMove) → In x (tree_moves s all d r) → In n (did x.after) → In n (did r) ⊎ In n (counted_in x)) → Then (counted_in m)
    by (here o) down over =
        subst (λ z. Then (z.numbers ++ (z.indices ++ opened m.room z.starts))) (sym o.act_is)
        (subst (λ z. Then (o.due_now.act.numbers ++ (o.due_now.act.indices ++ opened z o.due_now.act.starts))) (sym o.room_is)
        (at_own o.due_now (steps_of s h o.due_now o.due_is) (subst (λ z. In n (did z)) o.after_is k)))
    by (under x y e) down over = subst (λ z. Then (counted_in z)) (sym e) (go (three n own (did x.after) (did r) (subst (λ (z : TreeMove). In n (did z.after)) e k)))
      where
        go : In n own ⊎ (In n (did x.after) ⊎ In n (did r)) → Then (counted_in x)
        go (inl z) = inl (in_left n own (did ks ++ did r) z)
        go (inr (inl z)) = ⊎_elim (λ v. inl (in_right n own (did ks ++ did r) (in_left n (did ks) (did r) v))) (λ v. inr v) (down x y z)
        go (inr (inr z)) = inl (in_right n own (did ks ++ did r) (in_right n (did ks) (did r) z))
    by (aside x y e) down over = subst (λ z. Then (counted_in z)) (sym e) (go (three n own (did ks) (did x.after) (subst (λ (z : TreeMove). In n (did z.after)) e k)))
      where
        go : In n own ⊎ (In n (did ks) ⊎ In n (did x.after)) → Then (counted_in x)
        go (inl z) = inl (in_left n own (did ks ++ did r) z)
        go (inr (inl z)) = inl (in_right n own (did ks ++ did r) (in_left n (did ks) (did r) z))
        go (inr (inr z)) = ⊎_elim (λ v. inl (in_right n own (did ks ++ did r) (in_right n (did ks) (did r) v))) (λ v. inr v) (over x y z)

-- ---- where nothing is left, all is done

no_acts : (k : ℕ) (acts : List Act) → length (plain k acts) ≡ 0 → acts ≡ []
no_acts k [] e = refl
no_acts k (a ∷ acts) e = absurd (omega arith)

nothing_unread : (s : Setting) (d : Fuel) (j : ℕ) → unread s count_reading d j [] [] ≡ []
nothing_unread s spent j = refl
nothing_unread s (fuel g) j = refl

pub all_did : (s : Setting) (d : Fuel) (j : ℕ) (t : Tree) → left (read s script_reading d j [] t) (counts t) ≡ 0 → read s count_reading d j [] t ≡ did t
all_did s d j Leaf e = nothing_unread s d j
all_did s d j (Work h ks r) e =
    let z : length (next (task_of h.seed (h.past ++ A)) (length h.past)) + left (read s script_reading (less d h.seed.type) 0 A ks) (counts ks)
    + left (read s script_reading d (suc j) [] r) (counts r) ≡ 0 =
    rw (top_trim (length h.past) (counts ks) (counts r), below_trim (length h.past) (counts ks) (counts r), beside_trim (length h.past) (counts ks) (counts r)) at e in
    let x : length (next (task_of h.seed (h.past ++ A)) (length h.past)) ≡ 0 = omega (arith, z) in
    let y : left (read s script_reading (less d h.seed.type) 0 A ks) (counts ks) ≡ 0 = omega (arith, z) in
    let w : left (read s script_reading d (suc j) [] r) (counts r) ≡ 0 = omega (arith, z) in
    let n : A ≡ [] = no_acts (born h.past + length (firsts h.seed)) A (sym (ap length (next_is h.seed h.past A)) ∙ x) in
    let b : read s count_reading (less d h.seed.type) 0 [] ks ≡ did ks =
    all_did s (less d h.seed.type) 0 ks (subst (λ v. left (read s script_reading (less d h.seed.type) 0 v ks) (counts ks) ≡ 0) n y) in
    let c : read s count_reading d (suc j) [] r ≡ did r = all_did s d (suc j) r w in
    ap (λ v. counted_by h.seed (h.past ++ v) ++ (read s count_reading (less d h.seed.type) 0 v ks ++ read s count_reading d (suc j) [] r)) n
    ∙ ap (λ v. counted_by h.seed v ++ (read s count_reading (less d h.seed.type) 0 [] ks ++ read s count_reading d (suc j) [] r)) (append-nil h.past)
    ∙ ap (λ v. counted_by h.seed h.past ++ (v ++ read s count_reading d (suc j) [] r)) b
    ∙ ap (λ v. counted_by h.seed h.past ++ (did ks ++ v)) c
  where
    A : List Act
    A = ahead s h (gifts j []) (h.closed || shut j [])

-- ---- the start

-- how far pointers come there

pub opened_first_at : (g : Write) (o : Outset) → opened (root_depth g) (root_at (form_of g) g.mark o ∷ []) ≡ first_indices (form_of g) g.mark o.eof
opened_first_at g o =
    ap (λ z. start_indices (root_at (form_of g) g.mark o).local ++ z) (append-nil (opened (fuel_of (form_of g)) (firsts (root_at (form_of g) g.mark o))))
    ∙ opened_is (form_of g) g.mark (1 ∷ []) o.eof (fuel_of (form_of g)) (forms_are_suited g.way g.type) (fuel_is_enough g.way g.type).1

pub opened_first : (g : Write) → opened (root_depth g) (root_seed (form_of g) g.mark ∷ []) ≡ first_indices (form_of g) g.mark root_eof
opened_first g = opened_first_at g root_outset

pub start_did_at : (g : Write) (o : Outset) (taken : List ChunkData) (f : Future) → did (begin_at g o taken f) ≡ first_indices (form_of g) g.mark o.eof
start_did_at g o taken f =
    append-nil (did (sprout (root_depth g) quiet 0 (firsts (seed_at (form_of g) g.mark o))))
    ∙ sprout_did (root_depth g) 0 quiet (firsts (seed_at (form_of g) g.mark o)) ∙ opened_first_at g o

pub start_did : (g : Write) (taken : List ChunkData) (f : Future) → did (begin g taken f) ≡ first_indices (form_of g) g.mark root_eof
start_did g taken f = start_did_at g root_outset taken f
