-- How far births bring their pointers is among what is read off a state.
use Rattle.std.proofs.Common.{◌≡◌, ◌||◌, ◌∷◌, ◌++◌, ℕ, suc, List, refl, sym, subst, ⊎_elim, []}
use Rattle.vx_path.specs.Lists.{In}
use Rattle.vx_path.proofs.Lists.{in_left, in_right, in_cases}
use Rattle.vx_plan.specs.PlanData.{Setting}
use Rattle.vx_machine_turns.specs.Acts.{Seed, Act, gifts, shut, births}
use Rattle.vx_machine_turns.specs.Fuels.{Fuel, spent, fuel, less}
use Rattle.vx_machine_turns.specs.Turns.{firsts, start_indices}
use Rattle.vx_machine_turns.specs.Scripts.{script}
use Rattle.vx_machine_turns.specs.Readings.{row_of, unread, start_reading}
use Rattle.vx_machine_turns.specs.Plain.{task_of, script_reading}
use Rattle.vx_machine_turns.specs.Source.{named_acts, seed_at, outside_seed}
use Rattle.vx_machine_steps.specs.Laws.{BirthsWithin, StartOpens}
use Rattle.vx_machine_steps.specs.Moves.{Due, all_paths, TreeMove, tree_moves}
use Rattle.vx_machine_steps.specs.Stands.{Neat, AllNeat, Linked, closing}
use Rattle.vx_machine_steps.specs.Start.{root_at}
use Rattle.vx_machine_steps.specs.Tree.{Tree, Leaf, Work, ahead, read, opened_row, opened}
use Rattle.vx_machine_steps.proofs.Kept.{ends_of}
use Rattle.vx_machine_steps.proofs.Laws.{outside_neat}
use Rattle.vx_machine_steps.proofs.Places.{Where, here, under, aside, which}
use Rattle.vx_machine_steps.proofs.Seen.{Steps, steps_of, due_ahead}
use Rattle.vx_machine_steps.proofs.Start.{start_at_reads}

-- of children that are yet to come, the first of whom are these
unread_opens : (s : Setting) (d : Fuel) (j : ℕ) (qs more : List Seed) (acts : List Act) (x : ℕ) → In x (opened d qs) → In x (unread s start_reading d j (qs ++ more) acts)
unread_opens s spent j qs more acts x i = absurd i
unread_opens s (fuel g) j qs more acts x i = along j qs (λ q fs ns sc k. unread_opens s (g q.type) 0 fs ns sc x k) i
  where
    along : (j : ℕ) (qs : List Seed) → ((q : Seed) (fs ns : List Seed) (sc : List Act) → In x (opened (g q.type) fs) → In x (unread s start_reading (g q.type) 0 (fs ++ ns) sc))
        → In x (opened_row (λ q. opened (g q.type)) qs) → In x (row_of s start_reading (λ q. unread s start_reading (g q.type) 0) j (qs ++ more) acts)
    along j [] deep i = absurd i
    along j (q ∷ qs) deep i =
        let sc : List Act = script s q.local (gifts j acts) (shut j acts) in
        let kids : List ℕ = unread s start_reading (g q.type) 0 (firsts q ++ births sc) sc in
        let rest : List ℕ = row_of s start_reading (λ q. unread s start_reading (g q.type) 0) (suc j) (qs ++ more) acts in
        ⊎_elim (λ a. in_left x (start_indices q.local) (kids ++ rest) a)
        (λ a. in_right x (start_indices q.local) (kids ++ rest) (⊎_elim (λ b. in_left x kids rest (deep q (firsts q) (births sc) sc b)) (λ b. in_right x kids rest (along (suc j) qs deep b))
        (in_cases x (opened (g q.type) (firsts q)) (opened_row (λ q. opened (g q.type)) qs) a)))
        (in_cases x (start_indices q.local) (opened (g q.type) (firsts q) ++ opened_row (λ q. opened (g q.type)) qs) i)

-- and of those of a task that starts these with its next act
read_opens : (s : Setting) (d : Fuel) (j : ℕ) (qs : List Seed) (a : Act) (acts : List Act) (ks : Tree) (x : ℕ) → a.starts ≡ qs → In x (opened d qs) → In x (read s start_reading d j (a ∷ acts) ks)
read_opens s d j qs a acts Leaf x e i = subst (λ z. In x (unread s start_reading d j (z ++ births acts) (a ∷ acts))) (sym e) (unread_opens s d j qs (births acts) (a ∷ acts) x i)
read_opens s d j qs a acts (Work h ks r) x e i =
    let to_do : List Act = ahead s h (gifts j (a ∷ acts)) (h.closed || shut j (a ∷ acts)) in
    let kids : List ℕ = read s start_reading (less d h.seed.type) 0 to_do ks in
    let rest : List ℕ = read s start_reading d (suc j) (a ∷ acts) r in
    in_right x (start_indices h.seed.local) (kids ++ rest) (in_right x kids rest (read_opens s d (suc j) qs a acts r x e i))

births_in : (s : Setting) (all : List (List ℕ)) (d : Fuel) (ps : Seed) (pp acts : List Act) (j : ℕ) (t : Tree) (m : TreeMove) → In m (tree_moves s all d t)
    → Neat (task_of ps (pp ++ acts)) → AllNeat (read s script_reading d j acts t) → Linked d ps pp j t
    → (x : ℕ) → In x (opened m.room m.act.starts) → In x (read s start_reading d j acts t)
births_in s all d ps pp acts j Leaf m i neat nts k x w = absurd i
births_in s all d ps pp acts j (Work h ks r) m i neat (nown, nkids, nrest) (k, deep, beside) x w =
    by (which s all d h ks r m i)
    (λ y z v. births_in s all (less d h.seed.type) h.seed h.past to_do 0 ks y z nown nkids deep x v)
    (λ y z v. births_in s all d ps pp acts (suc j) r y z neat nrest beside x v)
  where
    to_do : List Act
    to_do = ahead s h (gifts j acts) (h.closed || shut j acts)

    below : List ℕ
    below = read s start_reading (less d h.seed.type) 0 to_do ks

    others : List ℕ
    others = read s start_reading d (suc j) acts r

    at_own : (g : Due) → Steps s h g → In x (opened (less d h.seed.type) g.act.starts) → In x (start_indices h.seed.local ++ (below ++ others))
    at_own g st v = in_right x (start_indices h.seed.local) (below ++ others) (in_left x below others
        (subst (λ z. In x (read s start_reading (less d h.seed.type) 0 z ks)) (sym (due_ahead s h g (gifts j acts) (h.closed || shut j acts) st (ends_of ps pp acts j h neat k.shut_is)))
        (read_opens s (less d h.seed.type) 0 g.act.starts g.act (ahead s g.head (gifts j acts) (h.closed || shut j acts)) ks x refl v)))

    by : Where s all d h ks r m → ((y : TreeMove) → In y (tree_moves s all (less d h.seed.type) ks) → In x (opened y.room y.act.starts) → In x below)
        → ((y : TreeMove) → In y (tree_moves s all d r) → In x (opened y.room y.act.starts) → In x others) → In x (start_indices h.seed.local ++ (below ++ others))
    by (here o) down over = at_own o.due_now (steps_of s h o.due_now o.due_is) (subst (λ z. In x (opened z o.due_now.act.starts)) o.room_is (subst (λ z. In x (opened m.room z.starts)) o.act_is w))
    by (under y z e) down over = in_right x (start_indices h.seed.local) (below ++ others) (in_left x below others (down y z (subst (λ v. In x (opened v.room v.act.starts)) e w)))
    by (aside y z e) down over = in_right x (start_indices h.seed.local) (below ++ others) (in_right x below others (over y z (subst (λ v. In x (opened v.room v.act.starts)) e w)))

pub births_within : BirthsWithin
births_within s d t m st i x w = births_in s (all_paths t) d outside_seed (closing ∷ []) [] 0 t m i outside_neat st.neat st.linked x w

pub start_opens : StartOpens
start_opens s d f m o bs fits x i = subst (λ z. In x z) (sym (start_at_reads start_reading s d f m o bs fits))
    (in_left x (unread s start_reading (less d (seed_at f m o).type) 0 (root_at f m o ∷ []) (named_acts o.names bs fits)) []
    (unread_opens s (less d (seed_at f m o).type) 0 (root_at f m o ∷ []) [] (named_acts o.names bs fits) x i))
