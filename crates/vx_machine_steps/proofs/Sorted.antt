-- What was appended are the first of all pairs, sorted by path.
use Rattle.std.proofs.Common.{◌≡◌, ◌+◌, ◌||◌, ◌∷◌, ◌++◌, ◌∙◌, ℕ, suc, true, List, map, length, refl, sym, ap, subst, inl, inr, arith, append-nil, [], ⊎_elim}
use Rattle.std.proofs.lemmas.List.{map-append}
use Rattle.vx_path.specs.Lists.{In}
use Rattle.vx_path.specs.Sort.{sort_by, sort}
use Rattle.vx_path.proofs.Path.{meets-refl}
use Rattle.vx_path.specs.Path.{meets}
use Rattle.vx_path.proofs.Lists.{in_cases, in_map}
use Rattle.vx_path.proofs.Sort.{from_sorted, map-sort_by}
use Rattle.vx_tasks.specs.Task.{Kind, Free, Take, TakeEnd, Put, Append, Join, Action, Forest, Bare, Node, appends_of, appends_in, next}
use Rattle.vx_tasks.specs.State.{Counts, Zeros, top, below, beside, left, pending}
use Rattle.vx_tasks.specs.Rules.{AtLeast, appends, KeepsOrder}
use Rattle.vx_tasks.specs.Run.{all_held, Leads, written}
use Rattle.vx_tasks.proofs.Scripts.{map_nil, no_true}
use Rattle.vx_tasks.proofs.Sorted.{numbered_run, all_covered}
use Rattle.vx_plan.specs.PlanData.{Setting, Pair, paths}
use Rattle.vx_machine_turns.specs.Acts.{Seed, Act, gifts, shut, births, written_by, wrote}
use Rattle.vx_machine_turns.specs.Fuels.{Fuel, spent, fuel, less}
use Rattle.vx_machine_turns.specs.Turns.{firsts}
use Rattle.vx_machine_turns.specs.Scripts.{script}
use Rattle.vx_machine_turns.specs.Readings.{row_of, unread, pair_reading}
use Rattle.vx_machine_turns.specs.Plain.{plain, script_reading}
use Rattle.vx_machine_steps.specs.Laws.{OneEach, ScatteredIsOne, AppendedFirst, AllSorted}
use Rattle.vx_machine_steps.specs.Moves.{all_paths, TreeMove, view}
use Rattle.vx_machine_steps.specs.Runs.{Runs, appended}
use Rattle.vx_machine_steps.specs.Stands.{Stands}
use Rattle.vx_machine_steps.specs.Tree.{Tree, Leaf, Work, ahead, read, forest, counts}
use Rattle.vx_machine_steps.proofs.Laws.{held_agrees, move_reads, move_keeps, runs_lead}
use Rattle.vx_machine_steps.proofs.Listed.{list_pairs}

of_kind : (k : Kind) (bytes : List ℕ) → appends_of k ≡ map (λ x. x.0) (written_by k bytes)
of_kind (Free w) bytes = refl
of_kind Take bytes = refl
of_kind TakeEnd bytes = refl
of_kind (Put c) bytes = refl
of_kind (Append p) bytes = refl
of_kind Join bytes = refl

wrote-plain : (k : ℕ) (xs : List Act) → appends_in (plain k xs) ≡ map (λ x. x.0) (wrote xs)
wrote-plain k [] = refl
wrote-plain k (a ∷ xs) =
    ap (λ z. z ++ appends_in (plain (length a.starts + k) xs)) (of_kind a.kind a.bytes)
    ∙ ap (λ z. map (λ x. x.0) (written_by a.kind a.bytes) ++ z) (wrote-plain (length a.starts + k) xs)
    ∙ sym (map-append (λ x. x.0) (written_by a.kind a.bytes) (wrote xs))

-- the paths of what is written are what the tree of scripts appends

made_paths : (k : ℕ) (xs : List Act) (a b : List (List ℕ)) (p q : List Pair) → a ≡ map (λ x. x.0) p → b ≡ map (λ x. x.0) q
    → appends_in (plain k xs) ++ (a ++ b) ≡ map (λ x. x.0) (wrote xs ++ (p ++ q))
made_paths k xs a b p q e f =
    let g : appends_in (plain k xs) ≡ map (λ x. x.0) (wrote xs) = wrote-plain k xs in
    rw (e, f, g) (ap (λ z. map (λ x. x.0) (wrote xs) ++ z) (sym (map-append (λ x. x.0) p q)) ∙ sym (map-append (λ x. x.0) (wrote xs) (p ++ q)))

unread_paths : (s : Setting) (d : Fuel) (j : ℕ) (qs : List Seed) (acts : List Act) → appends (unread s script_reading d j qs acts) ≡ map (λ x. x.0) (unread s pair_reading d j qs acts)
unread_paths s spent j qs acts = refl
unread_paths s (fuel g) j qs acts = along j qs (λ q fs sc. unread_paths s (g q.type) 0 fs sc)
  where
    along : (j : ℕ) (qs : List Seed)
        → ((q : Seed) (fs : List Seed) (sc : List Act) → appends (unread s script_reading (g q.type) 0 fs sc) ≡ map (λ x. x.0) (unread s pair_reading (g q.type) 0 fs sc))
        → appends (row_of s script_reading (λ q. unread s script_reading (g q.type) 0) j qs acts) ≡ map (λ x. x.0) (row_of s pair_reading (λ q. unread s pair_reading (g q.type) 0) j qs acts)
    along j [] deep = refl
    along j (q ∷ qs) deep =
        let sc : List Act = script s q.local (gifts j acts) (shut j acts) in
        made_paths (length (firsts q)) sc (appends (unread s script_reading (g q.type) 0 (firsts q ++ births sc) sc))
        (appends (row_of s script_reading (λ x. unread s script_reading (g x.type) 0) (suc j) qs acts))
        (unread s pair_reading (g q.type) 0 (firsts q ++ births sc) sc) (row_of s pair_reading (λ x. unread s pair_reading (g x.type) 0) (suc j) qs acts)
        (deep q (firsts q ++ births sc) sc) (along (suc j) qs deep)

read_paths : (s : Setting) (d : Fuel) (j : ℕ) (acts : List Act) (t : Tree) → appends (read s script_reading d j acts t) ≡ map (λ x. x.0) (read s pair_reading d j acts t)
read_paths s d j acts Leaf = unread_paths s d j (births acts) acts
read_paths s d j acts (Work h ks r) =
    let A : List Act = ahead s h (gifts j acts) (h.closed || shut j acts) in
    made_paths (length (firsts h.seed)) (h.past ++ A) (appends (read s script_reading (less d h.seed.type) 0 A ks)) (appends (read s script_reading d (suc j) acts r))
    (read s pair_reading (less d h.seed.type) 0 A ks) (read s pair_reading d (suc j) acts r) (read_paths s (less d h.seed.type) 0 A ks) (read_paths s d (suc j) acts r)

appended_paths : (ms : List TreeMove) → written (map view ms) ≡ map (λ x. x.0) (appended ms)
appended_paths [] = refl
appended_paths (m ∷ ms) =
    ap (λ z. z ++ written (map view ms)) (of_kind m.act.kind m.act.bytes) ∙ ap (λ z. map (λ x. x.0) (written_by m.act.kind m.act.bytes) ++ z) (appended_paths ms)
    ∙ sym (map-append (λ x. x.0) (written_by m.act.kind m.act.bytes) (appended ms))

-- what a run appends is among all pairs
appended_in : (s : Setting) (d : Fuel) (t e : Tree) (ms : List TreeMove) → Stands s d t → Runs s d t ms e → (x : Pair) → In x (appended ms) → In x (read s pair_reading d 0 [] t)
appended_in s d t e [] st w x i = absurd i
appended_in s d t e (m ∷ ms) st (i, f, more) x u = ⊎_elim
    (λ v. list_pairs s d t m st i x v)
    (λ v. subst (λ z. In x z) (move_reads s pair_reading d t m st i) (appended_in s d m.after e ms (move_keeps s d t m st i f).1 more x v))
    (in_cases x (written_by m.act.kind m.act.bytes) (appended ms) u)

none_pending : (f : Forest) (c : Counts) → left f c ≡ 0 → pending f c ≡ []
none_pending Bare c e = refl
none_pending (Node t kids rest) c e =
    let a : next t (top c) ≡ [] = no_length (next t (top c)) (omega arith) in
    let b : pending kids (below c) ≡ [] = none_pending kids (below c) (omega arith) in
    let d : pending rest (beside c) ≡ [] = none_pending rest (beside c) (omega arith) in
    rw (a, b, d) refl
  where
    no_length : (xs : List Action) → length xs ≡ 0 → xs ≡ []
    no_length [] e = refl
    no_length (x ∷ xs) e = absurd (omega arith)

-- lists of pairs that begin with the same paths begin with the same pairs
same_front : (ps xs ys : List Pair) (zs : List (List ℕ)) → OneEach ps → ((x : Pair) → In x xs → In x ps) → ((x : Pair) → In x ys → In x ps)
    → map (λ x. x.0) ys ≡ map (λ x. x.0) xs ++ zs → (more : List Pair) × (ys ≡ xs ++ more) × (map (λ x. x.0) more ≡ zs)
same_front ps [] ys zs one f g e = (ys, refl, e)
same_front ps (x ∷ xs) [] zs one f g e = absurd (differ e)
  where
    differ : [] ≡ x.0 ∷ (map (λ x. x.0) xs ++ zs) → ⊥
    differ e = cc
same_front ps (x ∷ xs) (y ∷ ys) zs one f g e =
    let a : y.0 ≡ x.0 = cc in
    let b : map (λ x. x.0) ys ≡ map (λ x. x.0) xs ++ zs = cc in
    let c : y ≡ x = one y x (g y (inl refl)) (f x (inl refl)) a in
    let r : (more : List Pair) × (ys ≡ xs ++ more) × (map (λ x. x.0) more ≡ zs) = same_front ps xs ys zs one (λ z i. f z (inr i)) (λ z i. g z (inr i)) b in
    (r.0, ap (λ z. z ∷ ys) c ∙ ap (λ z. x ∷ z) r.1, r.2)

pub scattered_is_one : ScatteredIsOne
scattered_is_one [] h x y i k e = absurd i
scattered_is_one (p ∷ ps) (apart, more) x y i k e = ⊎_elim
    (λ a. ⊎_elim (λ b. a ∙ sym b) (λ b. absurd (meet x y a b e)) k)
    (λ a. ⊎_elim (λ b. absurd (meet y x b a (sym e))) (λ b. scattered_is_one ps more x y a b e) k)
    i
  where
    in_paths : (z : Pair) (qs : List Pair) → In z qs → In z.0 (paths qs)
    in_paths z [] j = absurd j
    in_paths z (q ∷ qs) j = ⊎_elim (λ f. inl (ap (λ w. w.0) f)) (λ f. inr (in_paths z qs f)) j

    meet : (u v : Pair) → u ≡ p → In v ps → u.0 ≡ v.0 → ⊥
    meet u v f j g = no_true (apart v.0 (in_paths v ps j)) (subst (λ w. meets w v.0 ≡ true) (sym g ∙ ap (λ w. w.0) f) (meets-refl v.0))

-- all pairs in order of path: those that were appended, and those that are still to come
front : (s : Setting) (d : Fuel) (t e : Tree) (ms : List TreeMove) → Stands s d t → KeepsOrder (forest s d t) → counts t ≡ Zeros → Runs s d t ms e → OneEach (read s pair_reading d 0 [] t)
    → (more : List Pair) × (sort_by (λ x. x.0) (read s pair_reading d 0 [] t) ≡ appended ms ++ more) × (map (λ x. x.0) more ≡ sort (pending (forest s d t) (counts e)))
front s d t e ms st order zero_is runs one =
    let l : Leads (forest s d t) Zeros (map view ms) (counts e) = subst (λ z. Leads (forest s d t) z (map view ms) (counts e)) zero_is (runs_lead s d t e ms st runs).0 in
    let first : sort (appends (forest s d t)) ≡ written (map view ms) ++ sort (pending (forest s d t) (counts e)) =
    numbered_run (forest s d t) (counts e) (map view ms) st.rules order l in
    same_front (read s pair_reading d 0 [] t) (appended ms) (sort_by (λ x. x.0) (read s pair_reading d 0 [] t)) (sort (pending (forest s d t) (counts e))) one
    (λ x i. appended_in s d t e ms st runs x i) (λ x i. from_sorted (λ x. x.0) x (read s pair_reading d 0 [] t) i)
    (map-sort_by (λ x. x.0) (read s pair_reading d 0 [] t) ∙ ap sort (sym (read_paths s d 0 [] t)) ∙ first
    ∙ ap (λ z. z ++ sort (pending (forest s d t) (counts e))) (appended_paths ms))

pub appended_first : AppendedFirst
appended_first s d t e ms st order zero_is runs one =
    let p : (more : List Pair) × (sort_by (λ x. x.0) (read s pair_reading d 0 [] t) ≡ appended ms ++ more) × (map (λ x. x.0) more ≡ sort (pending (forest s d t) (counts e))) =
    front s d t e ms st order zero_is runs one in
    let k : Leads (forest s d t) (counts t) (map view ms) (counts e) × (forest s d e ≡ forest s d t) × Stands s d e = runs_lead s d t e ms st runs in
    let held : all_held (forest s d t) (counts e) ≡ all_paths e = ap (λ z. all_held z (counts e)) (sym k.1) ∙ held_agrees s d e k.2 in (
      p.0,
      p.1,
      λ x i. subst (λ z. AtLeast z x.0) held
          (all_covered (forest s d t) (counts e) st.rules order x.0
          (from_sorted (λ z. z) x.0 (pending (forest s d t) (counts e)) (subst (λ z. In x.0 z) p.2 (in_map (λ z. z.0) x p.0 i)))),
    )

pub all_sorted : AllSorted
all_sorted s d t e ms st order zero_is runs nothing one =
    let p : (more : List Pair) × (sort_by (λ x. x.0) (read s pair_reading d 0 [] t) ≡ appended ms ++ more) × (map (λ x. x.0) more ≡ sort (pending (forest s d t) (counts e))) =
    front s d t e ms st order zero_is runs one in
    let none : p.0 ≡ [] = map_nil (λ x. x.0) p.0 (p.2 ∙ ap sort (none_pending (forest s d t) (counts e) nothing)) in
    sym (p.1 ∙ ap (λ z. appended ms ++ z) none ∙ append-nil (appended ms))
