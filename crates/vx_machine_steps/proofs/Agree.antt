-- What is held and what is full, on the tree of scripts that is read off a state, as in the state itself.
use Rattle.std.proofs.Common.{◌≡◌, ◌+◌, ◌≤◌, ◌||◌, ◌∷◌, ◌++◌, ◌∙◌, ℕ, suc, Bool, true, false, cond, nat_eq, nat_le, get_or, List, map, length, drop, refl, ap, inl, inr, arith, drop_at, []}
use Rattle.std.proofs.lemmas.List.{map-append}
use Rattle.std.proofs.lemmas.Bool.Decides.{nat_tests}
use Rattle.vx_tasks.specs.Task.{Forest, sent, started, holds}
use Rattle.vx_tasks.specs.State.{Zeros, left_started, queue, full, held}
use Rattle.vx_tasks.specs.Run.{moves}
use Rattle.vx_plan.specs.PlanData.{Setting, Item}
use Rattle.vx_model.specs.Ty.{Ty}
use Rattle.vx_machine_turns.specs.Acts.{Seed, Act, gifts, shut, births, born}
use Rattle.vx_machine_turns.specs.Fuels.{Fuel, spent, fuel, less}
use Rattle.vx_machine_turns.specs.Turns.{firsts}
use Rattle.vx_machine_turns.specs.Readings.{row_of, unread}
use Rattle.vx_machine_turns.specs.Plain.{task_of, script_reading}
use Rattle.vx_machine_steps.specs.Moves.{holding, all_paths, is_full}
use Rattle.vx_machine_steps.specs.Stands.{LinkedHead, Linked}
use Rattle.vx_machine_steps.specs.Tree.{Head, Tree, Leaf, Work, ahead, read, counts}
use Rattle.vx_machine_steps.proofs.Kept.{Unborn}
use Rattle.vx_machine_steps.proofs.Plain.{sent_is, taken_is, holds_is, started_if, not_started}
use Rattle.vx_machine_steps.proofs.Trimmed.{top_trim, below_trim, beside_trim}

pub fuel_left : (g : Ty → Fuel) → fuel g ≡ spent → ⊥
fuel_left g e = cc

-- Children that aren't started.

row_held : (s : Setting) (deeper : Seed → List Seed → List Act → Forest) (j : ℕ) (qs : List Seed) (acts : List Act) (ps : Seed) (pp more : List Act) → length (firsts ps) + born pp ≤ j
    → held (task_of ps (pp ++ more)) (length pp) j (row_of s script_reading deeper j qs acts) Zeros ≡ []
row_held s deeper j [] acts ps pp more l = refl
row_held s deeper j (q ∷ qs) acts ps pp more l =
    let e : started (task_of ps (pp ++ more)) j (length pp) ≡ false = not_started ps pp more j l in
    rw e (row_held s deeper (suc j) qs acts ps pp more (omega arith))

pub row_left : (s : Setting) (deeper : Seed → List Seed → List Act → Forest) (j : ℕ) (qs : List Seed) (acts : List Act) (ps : Seed) (pp more : List Act) → length (firsts ps) + born pp ≤ j
    → left_started (task_of ps (pp ++ more)) (length pp) j (row_of s script_reading deeper j qs acts) Zeros ≡ 0
row_left s deeper j [] acts ps pp more l = refl
row_left s deeper j (q ∷ qs) acts ps pp more l =
    let e : started (task_of ps (pp ++ more)) j (length pp) ≡ false = not_started ps pp more j l in
    let f : left_started (task_of ps (pp ++ more)) (length pp) (suc j) (row_of s script_reading deeper (suc j) qs acts) Zeros ≡ 0 = row_left s deeper (suc j) qs acts ps pp more (omega arith) in
    rw (e, f) refl

pub row_moves : (s : Setting) (all : List (List ℕ)) (deeper : Seed → List Seed → List Act → Forest) (j : ℕ) (qs : List Seed) (acts : List Act) (ps : Seed) (pp more : List Act) → length (firsts ps) + born pp ≤ j
    → moves all (task_of ps (pp ++ more)) (length pp) j (row_of s script_reading deeper j qs acts) Zeros ≡ []
row_moves s all deeper j [] acts ps pp more l = refl
row_moves s all deeper j (q ∷ qs) acts ps pp more l =
    let e : started (task_of ps (pp ++ more)) j (length pp) ≡ false = not_started ps pp more j l in
    let f : moves all (task_of ps (pp ++ more)) (length pp) (suc j) (row_of s script_reading deeper (suc j) qs acts) Zeros ≡ [] = row_moves s all deeper (suc j) qs acts ps pp more (omega arith) in
    rw (e, f) refl

row_full : (s : Setting) (c : ℕ) (deeper : Seed → List Seed → List Act → Forest) (j : ℕ) (qs : List Seed) (acts : List Act) (ps : Seed) (pp more : List Act) → length (firsts ps) + born pp ≤ j
    → Unborn ps pp → full (task_of ps (pp ++ more)) (length pp) j (row_of s script_reading deeper j qs acts) Zeros c ≡ false
row_full s c deeper j [] acts ps pp more l u = refl
row_full s c deeper j (q ∷ qs) acts ps pp more l u =
    let e : sent (task_of ps (pp ++ more)) j (length pp) ≡ [] = sent_is ps pp more j ∙ ap (map (λ x. x.0)) (u j l).0 in
    let f : full (task_of ps (pp ++ more)) (length pp) (suc j) (row_of s script_reading deeper (suc j) qs acts) Zeros c ≡ false = row_full s c deeper (suc j) qs acts ps pp more (omega arith) u in
    rw (e, f) (neither (nat_eq j c) (get_or ps.spare j 0))
  where
    neither : (b : Bool) (n : ℕ) → cond b (nat_le (1 + n) 0) false ≡ false
    neither true n = grind (arith, nat_tests)
    neither false n = refl

-- Each word on a state.

pub firsts_length : (xs : List Item) → length (map (λ x. x.0) xs) ≡ length xs
firsts_length [] = refl
firsts_length (x ∷ xs) = ap suc (firsts_length xs)

pub queue_is : (ps : Seed) (pp more : List Act) (j : ℕ) (h : Head) (A : List Act) → LinkedHead ps pp j h
    → queue (task_of ps (pp ++ more)) (length pp) j (task_of h.seed (h.past ++ A)) (length h.past) ≡ map (λ x. x.0) h.inbox
queue_is ps pp more j h A k =
    ap (λ z. drop z (sent (task_of ps (pp ++ more)) j (length pp))) (taken_is h.seed h.past A ∙ k.count)
    ∙ ap (drop (length k.taken)) (sent_is ps pp more j ∙ ap (map (λ x. x.0)) k.split ∙ map-append (λ x. x.0) k.taken h.inbox)
    ∙ drop_at (map (λ x. x.0) k.taken) (map (λ x. x.0) h.inbox) (length k.taken) (firsts_length k.taken)

pub held_is : (s : Setting) (d : Fuel) (ps : Seed) (pp acts : List Act) (j : ℕ) (t : Tree) → Linked d ps pp j t
    → held (task_of ps (pp ++ acts)) (length pp) j (read s script_reading d j acts t) (counts t) ≡ all_paths t
held_is s spent ps pp acts j Leaf k = refl
held_is s (fuel g) ps pp acts j Leaf (inl e) = absurd (fuel_left g e)
held_is s (fuel g) ps pp acts j Leaf (inr e) = row_held s (λ q. unread s script_reading (g q.type) 0) j (births acts) acts ps pp acts (omega arith)
held_is s d ps pp acts j (Work h ks r) (k, deep, more) =
    let A : List Act = ahead s h (gifts j acts) (h.closed || shut j acts) in
    let st : started (task_of ps (pp ++ acts)) j (length pp) ≡ true = started_if ps pp acts j k.begun in
    let q : queue (task_of ps (pp ++ acts)) (length pp) j (task_of h.seed (h.past ++ A)) (length h.past) ≡ map (λ x. x.0) h.inbox = queue_is ps pp acts j h A k in
    let o : holds (task_of h.seed (h.past ++ A)) (length h.past) ≡ holding h = holds_is h.seed h.past A in
    let b : held (task_of h.seed (h.past ++ A)) (length h.past) 0 (read s script_reading (less d h.seed.type) 0 A ks) (counts ks) ≡ all_paths ks = held_is s (less d h.seed.type) h.seed h.past A 0 ks deep in
    let c : held (task_of ps (pp ++ acts)) (length pp) (suc j) (read s script_reading d (suc j) acts r) (counts r) ≡ all_paths r = held_is s d ps pp acts (suc j) r more in
    rw (top_trim (length h.past) (counts ks) (counts r), below_trim (length h.past) (counts ks) (counts r), beside_trim (length h.past) (counts ks) (counts r), st, q, o, b, c) refl

pub full_is : (s : Setting) (c : ℕ) (d : Fuel) (ps : Seed) (pp acts : List Act) (j : ℕ) (t : Tree) → Unborn ps pp → Linked d ps pp j t
    → full (task_of ps (pp ++ acts)) (length pp) j (read s script_reading d j acts t) (counts t) c ≡ is_full ps j t c
full_is s c spent ps pp acts j Leaf u k = refl
full_is s c (fuel g) ps pp acts j Leaf u (inl e) = absurd (fuel_left g e)
full_is s c (fuel g) ps pp acts j Leaf u (inr e) = row_full s c (λ q. unread s script_reading (g q.type) 0) j (births acts) acts ps pp acts (omega arith) u
full_is s c d ps pp acts j (Work h ks r) u (k, deep, more) =
    let A : List Act = ahead s h (gifts j acts) (h.closed || shut j acts) in
    let q : queue (task_of ps (pp ++ acts)) (length pp) j (task_of h.seed (h.past ++ A)) (length h.past) ≡ map (λ x. x.0) h.inbox = queue_is ps pp acts j h A k in
    let m : length (map (λ x. x.0) h.inbox) ≡ length h.inbox = firsts_length h.inbox in
    let f : full (task_of ps (pp ++ acts)) (length pp) (suc j) (read s script_reading d (suc j) acts r) (counts r) c ≡ is_full ps (suc j) r c = full_is s c d ps pp acts (suc j) r u more in
    rw (top_trim (length h.past) (counts ks) (counts r), beside_trim (length h.past) (counts ks) (counts r), q, m, f) refl
