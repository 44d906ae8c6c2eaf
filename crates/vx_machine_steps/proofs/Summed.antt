-- Sums over what is done.
use Rattle.std.proofs.Common.{◌≡◌, ◌+◌, ◌≤◌, ◌||◌, ◌∷◌, ◌++◌, ◌∙◌, ℕ, suc, Bool, List, length, refl, sym, ap, arith, []}
use Rattle.vx_path.specs.Lists.{In}
use Rattle.vx_tasks.specs.Task.{next}
use Rattle.vx_tasks.specs.State.{Zeros, left}
use Rattle.vx_plan.specs.PlanData.{Setting}
use Rattle.vx_model.specs.ChunkData.{ChunkData}
use Rattle.vx_machine_turns.specs.Acts.{Seed, Act, gifts, shut, births, born, raised_in, lowered_in}
use Rattle.vx_machine_turns.specs.Forms.{Form}
use Rattle.vx_machine_turns.specs.Fuels.{Fuel, spent, fuel, less}
use Rattle.vx_machine_turns.specs.Turns.{firsts}
use Rattle.vx_machine_turns.specs.Scripts.{script}
use Rattle.vx_named_tasks.specs.Names.{Outset}
use Rattle.vx_machine_turns.specs.Source.{seed_at}
use Rattle.vx_machine_turns.specs.Readings.{Reading, row_of, unread, raise_reading, lower_reading}
use Rattle.vx_machine_turns.specs.Plain.{plain, task_of, script_reading}
use Rattle.vx_machine_steps.specs.Laws.{Sums}
use Rattle.vx_machine_steps.specs.Moves.{Due, all_paths, TreeMove, tree_moves}
use Rattle.vx_machine_steps.specs.Runs.{Runs, acts_of, done}
use Rattle.vx_machine_steps.specs.Start.{start_at}
use Rattle.vx_machine_steps.specs.Tree.{Tree, Leaf, Work, ahead, read, counts, sprout_row, quiet, sprout, feed}
use Rattle.vx_machine_steps.proofs.Places.{Where, here, under, aside, which}
use Rattle.vx_machine_steps.proofs.Plain.{next_is}
use Rattle.vx_machine_steps.proofs.Seen.{Steps, steps_of, due_same}
use Rattle.vx_machine_steps.proofs.Trimmed.{top_trim, below_trim, beside_trim}

-- a reading that sums what each task's acts come to
abbrev pub summing : (List Act → ℕ) → Reading ℕ
summing f = record { none = 0; make = λ q acts kids rest. f acts + (kids + rest) }

-- a number that acts come to, one after the other
pub record Additive (f : List Act → ℕ) : Type 0 where
  pub nothing : f [] ≡ 0
  pub both : (xs ys : List Act) → f (xs ++ ys) ≡ f xs + f ys

sprout_done : (f : List Act → ℕ) → Additive f → (d : Fuel) (j : ℕ) (a : Act) (qs : List Seed) → done f (sprout d a j qs) ≡ 0
sprout_done f add spent j a qs = refl
sprout_done f add (fuel g) j a qs = along j qs (λ q fs. sprout_done f add (g q.type) 0 quiet fs)
  where
    along : (j : ℕ) (qs : List Seed) → ((q : Seed) (fs : List Seed) → done f (sprout (g q.type) quiet 0 fs) ≡ 0) → done f (sprout_row (λ q. sprout (g q.type) quiet 0) a j qs) ≡ 0
    along j [] deep = refl
    along j (q ∷ qs) deep =
        let u : f [] ≡ 0 = add.nothing in
        let v : done f (sprout (g q.type) quiet 0 (firsts q)) ≡ 0 = deep q (firsts q) in
        let w : done f (sprout_row (λ x. sprout (g x.type) quiet 0) a (suc j) qs) ≡ 0 = along (suc j) qs deep in
        rw (u, v, w) refl

fed_done : (f : List Act → ℕ) → Additive f → (d : Fuel) (j : ℕ) (a : Act) (ks : Tree) → done f (feed d a j ks) ≡ done f ks
fed_done f add d j a Leaf = sprout_done f add d j a a.starts
fed_done f add d j a (Work h ks r) = ap (λ z. f h.past + (done f ks + z)) (fed_done f add d (suc j) a r)

-- a move adds what its act comes to
move_done : (f : List Act → ℕ) → Additive f → (s : Setting) (all : List (List ℕ)) (d : Fuel) (t : Tree) (m : TreeMove) → In m (tree_moves s all d t)
    → done f m.after ≡ done f t + f (m.act ∷ [])
move_done f add s all d Leaf m i = absurd i
move_done f add s all d (Work h ks r) m i =
    by (which s all d h ks r m i) (λ x y. move_done f add s all (less d h.seed.type) ks x y) (λ x y. move_done f add s all d r x y)
  where
    at_own : (g : Due) → Steps s h g → done f (Work g.head (feed (less d h.seed.type) g.act 0 ks) r) ≡ f h.past + (done f ks + done f r) + f (g.act ∷ [])
    at_own g st =
        let p : f g.head.past ≡ f (h.past ++ (g.act ∷ [])) = ap f (due_same s h g st).2 in
        let b : f (h.past ++ (g.act ∷ [])) ≡ f h.past + f (g.act ∷ []) = add.both h.past (g.act ∷ []) in
        let e : done f (feed (less d h.seed.type) g.act 0 ks) ≡ done f ks = fed_done f add (less d h.seed.type) 0 g.act ks in
        omega arith

    by : Where s all d h ks r m → ((x : TreeMove) → In x (tree_moves s all (less d h.seed.type) ks) → done f x.after ≡ done f ks + f (x.act ∷ []))
        → ((x : TreeMove) → In x (tree_moves s all d r) → done f x.after ≡ done f r + f (x.act ∷ [])) → done f m.after ≡ f h.past + (done f ks + done f r) + f (m.act ∷ [])
    by (here o) down over = ap (done f) o.after_is ∙ at_own o.due_now (steps_of s h o.due_now o.due_is) ∙ ap (λ z. f h.past + (done f ks + done f r) + f (z ∷ [])) (sym o.act_is)
    by (under x y e) down over = let u : done f x.after ≡ done f ks + f (x.act ∷ []) = down x y in rw e (omega arith)
    by (aside x y e) down over = let u : done f x.after ≡ done f r + f (x.act ∷ []) = over x y in rw e (omega arith)

run_done : (f : List Act → ℕ) → Additive f → (s : Setting) (d : Fuel) (t e : Tree) (ms : List TreeMove) → Runs s d t ms e → done f e ≡ done f t + f (acts_of ms)
run_done f add s d t e [] w = let a : f [] ≡ 0 = add.nothing in let b : done f t ≡ done f e = ap (done f) w in omega arith
run_done f add s d t e (m ∷ ms) (i, r, more) =
    let a : done f e ≡ done f m.after + f (acts_of ms) = run_done f add s d m.after e ms more in
    let b : done f m.after ≡ done f t + f (m.act ∷ []) = move_done f add s (all_paths t) d t m i in
    let c : f (m.act ∷ acts_of ms) ≡ f (m.act ∷ []) + f (acts_of ms) = add.both (m.act ∷ []) (acts_of ms) in
    omega arith

done_within : (f : List Act → ℕ) → Additive f → (s : Setting) (d : Fuel) (j : ℕ) (acts : List Act) (t : Tree) → done f t ≤ read s (summing f) d j acts t
done_within f add s d j acts Leaf = omega arith
done_within f add s d j acts (Work h ks r) =
    let a : f (h.past ++ ahead s h (gifts j acts) (h.closed || shut j acts)) ≡ f h.past + f (ahead s h (gifts j acts) (h.closed || shut j acts)) =
    add.both h.past (ahead s h (gifts j acts) (h.closed || shut j acts)) in
    let b : done f ks ≤ read s (summing f) (less d h.seed.type) 0 (ahead s h (gifts j acts) (h.closed || shut j acts)) ks =
    done_within f add s (less d h.seed.type) 0 (ahead s h (gifts j acts) (h.closed || shut j acts)) ks in
    let c : done f r ≤ read s (summing f) d (suc j) acts r = done_within f add s d (suc j) acts r in
    omega arith

-- Where nothing is left, all is done.

no_acts : (k : ℕ) (acts : List Act) → length (plain k acts) ≡ 0 → acts ≡ []
no_acts k [] e = refl
no_acts k (a ∷ acts) e = absurd (omega arith)

unread_zero : (f : List Act → ℕ) → Additive f → (s : Setting) (d : Fuel) (j : ℕ) (qs : List Seed) (acts : List Act) → left (unread s script_reading d j qs acts) Zeros ≡ 0
    → unread s (summing f) d j qs acts ≡ 0
unread_zero f add s spent j qs acts e = refl
unread_zero f add s (fuel g) j qs acts e = along j qs e (λ q fs sc. unread_zero f add s (g q.type) 0 fs sc)
  where
    along : (j : ℕ) (qs : List Seed) → left (row_of s script_reading (λ q. unread s script_reading (g q.type) 0) j qs acts) Zeros ≡ 0
        → ((q : Seed) (fs : List Seed) (sc : List Act) → left (unread s script_reading (g q.type) 0 fs sc) Zeros ≡ 0 → unread s (summing f) (g q.type) 0 fs sc ≡ 0)
        → row_of s (summing f) (λ q. unread s (summing f) (g q.type) 0) j qs acts ≡ 0
    along j [] e deep = refl
    along j (q ∷ qs) e deep =
        let n : script s q.local (gifts j acts) (shut j acts) ≡ [] = no_acts (length (firsts q)) (script s q.local (gifts j acts) (shut j acts)) (omega arith) in
        let a : f (script s q.local (gifts j acts) (shut j acts)) ≡ 0 = ap f n ∙ add.nothing in
        let b : unread s (summing f) (g q.type) 0 (firsts q ++ births (script s q.local (gifts j acts) (shut j acts))) (script s q.local (gifts j acts) (shut j acts)) ≡ 0 =
        deep q (firsts q ++ births (script s q.local (gifts j acts) (shut j acts))) (script s q.local (gifts j acts) (shut j acts)) (omega arith) in
        let c : row_of s (summing f) (λ x. unread s (summing f) (g x.type) 0) (suc j) qs acts ≡ 0 = along (suc j) qs (omega arith) deep in
        omega arith

done_all : (f : List Act → ℕ) → Additive f → (s : Setting) (d : Fuel) (j : ℕ) (acts : List Act) (t : Tree) → left (read s script_reading d j acts t) (counts t) ≡ 0
    → done f t ≡ read s (summing f) d j acts t
done_all f add s d j acts Leaf e = sym (unread_zero f add s d j (births acts) acts e)
done_all f add s d j acts (Work h ks r) e =
    let z : length (next (task_of h.seed (h.past ++ A)) (length h.past)) + left (read s script_reading (less d h.seed.type) 0 A ks) (counts ks)
    + left (read s script_reading d (suc j) acts r) (counts r) ≡ 0 =
    rw (top_trim (length h.past) (counts ks) (counts r), below_trim (length h.past) (counts ks) (counts r), beside_trim (length h.past) (counts ks) (counts r)) at e in
    let x : length (next (task_of h.seed (h.past ++ A)) (length h.past)) ≡ 0 = omega (arith, z) in
    let y : left (read s script_reading (less d h.seed.type) 0 A ks) (counts ks) ≡ 0 = omega (arith, z) in
    let w : left (read s script_reading d (suc j) acts r) (counts r) ≡ 0 = omega (arith, z) in
    let n : f A ≡ 0 = ap f (no_acts (born h.past + length (firsts h.seed)) A (sym (ap length (next_is h.seed h.past A)) ∙ x)) ∙ add.nothing in
    let a : f (h.past ++ A) ≡ f h.past + f A = add.both h.past A in
    let b : done f ks ≡ read s (summing f) (less d h.seed.type) 0 A ks = done_all f add s (less d h.seed.type) 0 A ks y in
    let c : done f r ≡ read s (summing f) d (suc j) acts r = done_all f add s d (suc j) acts r w in
    omega (arith, n, a, b, c)
  where
    A : List Act
    A = ahead s h (gifts j acts) (h.closed || shut j acts)

pub sums : (f : List Act → ℕ) → Additive f → Sums f (summing f)
sums f add = record {
  grows = λ s d t e ms w. run_done f add s d t e ms w;
  within = λ s d t. done_within f add s d 0 [] t;
  ends = λ s d t e. done_all f add s d 0 [] t e;
}

raised_in-append : (xs ys : List Act) → raised_in (xs ++ ys) ≡ raised_in xs + raised_in ys
raised_in-append [] ys = omega arith
raised_in-append (a ∷ xs) ys = let e : raised_in (xs ++ ys) ≡ raised_in xs + raised_in ys = raised_in-append xs ys in omega arith

lowered_in-append : (xs ys : List Act) → lowered_in (xs ++ ys) ≡ lowered_in xs + lowered_in ys
lowered_in-append [] ys = omega arith
lowered_in-append (a ∷ xs) ys = let e : lowered_in (xs ++ ys) ≡ lowered_in xs + lowered_in ys = lowered_in-append xs ys in omega arith

raised_adds : Additive raised_in
raised_adds = record { nothing = refl; both = raised_in-append }

lowered_adds : Additive lowered_in
lowered_adds = record { nothing = refl; both = lowered_in-append }

pub sum_raised : Sums raised_in raise_reading
sum_raised = sums raised_in raised_adds

pub sum_lowered : Sums lowered_in lower_reading
sum_lowered = sums lowered_in lowered_adds

-- Nothing is done at the start.

start_done : (f : List Act → ℕ) → Additive f → (d : Fuel) (k : Form) (m : Bool) (o : Outset) (bs : List ChunkData) (fits : Bool) → done f (start_at d k m o bs fits) ≡ 0
start_done f add d k m o bs fits =
    let a : f [] ≡ 0 = add.nothing in
    let b : done f (sprout (less d (seed_at k m o).type) quiet 0 (firsts (seed_at k m o))) ≡ 0 = sprout_done f add (less d (seed_at k m o).type) 0 quiet (firsts (seed_at k m o)) in
    omega (arith, a, b)

pub raised_start : (d : Fuel) (k : Form) (m : Bool) (o : Outset) (bs : List ChunkData) (fits : Bool) → done raised_in (start_at d k m o bs fits) ≡ 0
raised_start d k m o bs fits = start_done raised_in raised_adds d k m o bs fits

pub lowered_start : (d : Fuel) (k : Form) (m : Bool) (o : Outset) (bs : List ChunkData) (fits : Bool) → done lowered_in (start_at d k m o bs fits) ≡ 0
lowered_start d k m o bs fits = start_done lowered_in lowered_adds d k m o bs fits

-- A move, whether it refuses or not, adds what its act does.
pub move_raised : (s : Setting) (all : List (List ℕ)) (d : Fuel) (t : Tree) (m : TreeMove) → In m (tree_moves s all d t) → done raised_in m.after ≡ done raised_in t + m.act.raises
move_raised s all d t m i = let a : done raised_in m.after ≡ done raised_in t + (m.act.raises + 0) = move_done raised_in raised_adds s all d t m i in omega (arith, a)
