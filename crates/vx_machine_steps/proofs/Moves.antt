-- The moves of the machine are those of the theory.
use Rattle.std.proofs.Common.{◌≡◌, ◌+◌, ◌⊎◌, ◌||◌, ◌∷◌, ◌++◌, ◌∙◌, ℕ, suc, Bool, true, false, cond, not, nat_eq, List, map, length, refl, sym, ap, subst, inl, inr, arith, length-append, Option, Some, None, []}
use Rattle.std.proofs.lemmas.List.{map-append}
use Rattle.std.proofs.lemmas.Bool.{cases_Bool}
use Rattle.vx_path.specs.Lists.{In}
use Rattle.vx_tasks.specs.Task.{Kind, Free, Take, TakeEnd, Put, Append, Join, Task, Forest, next_kind, is_still, next, past, started, closed, closes}
use Rattle.vx_tasks.specs.State.{Counts, Count, top, below, beside, left_started, queue, full}
use Rattle.vx_tasks.specs.Rules.{Rules}
use Rattle.vx_tasks.specs.Run.{can, own_move, move_below, move_beside, moves}
use Rattle.vx_tasks.proofs.Scripts.{no_true, kind_some_time}
use Rattle.vx_plan.specs.PlanData.{Setting, Item}
use Rattle.vx_machine_turns.specs.Acts.{Seed, Act, gifts, shut, births, born}
use Rattle.vx_machine_turns.specs.Fuels.{Fuel, spent, fuel, less}
use Rattle.vx_machine_turns.specs.Turns.{turn, firsts}
use Rattle.vx_machine_turns.specs.Scripts.{script, is_taking, Calm}
use Rattle.vx_machine_turns.specs.Readings.{unread}
use Rattle.vx_machine_turns.specs.Plain.{plain_one, plain, task_of, script_reading}
use Rattle.vx_machine_steps.specs.Moves.{take_first, take_more, end_first, end_more, Due, doing, due_more, due_todo, due, all_over, is_full, may, TreeMove, move_own, in_kids, in_rest, tree_moves, view}
use Rattle.vx_machine_steps.specs.Stands.{Neat, AllNeat, Linked, Clean}
use Rattle.vx_machine_steps.specs.Tree.{Head, Tree, Leaf, Work, ahead, read, trim, counts, feed}
use Rattle.vx_machine_steps.proofs.Agree.{fuel_left, row_moves, queue_is, full_is}
use Rattle.vx_machine_steps.proofs.Joins.{AllShut, join_is}
use Rattle.vx_machine_steps.proofs.Kept.{ends_of, unborn_of}
use Rattle.vx_machine_steps.proofs.Places.{Where, here, under, aside, which}
use Rattle.vx_machine_steps.proofs.Plain.{next_is, closed_is, started_if}
use Rattle.vx_machine_steps.proofs.Seen.{Steps, of_block, of_item, of_end, steps_of, Ends, due_ahead, due_same}
use Rattle.vx_machine_steps.proofs.Trimmed.{top_trim, below_trim, beside_trim, IsCount, trim_kids, trim_rest, fed_counts}

-- A move leaves a state in which something is done.

past_count : (past : List Act) (a : Act) (k r : Counts) → trim (length (past ++ (a ∷ []))) k r ≡ Count (suc (length past)) k r
past_count past a k r = let e : length (past ++ (a ∷ [])) ≡ suc (length past) = length-append past (a ∷ []) ∙ one (length past) in rw e refl
  where
    one : (n : ℕ) → n + 1 ≡ suc n
    one n = omega arith

own_count : (s : Setting) (d : Fuel) (h : Head) (g : Due) (ks r : Tree) → Steps s h g
    → counts (Work g.head (feed d g.act 0 ks) r) ≡ Count (suc (length h.past)) (counts ks) (counts r)
own_count s d h g ks r st =
    let p : g.head.past ≡ h.past ++ (g.act ∷ []) = (due_same s h g st).2 in
    let f : counts (feed d g.act 0 ks) ≡ counts ks = fed_counts d 0 g.act ks in
    rw (p, f) (past_count h.past g.act (counts ks) (counts r))

is_count : (c : Counts) (n : ℕ) (k r : Counts) → c ≡ Count n k r → IsCount c
is_count c n k r e = rw e tt

pub counted : (s : Setting) (all : List (List ℕ)) (d : Fuel) (t : Tree) (m : TreeMove) → In m (tree_moves s all d t) → IsCount (counts m.after)
counted s all d Leaf m i = absurd i
counted s all d (Work h ks r) m i = by (which s all d h ks r m i) (λ x y. counted s all (less d h.seed.type) ks x y) (λ x y. counted s all d r x y)
  where
    by : Where s all d h ks r m → ((x : TreeMove) → In x (tree_moves s all (less d h.seed.type) ks) → IsCount (counts x.after)) → ((x : TreeMove) → In x (tree_moves s all d r) → IsCount (counts x.after))
        → IsCount (counts m.after)
    by (here o) down over = is_count (counts m.after) (suc (length h.past)) (counts ks) (counts r)
        (ap counts o.after_is ∙ own_count s (less d h.seed.type) h o.due_now ks r (steps_of s h o.due_now o.due_is))
    by (under x y e) down over = rw e (is_count (trim (length h.past) (counts x.after) (counts r)) (length h.past) (counts x.after) (counts r) (trim_kids (length h.past) (counts x.after) (counts r) (down x y)))
    by (aside x y e) down over = rw e (is_count (trim (length h.past) (counts ks) (counts x.after)) (length h.past) (counts ks) (counts x.after) (trim_rest (length h.past) (counts ks) (counts x.after) (over x y)))

-- where two functions agree on a list's elements
map_agree : {A B : Type 0} (f g : A → B) (xs : List A) → ((x : A) → In x xs → f x ≡ g x) → map f xs ≡ map g xs
map_agree f g [] h = refl
map_agree f g (x ∷ xs) h =
    let e : f x ≡ g x = h x (inl refl) in
    let k : map f xs ≡ map g xs = map_agree f g xs (λ y i. h y (inr i)) in
    rw (e, k) refl

map_twice : {A B C : Type 0} (f : B → C) (g : A → B) (xs : List A) → map f (map g xs) ≡ map (λ x. f (g x)) xs
map_twice f g [] = refl
map_twice f g (x ∷ xs) = ap (λ z. f (g x) ∷ z) (map_twice f g xs)

-- Where a head has no next action.

data Idle (h : Head) : Type 0 where
  finished : h.todo ≡ [] → h.over ≡ true → Idle h
  waits : h.todo ≡ [] → h.over ≡ false → h.inbox ≡ [] → h.closed ≡ false → Idle h

some_none : {A : Type 0} (x : A) → Some x ≡ None → ⊥
some_none x e = cc

idle_of : (s : Setting) (h : Head) → due s h ≡ None → Idle h
idle_of s h w = by h.todo refl
  where
    at_end : (o c : Bool) (xs : List Item) → h.todo ≡ [] → h.over ≡ o → h.inbox ≡ xs → h.closed ≡ c → due_more s h o xs c ≡ None → Idle h
    at_end true c xs t o i q v = finished t o
    at_end false c (x ∷ xs) t o i q v = absurd (some_none (doing h (take_first s h.local x) (take_more s h.local x) (turn s h.local x).after false xs) v)
    at_end false true [] t o i q v = absurd (some_none (doing h (end_first s h.local) (end_more s h.local) h.local true []) v)
    at_end false false [] t o i q v = waits t o i q

    by : (ts : List Act) → h.todo ≡ ts → Idle h
    by (a ∷ bs) e = absurd (some_none (doing h a bs h.local h.over h.inbox) (ap (due_todo s h) (sym e) ∙ w))
    by [] e = at_end h.over h.closed h.inbox e refl refl refl (ap (due_todo s h) (sym e) ∙ w)

idle_move : (s : Setting) (all : List (List ℕ)) (h : Head) (t : Task) (kids : Forest) (cs : Counts) (n : ℕ) (ys : List Item) (ended : Bool) → Idle h
    → own_move all (map (λ x. x.0) h.inbox) h.closed t kids cs (plain n (ahead s h ys ended)) ≡ []
idle_move s all h t kids cs n ys ended (finished u o) = rw (u, o) refl
idle_move s all h t kids cs n ys ended (waits u o i c) = rw (u, o, i, c) (by ys ended)
  where
    by : (xs : List Item) (e : Bool) → own_move all [] false t kids cs (plain n (script s h.local xs e)) ≡ []
    by [] true = refl
    by [] false = refl
    by (x ∷ xs) e = refl

-- Whether a next action may be done.

kind_may : (all q : List (List ℕ)) (shut : Bool) (t : Task) (m : ℕ) (kids : Forest) (cs : Counts) (seed : Seed) (ks : Tree) (k : Kind) → is_taking k ≡ false
    → ((c : ℕ) → full t m 0 kids cs c ≡ is_full seed 0 ks c) → (k ≡ Join → nat_eq (left_started t m 0 kids cs) 0 ≡ all_over ks)
    → can all q shut t m kids cs k ≡ may all seed ks k
kind_may all q shut t m kids cs seed ks (Free w) c f j = refl
kind_may all q shut t m kids cs seed ks Take c f j = absurd (no_true c refl)
kind_may all q shut t m kids cs seed ks TakeEnd c f j = absurd (no_true c refl)
kind_may all q shut t m kids cs seed ks (Put i) c f j = ap not (f i)
kind_may all q shut t m kids cs seed ks (Append x) c f j = refl
kind_may all q shut t m kids cs seed ks Join c f j = j refl

due_may : (s : Setting) (all : List (List ℕ)) (t : Task) (m : ℕ) (kids : Forest) (cs : Counts) (h : Head) (ks : Tree) (g : Due) → Steps s h g → Calm h.todo
    → ((c : ℕ) → full t m 0 kids cs c ≡ is_full h.seed 0 ks c) → (g.act.kind ≡ Join → nat_eq (left_started t m 0 kids cs) 0 ≡ all_over ks)
    → can all (map (λ x. x.0) h.inbox) h.closed t m kids cs g.act.kind ≡ may all h.seed ks g.act.kind
due_may s all t m kids cs h ks g (of_block a bs u w) calm f j =
    let c : Calm (a ∷ bs) = subst Calm u calm in
    let e : g.act ≡ a = ap (λ z. z.act) w in
    kind_may all (map (λ x. x.0) h.inbox) h.closed t m kids cs h.seed ks g.act.kind (ap (λ z. is_taking z.kind) e ∙ c.0) f j
due_may s all t m kids cs h ks g (of_item x xs u o i w) calm f j = rw (w, i) refl
due_may s all t m kids cs h ks g (of_end u o i q w) calm f j = rw (w, i, q) refl

-- A task that joins has closed the queues of all children that it has started.
pub join_shut : (cut : Bool) (q : Seed) (past : List Act) (a : Act) (more : List Act) → a.kind ≡ Join → AllShut cut q past (a ∷ more)
join_shut cut q past a more e i c fits st = by (cases_Bool (closes i t))
  where
    t : Task
    t = task_of q (past ++ (a ∷ more))

    still : next_kind is_still (next t (length past)) ≡ true
    still = ap (next_kind is_still) (next_is q past (a ∷ more)) ∙ ap is_still e

    by : (closes i t ≡ true) ⊎ (closes i t ≡ false) → shut i past ≡ true
    by (inl h) = sym (closed_is q past (a ∷ more) i) ∙ fits.closed_first (length past) still st h
    by (inr h) = absurd (no_true (fits.open_moves h) (kind_some_time is_still t (length past) still))

by_test : (b : Bool) (x : TreeMove) → cond b (view x ∷ []) [] ≡ map view (cond b (x ∷ []) [])
by_test true x = refl
by_test false x = refl

-- The law.
pub agree : (s : Setting) (all : List (List ℕ)) (d : Fuel) (cut : Bool) (ps : Seed) (pp acts : List Act) (j : ℕ) (t : Tree) → Rules cut (task_of ps (pp ++ acts)) j (read s script_reading d j acts t)
    → Neat (task_of ps (pp ++ acts)) → AllNeat (read s script_reading d j acts t) → Linked d ps pp j t → Clean t
    → moves all (task_of ps (pp ++ acts)) (length pp) j (read s script_reading d j acts t) (counts t) ≡ map view (tree_moves s all d t)
agree s all spent cut ps pp acts j Leaf rules neat nts k cl = refl
agree s all (fuel g) cut ps pp acts j Leaf rules neat nts (inl e) cl = absurd (fuel_left g e)
agree s all (fuel g) cut ps pp acts j Leaf rules neat nts (inr e) cl = row_moves s all (λ q. unread s script_reading (g q.type) 0) j (births acts) acts ps pp acts (omega arith)
agree s all d cut ps pp acts j (Work h ks r) (fits, keeps, apart, deeper, others) neat (own, nkids, nrest) (k, deep, more) (cl, clk, clr) =
    rw (top_trim (length h.past) (counts ks) (counts r), below_trim (length h.past) (counts ks) (counts r), beside_trim (length h.past) (counts ks) (counts r), begun, q, c)
    (ap (λ z. (own_move all (map (λ x. x.0) h.inbox) h.closed t kids st (next t (length h.past)) ++ map (move_below st) z)
    ++ map (move_beside st) (moves all (task_of ps (pp ++ acts)) (length pp) (suc j) (read s script_reading d (suc j) acts r) (counts r)))
    (agree s all (less d h.seed.type) (not (closes j (task_of ps (pp ++ acts)))) h.seed h.past A 0 ks deeper own nkids deep clk)
    ∙ ap (λ z. (own_move all (map (λ x. x.0) h.inbox) h.closed t kids st (next t (length h.past)) ++ map (move_below st) (map view (tree_moves s all (less d h.seed.type) ks))) ++ map (move_beside st) z)
    (agree s all d cut ps pp acts (suc j) r others neat nrest more clr)
    ∙ ap (λ z. (z ++ map (move_below st) (map view (tree_moves s all (less d h.seed.type) ks))) ++ map (move_beside st) (map view (tree_moves s all d r))) (own_part (due s h) refl)
    ∙ ap (λ z. (map view (move_own all d h ks r (due s h)) ++ z) ++ map (move_beside st) (map view (tree_moves s all d r))) below_part
    ∙ ap (λ z. (map view (move_own all d h ks r (due s h)) ++ map view (map (in_kids h r) (tree_moves s all (less d h.seed.type) ks))) ++ z) beside_part
    ∙ ap (λ z. z ++ map view (map (in_rest h ks) (tree_moves s all d r))) (sym (map-append view (move_own all d h ks r (due s h)) (map (in_kids h r) (tree_moves s all (less d h.seed.type) ks))))
    ∙ sym (map-append view (move_own all d h ks r (due s h) ++ map (in_kids h r) (tree_moves s all (less d h.seed.type) ks)) (map (in_rest h ks) (tree_moves s all d r))))
  where
    A : List Act
    A = ahead s h (gifts j acts) (h.closed || shut j acts)

    t : Task
    t = task_of h.seed (h.past ++ A)

    kids : Forest
    kids = read s script_reading (less d h.seed.type) 0 A ks

    st : Counts
    st = counts (Work h ks r)

    begun : started (task_of ps (pp ++ acts)) j (length pp) ≡ true
    begun = started_if ps pp acts j k.begun

    c : closed (task_of ps (pp ++ acts)) j (length pp) ≡ h.closed
    c = closed_is ps pp acts j ∙ sym k.shut_is

    q : queue (task_of ps (pp ++ acts)) (length pp) j (task_of h.seed (h.past ++ A)) (length h.past) ≡ map (λ x. x.0) h.inbox
    q = queue_is ps pp acts j h A k

    top_is : top st ≡ length h.past
    top_is = top_trim (length h.past) (counts ks) (counts r)

    below_is : below st ≡ counts ks
    below_is = below_trim (length h.past) (counts ks) (counts r)

    beside_is : beside st ≡ counts r
    beside_is = beside_trim (length h.past) (counts ks) (counts r)

    below_one : (x : TreeMove) → In x (tree_moves s all (less d h.seed.type) ks) → move_below st (view x) ≡ view (in_kids h r x)
    below_one x i = ap (λ z. record { name = x.name; action = plain_one x.before x.act; after = z })
        (rw (top_is, beside_is) (sym (trim_kids (length h.past) (counts x.after) (counts r) (counted s all (less d h.seed.type) ks x i))))

    beside_one : (x : TreeMove) → In x (tree_moves s all d r) → move_beside st (view x) ≡ view (in_rest h ks x)
    beside_one x i = ap (λ z. record { name = x.name; action = plain_one x.before x.act; after = z })
        (rw (top_is, below_is) (sym (trim_rest (length h.past) (counts ks) (counts x.after) (counted s all d r x i))))

    below_part : map (move_below st) (map view (tree_moves s all (less d h.seed.type) ks)) ≡ map view (map (in_kids h r) (tree_moves s all (less d h.seed.type) ks))
    below_part = map_twice (move_below st) view (tree_moves s all (less d h.seed.type) ks) ∙ map_agree (λ x. move_below st (view x)) (λ x. view (in_kids h r x)) (tree_moves s all (less d h.seed.type) ks) below_one
        ∙ sym (map_twice view (in_kids h r) (tree_moves s all (less d h.seed.type) ks))

    beside_part : map (move_beside st) (map view (tree_moves s all d r)) ≡ map view (map (in_rest h ks) (tree_moves s all d r))
    beside_part = map_twice (move_beside st) view (tree_moves s all d r) ∙ map_agree (λ x. move_beside st (view x)) (λ x. view (in_rest h ks x)) (tree_moves s all d r) beside_one
        ∙ sym (map_twice view (in_rest h ks) (tree_moves s all d r))

    ends : Ends h (gifts j acts) (h.closed || shut j acts)
    ends = ends_of ps pp acts j h neat k.shut_is

    full_now : (i : ℕ) → full t (length h.past) 0 kids (counts ks) i ≡ is_full h.seed 0 ks i
    full_now i = full_is s i (less d h.seed.type) h.seed h.past A 0 ks (unborn_of h.seed h.past A own) deep

    join_now : (a : Act) (rest : List Act) → A ≡ a ∷ rest → a.kind ≡ Join → nat_eq (left_started t (length h.past) 0 kids (counts ks)) 0 ≡ all_over ks
    join_now a rest e j' = join_is s (less d h.seed.type) (not (closes j (task_of ps (pp ++ acts)))) h.seed h.past A 0 ks deeper own nkids deep clk
        (subst (λ z. AllShut (not (closes j (task_of ps (pp ++ acts)))) h.seed h.past z) (sym e) (join_shut (not (closes j (task_of ps (pp ++ acts)))) h.seed h.past a rest j'))

    own_part : (o : Option Due) → due s h ≡ o → own_move all (map (λ x. x.0) h.inbox) h.closed t kids st (next t (length h.past)) ≡ map view (move_own all d h ks r o)
    own_part None e = ap (own_move all (map (λ x. x.0) h.inbox) h.closed t kids st) (next_is h.seed h.past A)
        ∙ idle_move s all h t kids st (born h.past + length (firsts h.seed)) (gifts j acts) (h.closed || shut j acts) (idle_of s h e)
    own_part (Some g) e =
        let sg : Steps s h g = steps_of s h g e in
        let w : A ≡ g.act ∷ ahead s g.head (gifts j acts) (h.closed || shut j acts) = due_ahead s h g (gifts j acts) (h.closed || shut j acts) sg ends in
        ap (own_move all (map (λ x. x.0) h.inbox) h.closed t kids st) (next_is h.seed h.past A ∙ ap (plain (born h.past + length (firsts h.seed))) w)
        ∙ ap (λ z. cond z (record { name = h.seed.name; action = plain_one (born h.past + length (firsts h.seed)) g.act; after = Count (suc (top st)) (below st) (beside st) } ∷ []) [])
        (rw (top_is, below_is) (due_may s all t (length h.past) kids (counts ks) h ks g sg k.calm full_now (λ j'. join_now g.act (ahead s g.head (gifts j acts) (h.closed || shut j acts)) w j')))
        ∙ ap (λ z. cond (may all h.seed ks g.act.kind) (record { name = h.seed.name; action = plain_one (born h.past + length (firsts h.seed)) g.act; after = z } ∷ []) [])
        (rw (top_is, below_is, beside_is) (sym (own_count s (less d h.seed.type) h g ks r sg)))
        ∙ by_test (may all h.seed ks g.act.kind) (record { name = h.seed.name; act = g.act; before = born h.past + length (firsts h.seed); room = less d h.seed.type; after = Work g.head (feed (less d h.seed.type) g.act 0 ks) r })
