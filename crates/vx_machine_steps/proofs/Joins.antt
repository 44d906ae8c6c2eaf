-- A join may be done where all below it has done all; then nothing is held there, and nothing is left.
use Rattle.std.proofs.Common.{◌≡◌, ◌+◌, ◌≤◌, ◌⊎◌, ◌||◌, ◌&&◌, ◌∷◌, ◌++◌, ◌∙◌, ℕ, suc, Bool, true, false, cond, not, nat_eq, List, map, length, refl, sym, ap, subst, inl, inr, arith, append-nil, []}
use Rattle.std.proofs.lemmas.List.{map-append}
use Rattle.std.proofs.lemmas.Bool.{cases_Bool}
use Rattle.std.proofs.lemmas.Bool.Decides.{nat_tests}
use Rattle.vx_tasks.specs.Task.{Task, Forest, Bare, Node, refuses_in, takes_in, next, past, started, holds, items, closes}
use Rattle.vx_tasks.specs.State.{Counts, Zeros, top, below, beside, left, left_started}
use Rattle.vx_tasks.specs.Rules.{Fits, Rules}
use Rattle.vx_tasks.proofs.Scripts.{no_true, closes_some_time}
use Rattle.vx_plan.specs.PlanData.{Setting, Item}
use Rattle.vx_machine_turns.specs.Acts.{Seed, Act, gifts, shut, births, born, takes, refuses, any_refuses}
use Rattle.vx_machine_turns.specs.Fuels.{Fuel, spent, fuel, less}
use Rattle.vx_machine_turns.specs.Turns.{firsts}
use Rattle.vx_machine_turns.specs.Readings.{row_of, unread}
use Rattle.vx_machine_turns.specs.Plain.{plain, task_of, script_reading}
use Rattle.vx_machine_steps.specs.Moves.{holding, all_paths, is_nil, all_over}
use Rattle.vx_machine_steps.specs.Stands.{Neat, AllNeat, LinkedHead, Linked, Clean}
use Rattle.vx_machine_steps.specs.Tree.{Head, Tree, Leaf, Work, further, ahead, read, counts}
use Rattle.vx_machine_steps.proofs.Agree.{fuel_left, row_left, firsts_length}
use Rattle.vx_machine_steps.proofs.Kept.{ends_of}
use Rattle.vx_machine_steps.proofs.Plain.{gifts-append, length-plain, given-plain, shuts-plain, takes-plain, next_is, closed_is, holds_is, started_if}
use Rattle.vx_machine_steps.proofs.Trimmed.{top_trim, below_trim, beside_trim}

nil_length : (k : ℕ) (xs : List Act) → nat_eq (length (plain k xs)) 0 ≡ is_nil xs
nil_length k [] = refl
nil_length k (a ∷ xs) = suc_not (length (plain (length a.starts + k) xs))
  where
    suc_not : (n : ℕ) → nat_eq (suc n) 0 ≡ false
    suc_not n = grind (arith, nat_tests)

-- where no more comes, a head has done all exactly where it has nothing ahead
nothing_ahead : (s : Setting) (h : Head) (ys : List Item) (ended : Bool) → ys ≡ [] → ended ≡ true → is_nil (ahead s h ys ended) ≡ (is_nil h.todo && h.over)
nothing_ahead s h ys ended e f = rw (e, f) (by h.todo h.over (h.inbox ++ []))
  where
    by : (ts : List Act) (o : Bool) (xs : List Item) → is_nil (ts ++ further s o h.local xs true) ≡ (is_nil ts && o)
    by (a ∷ ts) o xs = refl
    by [] true xs = refl
    by [] false [] = refl
    by [] false (x ∷ xs) = refl

nil_of : (xs : List Act) → is_nil xs ≡ true → xs ≡ []
nil_of [] e = refl
nil_of (x ∷ xs) e = absurd (no_true refl e)

no_sum : (x y z : ℕ) → nat_eq (x + y + z) 0 ≡ (nat_eq x 0 && nat_eq y 0 && nat_eq z 0)
no_sum x y z = grind (arith, nat_tests)

pub refuses-plain : (k : ℕ) (xs : List Act) → refuses_in (plain k xs) ≡ any_refuses xs
refuses-plain k [] = refl
refuses-plain k (a ∷ xs) = ap (λ z. refuses a || z) (refuses-plain (length a.starts + k) xs)

-- the queues of all children that p has started are closed
abbrev pub AllShut : Bool → Seed → List Act → List Act → Type 0
AllShut cut ps pp acts = (i : ℕ) (c : Task) → Fits cut (task_of ps (pp ++ acts)) i c → started (task_of ps (pp ++ acts)) i (length pp) ≡ true → shut i pp ≡ true

-- one that has done all and has been told its end has closed all queues
done_shut : (cut : Bool) (q : Seed) (past acts : List Act) → cut ≡ false → acts ≡ [] → any_refuses past ≡ false → AllShut cut q past acts
done_shut cut q past acts c e f i t fits st = by (cases_Bool (closes i (task_of q (past ++ acts))))
  where
    by : (closes i (task_of q (past ++ acts)) ≡ true) ⊎ (closes i (task_of q (past ++ acts)) ≡ false) → shut i past ≡ true
    by (inl h) = sym (shuts-plain i (length (firsts q)) (past ++ acts) ∙ ap (λ z. shut i (past ++ z)) e ∙ ap (shut i) (append-nil past)) ∙ h
    by (inr h) =
        let r : refuses_in (plain (length (firsts q)) (past ++ acts)) ≡ true = fits.open_refuses c h in
        let n : refuses_in (plain (length (firsts q)) (past ++ acts)) ≡ false =
        refuses-plain (length (firsts q)) (past ++ acts) ∙ ap (λ z. any_refuses (past ++ z)) e ∙ ap any_refuses (append-nil past) ∙ f in
        absurd (no_true n r)

-- Of a child of a task whose started children's queues are all closed.

module _ (s : Setting) (cut : Bool) (ps : Seed) (pp acts : List Act) (j : ℕ) (h : Head) (neat : Neat (task_of ps (pp ++ acts))) (k : LinkedHead ps pp j h)
    (fits : Fits cut (task_of ps (pp ++ acts)) j (task_of h.seed (h.past ++ ahead s h (gifts j acts) (h.closed || shut j acts)))) (sh : AllShut cut ps pp acts) where
  pub is_shut : h.closed ≡ true
  is_shut = k.shut_is ∙ sh j (task_of h.seed (h.past ++ ahead s h (gifts j acts) (h.closed || shut j acts))) fits (started_if ps pp acts j k.begun)

  pub closes_is : closes j (task_of ps (pp ++ acts)) ≡ true
  closes_is = closes_some_time (task_of ps (pp ++ acts)) j (length pp) (closed_is ps pp acts j ∙ sym k.shut_is ∙ is_shut)

  -- nothing is still to come to it
  pub none_come : gifts j acts ≡ []
  none_come = (ends_of ps pp acts j h neat k.shut_is is_shut).0

  -- it has nothing ahead exactly where it has done all
  pub none_ahead : is_nil (ahead s h (gifts j acts) (h.closed || shut j acts)) ≡ (is_nil h.todo && h.over)
  none_ahead = nothing_ahead s h (gifts j acts) (h.closed || shut j acts) none_come (ends_of ps pp acts j h neat k.shut_is is_shut).1

  pub ahead_nil : (is_nil h.todo && h.over) ≡ true → ahead s h (gifts j acts) (h.closed || shut j acts) ≡ []
  ahead_nil e = nil_of (ahead s h (gifts j acts) (h.closed || shut j acts)) (none_ahead ∙ e)

  -- once it has done all, its started children's queues are all closed
  pub shut_below : any_refuses h.past ≡ false → (is_nil h.todo && h.over) ≡ true
      → AllShut (not (closes j (task_of ps (pp ++ acts)))) h.seed h.past (ahead s h (gifts j acts) (h.closed || shut j acts))
  shut_below cl e = done_shut (not (closes j (task_of ps (pp ++ acts)))) h.seed h.past (ahead s h (gifts j acts) (h.closed || shut j acts)) (ap not closes_is) (ahead_nil e) cl

-- so a join may be done exactly where all below has done all
pub join_is : (s : Setting) (d : Fuel) (cut : Bool) (ps : Seed) (pp acts : List Act) (j : ℕ) (t : Tree) → Rules cut (task_of ps (pp ++ acts)) j (read s script_reading d j acts t) → Neat (task_of ps (pp ++ acts))
    → AllNeat (read s script_reading d j acts t) → Linked d ps pp j t → Clean t → AllShut cut ps pp acts
    → nat_eq (left_started (task_of ps (pp ++ acts)) (length pp) j (read s script_reading d j acts t) (counts t)) 0 ≡ all_over t
join_is s spent cut ps pp acts j Leaf rules neat nts k cl sh = refl
join_is s (fuel g) cut ps pp acts j Leaf rules neat nts (inl e) cl sh = absurd (fuel_left g e)
join_is s (fuel g) cut ps pp acts j Leaf rules neat nts (inr e) cl sh =
    let l : left_started (task_of ps (pp ++ acts)) (length pp) j (row_of s script_reading (λ q. unread s script_reading (g q.type) 0) j (births acts) acts) Zeros ≡ 0 = row_left s (λ q. unread s script_reading (g q.type) 0) j (births acts) acts ps pp acts (omega arith) in
    rw l refl
join_is s d cut ps pp acts j (Work h ks r) (fits, keeps, apart, deeper, others) neat (own, nkids, nrest) (k, deep, more) (cl, clk, clr) sh =
    rw (top_trim (length h.past) (counts ks) (counts r), below_trim (length h.past) (counts ks) (counts r), beside_trim (length h.past) (counts ks) (counts r), st)
    (no_sum (length (next (task_of h.seed (h.past ++ A)) (length h.past)))
    (left_started (task_of h.seed (h.past ++ A)) (length h.past) 0 (read s script_reading (less d h.seed.type) 0 A ks) (counts ks))
    (left_started (task_of ps (pp ++ acts)) (length pp) (suc j) (read s script_reading d (suc j) acts r) (counts r))
    ∙ parts _ _ _ (is_nil h.todo && h.over) (all_over ks) (all_over r) here_is
    (λ e. join_is s (less d h.seed.type) (not (closes j (task_of ps (pp ++ acts)))) h.seed h.past A 0 ks deeper own nkids deep clk
    (shut_below s cut ps pp acts j h neat k fits sh cl e))
    (join_is s d cut ps pp acts (suc j) r others neat nrest more clr sh))
  where
    A : List Act
    A = ahead s h (gifts j acts) (h.closed || shut j acts)

    st : started (task_of ps (pp ++ acts)) j (length pp) ≡ true
    st = started_if ps pp acts j k.begun

    here_is : nat_eq (length (next (task_of h.seed (h.past ++ A)) (length h.past))) 0 ≡ (is_nil h.todo && h.over)
    here_is = ap (λ z. nat_eq (length z) 0) (next_is h.seed h.past A) ∙ nil_length (born h.past + length (firsts h.seed)) A ∙ none_ahead s cut ps pp acts j h neat k fits sh

    parts : (x y z a b c : Bool) → x ≡ a → (a ≡ true → y ≡ b) → z ≡ c → (x && y && z) ≡ (a && b && c)
    parts x y z true b c e f g = rw (e, f refl, g) refl
    parts x y z false b c e f g = rw e refl

-- Where all have done all, nothing is held, and nothing is left.

both : (a b : Bool) → (a && b) ≡ true → (a ≡ true) × (b ≡ true)
both true true e = (refl, refl)
both true false e = absurd (no_true refl e)
both false b e = absurd (no_true refl e)

no_items : (xs ys : List (List ℕ)) → length (xs ++ ys) ≤ length xs → ys ≡ []
no_items [] [] l = refl
no_items [] (y ∷ ys) l = absurd (omega arith)
no_items (x ∷ xs) ys l = no_items xs ys (omega arith)

pub joined : (s : Setting) (d : Fuel) (cut : Bool) (ps : Seed) (pp acts : List Act) (j : ℕ) (t : Tree) → Rules cut (task_of ps (pp ++ acts)) j (read s script_reading d j acts t) → Neat (task_of ps (pp ++ acts))
    → AllNeat (read s script_reading d j acts t) → Linked d ps pp j t → Clean t → AllShut cut ps pp acts → all_over t ≡ true → all_paths t ≡ []
joined s d cut ps pp acts j Leaf rules neat nts k cl sh over = refl
joined s d cut ps pp acts j (Work h ks r) (fits, keeps, apart, deeper, others) neat (own, nkids, nrest) (k, deep, more) (cl, clk, clr) sh over =
    let x : map (λ z. z.0) h.inbox ≡ [] = inbox_is in
    let y : holding h ≡ [] = held_none in
    let z : all_paths ks ≡ [] = joined s (less d h.seed.type) (not (closes j (task_of ps (pp ++ acts)))) h.seed h.past A 0 ks deeper own nkids deep clk
    (shut_below s cut ps pp acts j h neat k fits sh cl over_here) below in
    let w : all_paths r ≡ [] = joined s d cut ps pp acts (suc j) r others neat nrest more clr sh beside in
    rw (x, y, z, w) refl
  where
    A : List Act
    A = ahead s h (gifts j acts) (h.closed || shut j acts)

    T : Task
    T = task_of h.seed (h.past ++ A)

    P : Task
    P = task_of ps (pp ++ acts)

    beside : all_over r ≡ true
    beside = (both (is_nil h.todo && h.over && all_over ks) (all_over r) over).1

    inner : ((is_nil h.todo && h.over) ≡ true) × (all_over ks ≡ true)
    inner = both (is_nil h.todo && h.over) (all_over ks) (both (is_nil h.todo && h.over && all_over ks) (all_over r) over).0

    over_here : (is_nil h.todo && h.over) ≡ true
    over_here = inner.0

    below : all_over ks ≡ true
    below = inner.1

    whole : h.past ++ A ≡ h.past
    whole = ap (λ z. h.past ++ z) (ahead_nil s cut ps pp acts j h neat k fits sh over_here) ∙ append-nil h.past

    refuses_no : refuses_in T.script ≡ false
    refuses_no = refuses-plain (length (firsts h.seed)) (h.past ++ A) ∙ ap any_refuses whole ∙ cl

    long : length T.script ≡ length h.past
    long = length-plain (length (firsts h.seed)) (h.past ++ A) ∙ ap length whole

    held_none : holding h ≡ []
    held_none = sym (holds_is h.seed h.past A) ∙ sym (ap (holds T) long) ∙ fits.at_end (closes_is s cut ps pp acts j h neat k fits sh) refuses_no

    items_are : items j P ≡ map (λ z. z.0) k.taken ++ map (λ z. z.0) h.inbox
    items_are = given-plain j (length (firsts ps)) (pp ++ acts)
        ∙ ap (map (λ z. z.0)) (gifts-append j pp acts ∙ ap (λ z. gifts j pp ++ z) (none_come s cut ps pp acts j h neat k fits sh) ∙ append-nil (gifts j pp) ∙ k.split)
        ∙ map-append (λ z. z.0) k.taken h.inbox

    takes_are : takes_in T.script ≡ length (map (λ z. z.0) k.taken)
    takes_are = takes-plain (length (firsts h.seed)) (h.past ++ A) ∙ ap takes whole ∙ k.count ∙ sym (firsts_length k.taken)

    inbox_is : map (λ z. z.0) h.inbox ≡ []
    inbox_is = no_items (map (λ z. z.0) k.taken) (map (λ z. z.0) h.inbox)
        (subst (λ z. length z ≤ length (map (λ z. z.0) k.taken)) items_are (subst (λ z. length (items j P) ≤ z) takes_are (fits.reads_all refuses_no)))

-- where the task above has done all
pub over_left : (s : Setting) (d : Fuel) (cut : Bool) (ps : Seed) (pp acts : List Act) (j : ℕ) (t : Tree) → acts ≡ [] → Rules cut (task_of ps (pp ++ acts)) j (read s script_reading d j acts t)
    → Neat (task_of ps (pp ++ acts)) → AllNeat (read s script_reading d j acts t) → Linked d ps pp j t → Clean t → AllShut cut ps pp acts → all_over t ≡ true
    → left (read s script_reading d j acts t) (counts t) ≡ 0
over_left s spent cut ps pp acts j Leaf e rules neat nts k cl sh over = refl
over_left s (fuel g) cut ps pp acts j Leaf e rules neat nts k cl sh over = rw e refl
over_left s d cut ps pp acts j (Work h ks r) e (fits, keeps, apart, deeper, others) neat (own, nkids, nrest) (k, deep, more) (cl, clk, clr) sh over =
    let a : ahead s h (gifts j acts) (h.closed || shut j acts) ≡ [] = ahead_nil s cut ps pp acts j h neat k fits sh inner.0 in
    let own_left : length (next (task_of h.seed (h.past ++ A)) (length h.past)) ≡ 0 =
    ap length (next_is h.seed h.past A) ∙ length-plain (born h.past + length (firsts h.seed)) A ∙ ap length a in
    let kids_left : left (read s script_reading (less d h.seed.type) 0 A ks) (counts ks) ≡ 0 =
    over_left s (less d h.seed.type) (not (closes j (task_of ps (pp ++ acts)))) h.seed h.past A 0 ks a deeper own nkids deep clk
    (shut_below s cut ps pp acts j h neat k fits sh cl inner.0) inner.1 in
    let rest_left : left (read s script_reading d (suc j) acts r) (counts r) ≡ 0 = over_left s d cut ps pp acts (suc j) r e others neat nrest more clr sh outer.1 in
    rw (top_trim (length h.past) (counts ks) (counts r), below_trim (length h.past) (counts ks) (counts r), beside_trim (length h.past) (counts ks) (counts r), own_left, kids_left, rest_left) (omega arith)
  where
    A : List Act
    A = ahead s h (gifts j acts) (h.closed || shut j acts)

    outer : ((is_nil h.todo && h.over && all_over ks) ≡ true) × (all_over r ≡ true)
    outer = both (is_nil h.todo && h.over && all_over ks) (all_over r) over

    inner : ((is_nil h.todo && h.over) ≡ true) × (all_over ks ≡ true)
    inner = both (is_nil h.todo && h.over) (all_over ks) outer.0

-- and back: what is left of started tasks is part of what is left
pub started_fewer : (p : Task) (n j : ℕ) (f : Forest) (s : Counts) → left_started p n j f s ≤ left f s
started_fewer p n j Bare s = omega arith
started_fewer p n j (Node t kids rest) s =
    by (started p j n) (started_fewer t (top s) 0 kids (below s)) (started_fewer p n (suc j) rest (beside s))
  where
    by : (b : Bool) → left_started t (top s) 0 kids (below s) ≤ left kids (below s) → left_started p n (suc j) rest (beside s) ≤ left rest (beside s)
        → cond b (length (next t (top s)) + left_started t (top s) 0 kids (below s)) 0 + left_started p n (suc j) rest (beside s)
        ≤ length (next t (top s)) + left kids (below s) + left rest (beside s)
    by true u v = omega arith
    by false u v = omega arith
