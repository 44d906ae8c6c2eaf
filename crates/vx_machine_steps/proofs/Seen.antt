-- What is read off a state is the same after a move.
use Rattle.std.proofs.Common.{◌≡◌, ◌+◌, ◌≤◌, ◌⊎◌, ◌||◌, ◌∷◌, ◌++◌, ◌∙◌, ℕ, suc, Bool, true, false, List, length, refl, sym, ap, inl, inr, arith, append_assoc, append-nil, Some, None, []}
use Rattle.vx_tasks.specs.Task.{has}
use Rattle.vx_plan.specs.PlanData.{Setting, Item}
use Rattle.vx_machine_turns.specs.Acts.{Seed, Act, for_child, gifts, shut, births}
use Rattle.vx_machine_turns.specs.Fuels.{Fuel, spent, fuel, less}
use Rattle.vx_machine_turns.specs.Turns.{turn, firsts}
use Rattle.vx_machine_turns.specs.Scripts.{script}
use Rattle.vx_machine_turns.specs.Readings.{Reading, row_of, unread}
use Rattle.vx_machine_turns.specs.Tidy.{Spares}
use Rattle.vx_machine_turns.proofs.DutyLaws.{row_same, unread_same}
use Rattle.vx_machine_steps.specs.Moves.{take_first, take_more, end_first, end_more, Due, doing, due_more, due_todo, due}
use Rattle.vx_machine_steps.specs.Tree.{Head, Tree, Leaf, Work, further, ahead, read, sprout_row, quiet, sprout, feed}
use Rattle.vx_machine_steps.proofs.Plain.{or_assoc}

spared : (a : Act) (k : ℕ) (acts : List Act) → Spares a k → (i : ℕ) → k ≤ i → (gifts i acts ≡ gifts i (a ∷ acts)) × (shut i acts ≡ shut i (a ∷ acts))
spared a k acts h i l =
    let e : for_child i a.gives ≡ [] = (h i l).0 in
    let f : has i a.shuts ≡ false = (h i l).1 in
    (rw e refl, rw f refl)

-- a child that is born stands at the start of its script
pub sprouted : {F : Type 0} (s : Setting) (v : Reading F) (d : Fuel) (j : ℕ) (a : Act) (qs : List Seed) (acts : List Act) → Spares a (j + length qs)
    → read s v d j acts (sprout d a j qs) ≡ unread s v d j (qs ++ births acts) (a ∷ acts)
sprouted s v spent j a qs acts h = refl
sprouted s v (fuel g) j a qs acts h = along j qs h (λ q fs sc. sprouted s v (g q.type) 0 quiet fs sc (λ i l. (refl, refl))
    ∙ unread_same s v (g q.type) 0 (fs ++ births sc) (quiet ∷ sc) sc (λ i l. (refl, refl)))
  where
    along : (j : ℕ) (qs : List Seed) → Spares a (j + length qs)
        → ((q : Seed) (fs : List Seed) (sc : List Act) → read s v (g q.type) 0 sc (sprout (g q.type) quiet 0 fs) ≡ unread s v (g q.type) 0 (fs ++ births sc) sc)
        → read s v (fuel g) j acts (sprout_row (λ q. sprout (g q.type) quiet 0) a j qs) ≡ row_of s v (λ q. unread s v (g q.type) 0) j (qs ++ births acts) (a ∷ acts)
    along j [] h deep = row_same s v (λ q. unread s v (g q.type) 0) j (births acts) acts (a ∷ acts) (spared a j acts (λ i l. h i (omega arith)))
    along j (q ∷ qs) h deep =
        let sc : List Act = script s q.local (gifts j (a ∷ acts)) (shut j (a ∷ acts)) in
        ap (λ z. v.make q sc z (read s v (fuel g) (suc j) acts (sprout_row (λ x. sprout (g x.type) quiet 0) a (suc j) qs))) (deep q (firsts q) sc)
        ∙ ap (λ z. v.make q sc (unread s v (g q.type) 0 (firsts q ++ births sc) sc) z) (along (suc j) qs (λ i l. h i (omega arith)) deep)

-- the number of the first child that isn't started
abbrev pub rows : ℕ → Tree → ℕ
rows j Leaf = j
rows j (Work h ks r) = rows (suc j) r

-- what an act does to the children, it has done to what is read off them
pub fed : {F : Type 0} (s : Setting) (v : Reading F) (d : Fuel) (j : ℕ) (a : Act) (acts : List Act) (ks : Tree) → (d ≡ spent) ⊎ Spares a (rows j ks + length a.starts) → read s v d j (a ∷ acts) ks ≡ read s v d j acts (feed d a j ks)
fed s v d j a acts Leaf (inr h) = sym (sprouted s v d j a a.starts acts h)
fed s v d j a acts Leaf (inl h) = rw h refl
fed s v d j a acts (Work k ks r) h =
    let e : k.inbox ++ (for_child j a.gives ++ gifts j acts) ≡ (k.inbox ++ for_child j a.gives) ++ gifts j acts = sym (append_assoc k.inbox (for_child j a.gives) (gifts j acts)) in
    let f : (k.closed || (has j a.shuts || shut j acts)) ≡ (k.closed || has j a.shuts || shut j acts) = or_assoc k.closed (has j a.shuts) (shut j acts) in
    let g : read s v d (suc j) (a ∷ acts) r ≡ read s v d (suc j) acts (feed d a (suc j) r) = fed s v d (suc j) a acts r h in
    ap (λ z. v.make k.seed (k.past ++ (k.todo ++ further s k.over k.local z (k.closed || (has j a.shuts || shut j acts)))) (read s v (less d k.seed.type) 0 (k.todo ++ further s k.over k.local z (k.closed || (has j a.shuts || shut j acts))) ks) (read s v d (suc j) (a ∷ acts) r)) e
    ∙ ap (λ z. v.make k.seed (k.past ++ (k.todo ++ further s k.over k.local ((k.inbox ++ for_child j a.gives) ++ gifts j acts) z)) (read s v (less d k.seed.type) 0 (k.todo ++ further s k.over k.local ((k.inbox ++ for_child j a.gives) ++ gifts j acts) z) ks) (read s v d (suc j) (a ∷ acts) r)) f
    ∙ ap (λ z. v.make k.seed (k.past ++ (k.todo ++ further s k.over k.local ((k.inbox ++ for_child j a.gives) ++ gifts j acts) (k.closed || has j a.shuts || shut j acts))) (read s v (less d k.seed.type) 0 (k.todo ++ further s k.over k.local ((k.inbox ++ for_child j a.gives) ++ gifts j acts) (k.closed || has j a.shuts || shut j acts)) ks) (z)) g

-- How a head's next act comes: from its block, from an item, or from the end.
pub data Steps (s : Setting) (h : Head) (g : Due) : Type 0 where
  of_block : (a : Act) (bs : List Act) → h.todo ≡ a ∷ bs → g ≡ doing h a bs h.local h.over h.inbox → Steps s h g
  of_item : (x : Item) (xs : List Item) → h.todo ≡ [] → h.over ≡ false → h.inbox ≡ x ∷ xs
      → g ≡ doing h (take_first s h.local x) (take_more s h.local x) (turn s h.local x).after false xs → Steps s h g
  of_end : h.todo ≡ [] → h.over ≡ false → h.inbox ≡ [] → h.closed ≡ true
      → g ≡ doing h (end_first s h.local) (end_more s h.local) h.local true [] → Steps s h g

pub none_some : {A : Type 0} (x : A) → None ≡ Some x → ⊥
none_some x e = cc

pub some_is : {A : Type 0} (x y : A) → Some x ≡ Some y → y ≡ x
some_is x y e = cc

pub steps_of : (s : Setting) (h : Head) (g : Due) → due s h ≡ Some g → Steps s h g
steps_of s h g w = by h.todo refl
  where
    at_end : (o c : Bool) (xs : List Item) → h.todo ≡ [] → h.over ≡ o → h.inbox ≡ xs → h.closed ≡ c → due_more s h o xs c ≡ Some g → Steps s h g
    at_end true c xs t o i q v = absurd (none_some g v)
    at_end false c (x ∷ xs) t o i q v = of_item x xs t o i (some_is (doing h (take_first s h.local x) (take_more s h.local x) (turn s h.local x).after false xs) g v)
    at_end false true [] t o i q v = of_end t o i q (some_is (doing h (end_first s h.local) (end_more s h.local) h.local true []) g v)
    at_end false false [] t o i q v = absurd (none_some g v)

    by : (ts : List Act) → h.todo ≡ ts → Steps s h g
    by (a ∷ bs) e = of_block a bs e (some_is (doing h a bs h.local h.over h.inbox) g (ap (due_todo s h) (sym e) ∙ w))
    by [] e = at_end h.over h.closed h.inbox e refl refl refl (ap (due_todo s h) (sym e) ∙ w)

-- what a head does next is the first of what it does from now on

abbrev pub Ends : Head → List Item → Bool → Type 0
Ends h ys ended = h.closed ≡ true → (ys ≡ []) × (ended ≡ true)

pub due_ahead : (s : Setting) (h : Head) (g : Due) (ys : List Item) (ended : Bool) → Steps s h g → Ends h ys ended → ahead s h ys ended ≡ g.act ∷ ahead s g.head ys ended
due_ahead s h g ys ended (of_block a bs t w) k = rw (w, t) refl
due_ahead s h g ys ended (of_item x xs t o i w) k = rw (w, t, o, i) refl
due_ahead s h g ys ended (of_end t o i q w) k =
    let e : ys ≡ [] = (k q).0 in
    let f : ended ≡ true = (k q).1 in
    rw (w, t, o, i, e, f) (sym (append-nil (end_first s h.local ∷ end_more s h.local)))

pub due_same : (s : Setting) (h : Head) (g : Due) → Steps s h g → (g.head.closed ≡ h.closed) × (g.head.seed ≡ h.seed) × (g.head.past ≡ h.past ++ (g.act ∷ []))
due_same s h g (of_block a bs t w) = rw w (refl, refl, refl)
due_same s h g (of_item x xs t o i w) = rw w (refl, refl, refl)
due_same s h g (of_end t o i q w) = rw w (refl, refl, refl)

-- a head's own move
pub own_read : {F : Type 0} (s : Setting) (v : Reading F) (d : Fuel) (j : ℕ) (acts : List Act) (h : Head) (g : Due) (ks r : Tree) → Steps s h g → Ends h (gifts j acts) (h.closed || shut j acts)
    → (less d h.seed.type ≡ spent) ⊎ Spares g.act (rows 0 ks + length g.act.starts) → read s v d j acts (Work h ks r) ≡ read s v d j acts (Work g.head (feed (less d h.seed.type) g.act 0 ks) r)
own_read s v d j acts h g ks r st k sp =
    let e : ahead s h (gifts j acts) (h.closed || shut j acts) ≡ g.act ∷ ahead s g.head (gifts j acts) (h.closed || shut j acts) =
    due_ahead s h g (gifts j acts) (h.closed || shut j acts) st k in
    let c : g.head.closed ≡ h.closed = (due_same s h g st).0 in
    let m : g.head.seed ≡ h.seed = (due_same s h g st).1 in
    let p : g.head.past ≡ h.past ++ (g.act ∷ []) = (due_same s h g st).2 in
    let n : (h.past ++ (g.act ∷ [])) ++ ahead s g.head (gifts j acts) (h.closed || shut j acts) ≡ h.past ++ (g.act ∷ ahead s g.head (gifts j acts) (h.closed || shut j acts)) =
    append_assoc h.past (g.act ∷ []) (ahead s g.head (gifts j acts) (h.closed || shut j acts)) in
    let f : read s v (less d h.seed.type) 0 (g.act ∷ ahead s g.head (gifts j acts) (h.closed || shut j acts)) ks
    ≡ read s v (less d h.seed.type) 0 (ahead s g.head (gifts j acts) (h.closed || shut j acts)) (feed (less d h.seed.type) g.act 0 ks) =
    fed s v (less d h.seed.type) 0 g.act (ahead s g.head (gifts j acts) (h.closed || shut j acts)) ks sp in
    ap (λ z. v.make h.seed ((h.past ++ z)) (read s v (less d h.seed.type) 0 z ks) (read s v d (suc j) acts r)) e
    ∙ ap (λ z. v.make h.seed ((h.past ++ (g.act ∷ ahead s g.head (gifts j acts) (h.closed || shut j acts)))) z (read s v d (suc j) acts r)) f
    ∙ ap (λ z. v.make h.seed (z) (read s v (less d h.seed.type) 0 (ahead s g.head (gifts j acts) (h.closed || shut j acts)) (feed (less d h.seed.type) g.act 0 ks)) (read s v d (suc j) acts r)) (sym n)
    ∙ ap (λ z. v.make h.seed ((h.past ++ (g.act ∷ [])) ++ ahead s g.head (gifts j acts) (z || shut j acts)) (read s v (less d h.seed.type) 0 (ahead s g.head (gifts j acts) (z || shut j acts)) (feed (less d h.seed.type) g.act 0 ks)) (read s v d (suc j) acts r)) (sym c)
    ∙ ap (λ z. v.make h.seed (z ++ ahead s g.head (gifts j acts) (g.head.closed || shut j acts)) (read s v (less d h.seed.type) 0 (ahead s g.head (gifts j acts) (g.head.closed || shut j acts)) (feed (less d h.seed.type) g.act 0 ks)) (read s v d (suc j) acts r)) (sym p)
    ∙ ap (λ z. v.make z (g.head.past ++ ahead s g.head (gifts j acts) (g.head.closed || shut j acts)) (read s v (less d z.type) 0 (ahead s g.head (gifts j acts) (g.head.closed || shut j acts)) (feed (less d h.seed.type) g.act 0 ks)) (read s v d (suc j) acts r)) (sym m)
