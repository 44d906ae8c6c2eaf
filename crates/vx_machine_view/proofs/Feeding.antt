-- What an act does to children, on both sides.
use Rattle.std.proofs.Common.{◌≡◌, ◌+◌, ◌≤◌, ◌<◌, ◌||◌, ◌∷◌, ◌++◌, ◌∙◌, ℕ, zero, suc, Bool, true, false, not, cond, nat_eq, nat_lt, nat_le, get_or, List, length, refl, sym, ap, subst, arith, append-nil, []}
use Rattle.std.proofs.lemmas.Bool.Decides.{nat_tests}
use Rattle.vx_model.specs.Ty.{Ty}
use Rattle.vx_tasks.specs.Task.{has}
use Rattle.vx_plan.specs.PlanData.{Setting, Item, row_total, rows_in}
use Rattle.vx_machine_turns.specs.Acts.{Seed, Act, for_child, gifts}
use Rattle.vx_machine_turns.specs.Turns.{firsts}
use Rattle.vx_machine_turns.specs.Fuels.{Fuel, spent, fuel}
use Rattle.vx_machine_steps.specs.Tree.{Head, Tree, Leaf, Work, fresh, quiet, sprout, feed, opened}
use Rattle.vx_machine_steps.specs.Moves.{is_full}
use Rattle.vx_machine_state.specs.State.{Desk, Tasks, no_tasks, task_then}
use Rattle.vx_machine_state.specs.Acts.{count, add, give, with_item, shut_all, shut_desk}
use Rattle.vx_machine_state.specs.Moves.{has_room}
use Rattle.vx_machine_state.specs.Typed.{Typed, AllTyped}
use Rattle.vx_machine_view.specs.Shows.{Alike, Shows, rows_of, types_of, local_rows, task_rows}
use Rattle.vx_machine_view.proofs.Words.{no_cons, or_nothing, or_all}

-- ---- nothing

pub sprout_none : (d : Fuel) (a : Act) (j : ℕ) → sprout d a j [] ≡ Leaf
sprout_none spent a j = refl
sprout_none (fuel g) a j = refl

pub opened_none : (d : Fuel) → opened d [] ≡ []
opened_none spent = refl
opened_none (fuel g) = refl

-- a head that is given these, and whose queue is closed then
abbrev pub fed : Head → List Item → Bool → Head
fed h xs b = record { seed = h.seed; past = h.past; todo = h.todo; local = h.local; over = h.over; inbox = h.inbox ++ xs; closed = h.closed || b }

pub fed_none : (h : Head) → fed h [] false ≡ h
fed_none h =
    ap (λ z. let k : Head = record { seed = h.seed; past = h.past; todo = h.todo; local = h.local; over = h.over; inbox = z; closed = h.closed || false } in k) (append-nil h.inbox)
    ∙ ap (λ z. let k : Head = record { seed = h.seed; past = h.past; todo = h.todo; local = h.local; over = h.over; inbox = h.inbox; closed = z } in k) (or_nothing h.closed)

-- an act that does nothing to the children from number j on
pub record Leaves (a : Act) (j : ℕ) : Type 0 where
  pub gives : (i : ℕ) → j ≤ i → for_child i a.gives ≡ []
  pub shuts : (i : ℕ) → j ≤ i → has i a.shuts ≡ false
  pub starts : a.starts ≡ []

pub feed_none : (d : Fuel) (a : Act) (j : ℕ) (t : Tree) → Leaves a j → feed d a j t ≡ t
feed_none d a j Leaf l = ap (sprout d a j) l.starts ∙ sprout_none d a j
feed_none d a j (Work h ks r) l =
    ap (λ z. Work (fed h z (has j a.shuts)) ks (feed d a (suc j) r)) (l.gives j (omega arith))
    ∙ ap (λ z. Work (fed h [] z) ks (feed d a (suc j) r)) (l.shuts j (omega arith))
    ∙ ap (λ z. Work z ks (feed d a (suc j) r)) (fed_none h)
    ∙ ap (Work h ks) (feed_none d a (suc j) r (record { gives = λ i k. l.gives i (omega arith); shuts = λ i k. l.shuts i (omega arith); starts = l.starts }))

-- ---- what never changes where nothing is started

pub feed_types : (d : Fuel) (a : Act) (j : ℕ) (t : Tree) → a.starts ≡ [] → types_of (feed d a j t) ≡ types_of t
feed_types d a j Leaf e = ap types_of (ap (sprout d a j) e ∙ sprout_none d a j)
feed_types d a j (Work h ks r) e = ap (λ z. h.seed.type ∷ z) (feed_types d a (suc j) r e)

pub count-add : (cs : Tasks) (c : Desk) (ks : Tasks) → count (add cs (task_then c ks no_tasks)) ≡ suc (count cs)
count-add no_tasks c ks = refl
count-add (task_then b ls r) c ks = ap suc (count-add r c ks)

pub count-shut : (cs : Tasks) → count (shut_all cs) ≡ count cs
count-shut no_tasks = refl
count-shut (task_then c ks r) = ap suc (count-shut r)

pub none_counted : (cs : Tasks) → count cs ≡ 0 → cs ≡ no_tasks
none_counted no_tasks e = refl
none_counted (task_then c ks r) e = absurd (omega (arith, e))

module _ (s : Setting) (number : List ℕ → ℕ) where
  -- without tasks there are none
  pub no_tree : (d : Fuel) (q : Seed) (j : ℕ) (cs : Tasks) (t : Tree) → cs ≡ no_tasks → Shows s number d q j cs t → t ≡ Leaf
  no_tree d q j no_tasks Leaf e h = refl
  no_tree d q j no_tasks (Work h hs r) e w = absurd w
  no_tree d q j (task_then c ks r) Leaf e w = absurd w
  no_tree d q j (task_then c ks r) (Work h hs k) e w = let z : suc (count r) ≡ 0 = ap count e in absurd (omega (arith, z))

  pub count_types : (d : Fuel) (q : Seed) (j : ℕ) (cs : Tasks) (t : Tree) → Shows s number d q j cs t → count cs ≡ length (types_of t)
  count_types d q j no_tasks Leaf w = refl
  count_types d q j no_tasks (Work h hs r) w = absurd w
  count_types d q j (task_then c ks r) Leaf w = absurd w
  count_types d q j (task_then c ks r) (Work h hs k) w = ap suc (count_types d q (suc j) r k w.2)

  -- ---- room

  room_here : (q : Seed) (j : ℕ) (c : Desk) (h : Head) (r : Tree) → Alike q j c h → (b : Bool) → b ≡ true
      → nat_lt (length c.inbox) c.places ≡ not (cond b (nat_le (1 + get_or q.spare j 0) (length h.inbox)) (is_full q (suc j) r j))
  room_here q j c h r al true e =
      let p : c.places ≡ 1 + get_or q.spare j 0 = al.places in
      let i : length c.inbox ≡ length h.inbox = ap length al.inbox in grind (arith, nat_tests)
  room_here q j c h r al false e = cc

  pub room_is : (d : Fuel) (q : Seed) (j k i : ℕ) (cs : Tasks) (t : Tree) → Shows s number d q j cs t → k < length (types_of t) → i ≡ j + k → has_room k cs ≡ not (is_full q j t i)
  room_is d q j k i no_tasks Leaf w l e = absurd (omega (arith, l))
  room_is d q j k i no_tasks (Work h hs r) w l e = absurd w
  room_is d q j k i (task_then c ks r) Leaf w l e = absurd w
  room_is d q j zero i (task_then c ks more) (Work h hs r) w l e =
      let z : i ≡ j = omega (arith, e) in
      subst (λ y. nat_lt (length c.inbox) c.places ≡ not (is_full q j (Work h hs r) y)) (sym z)
      (room_here q j c h r w.0 (nat_eq j j) (grind (arith, nat_tests)))
  room_is d q j (suc k) i (task_then c ks more) (Work h hs r) w l e =
      let z : nat_eq j i ≡ false = grind (arith, nat_tests) in
      room_is d q (suc j) k i more r w.2 (omega (arith, l)) (omega (arith, e))
      ∙ ap (λ y. not (cond y (nat_le (1 + get_or q.spare j 0) (length h.inbox)) (is_full q (suc j) r i))) (sym z)

  -- ---- an item for one of them

  pub typed_more : (t : Ty) (xs : List Item) (i : Item) → AllTyped t xs → Typed t i.1 → AllTyped t (xs ++ (i ∷ []))
  typed_more t [] i h k = (k, tt)
  typed_more t (x ∷ xs) i h k = (h.0, typed_more t xs i h.1 k)

  pub rows_more : (xs : List Item) (i : Item) → row_total (xs ++ (i ∷ [])) ≡ row_total xs + rows_in i.1
  rows_more [] i = let e : rows_in i.1 + 0 ≡ 0 + rows_in i.1 = omega arith in e
  rows_more (x ∷ xs) i =
      let e : row_total (xs ++ (i ∷ [])) ≡ row_total xs + rows_in i.1 = rows_more xs i in
      let f : rows_in x.1 + row_total (xs ++ (i ∷ [])) ≡ (rows_in x.1 + row_total xs) + rows_in i.1 = omega (arith, e) in f

  -- the k-th gets it
  pub given : (d : Fuel) (q : Seed) (j k c : ℕ) (a : Act) (i : Item) (u : Ty) (before behind : List Ty) (cs : Tasks) (t : Tree) → Shows s number d q j cs t
      → types_of t ≡ before ++ (u ∷ behind) → length before ≡ k → Typed u i.1 → c ≡ j + k → a.gives ≡ (c, i) ∷ [] → a.shuts ≡ [] → a.starts ≡ []
      → Shows s number d q j (give k i cs) (feed d a j t)
  given d q j k c a i u [] behind no_tasks Leaf w e l ty n g sh st = absurd (omega (arith, ap length e))
  given d q j k c a i u (b ∷ before) behind no_tasks Leaf w e l ty n g sh st = absurd (omega (arith, ap length e))
  given d q j k c a i u before behind no_tasks (Work h hs r) w e l ty n g sh st = absurd w
  given d q j k c a i u before behind (task_then b ks more) Leaf w e l ty n g sh st = absurd w
  given d q j k c a i u [] behind (task_then b ks more) (Work h hs r) w e l ty n g sh st =
      subst (λ z. Shows s number d q j (give z i (task_then b ks more)) (feed d a j (Work h hs r))) l
      (subst (λ z. Shows s number d q j (task_then (with_item b i) ks more) (Work z hs (feed d a (suc j) r))) (sym head_is) (
        record {
          name = w.0.name;
          inbox = ap (λ z. z ++ (i ∷ [])) w.0.inbox;
          closed = w.0.closed ∙ sym (or_nothing h.closed);
          places = w.0.places;
          typed = typed_more h.seed.type h.inbox i w.0.typed (subst (λ z. Typed z i.1) (first_is h.seed.type u (types_of r) behind e) ty);
        },
        w.1,
        subst (Shows s number d q (suc j) more) (sym rest_is) w.2,
      ))
    where
      first_is : (x y : Ty) (xs ys : List Ty) → x ∷ xs ≡ y ∷ ys → y ≡ x
      first_is x y xs ys f = cc

      there : for_child j a.gives ≡ i ∷ []
      there = ap (for_child j) g ∙ (let z : nat_eq c j ≡ true = grind (arith, nat_tests) in ap (λ y. cond y (i ∷ []) []) z)

      head_is : fed h (for_child j a.gives) (has j a.shuts) ≡ fed h (i ∷ []) false
      head_is = ap (λ z. fed h z (has j a.shuts)) there ∙ ap (λ z. fed h (i ∷ []) (has j z)) sh

      rest_is : feed d a (suc j) r ≡ r
      rest_is = feed_none d a (suc j) r (record {
        gives = λ x m. ap (for_child x) g ∙ (let z : nat_eq c x ≡ false = grind (arith, nat_tests) in ap (λ y. cond y (i ∷ []) []) z);
        shuts = λ x m. ap (has x) sh;
        starts = st;
      })
  given d q j k c a i u (b ∷ before) behind (task_then v ks more) (Work h hs r) w e l ty n g sh st =
      subst (λ z. Shows s number d q j (give z i (task_then v ks more)) (feed d a j (Work h hs r))) l
      (subst (λ z. Shows s number d q j (task_then v ks (give (length before) i more)) (Work z hs (feed d a (suc j) r))) (sym head_is)
      (w.0, w.1, given d q (suc j) (length before) c a i u before behind more r w.2 (rest_types h.seed.type b (types_of r) (before ++ (u ∷ behind)) e) refl ty (omega (arith, n, l)) g sh st))
    where
      rest_types : (x y : Ty) (xs ys : List Ty) → x ∷ xs ≡ y ∷ ys → xs ≡ ys
      rest_types x y xs ys f = cc

      not_there : for_child j a.gives ≡ []
      not_there = ap (for_child j) g ∙ (let z : nat_eq c j ≡ false = (let y : suc (length before) ≡ k = l in grind (arith, nat_tests)) in ap (λ y. cond y (i ∷ []) []) z)

      head_is : fed h (for_child j a.gives) (has j a.shuts) ≡ h
      head_is = ap (λ z. fed h z (has j a.shuts)) not_there ∙ ap (λ z. fed h [] (has j z)) sh ∙ fed_none h

  -- ---- all queues closed

  pub shut_shows : (d : Fuel) (q : Seed) (j : ℕ) (a : Act) (cs : Tasks) (t : Tree) → Shows s number d q j cs t
      → ((i : ℕ) → for_child i a.gives ≡ []) → ((i : ℕ) → j ≤ i → i < j + count cs → has i a.shuts ≡ true) → a.starts ≡ [] → Shows s number d q j (shut_all cs) (feed d a j t)
  shut_shows d q j a no_tasks Leaf w g sh st = subst (Shows s number d q j no_tasks) (sym (ap (sprout d a j) st ∙ sprout_none d a j)) tt
  shut_shows d q j a no_tasks (Work h hs r) w g sh st = absurd w
  shut_shows d q j a (task_then c ks more) Leaf w g sh st = absurd w
  shut_shows d q j a (task_then c ks more) (Work h hs r) w g sh st =
      subst (λ z. Shows s number d q j (task_then (shut_desk c) ks (shut_all more)) (Work z hs (feed d a (suc j) r))) (sym head_is) (
        record {
          name = w.0.name;
          inbox = w.0.inbox ∙ sym (append-nil h.inbox);
          closed = sym (or_all h.closed);
          places = w.0.places;
          typed = subst (AllTyped h.seed.type) (sym (append-nil h.inbox)) w.0.typed;
        },
        w.1,
        shut_shows d q (suc j) a more r w.2 g (λ i l m. sh i (omega arith) (omega arith)) st,
      )
    where
      head_is : fed h (for_child j a.gives) (has j a.shuts) ≡ fed h [] true
      head_is = ap (λ z. fed h z (has j a.shuts)) (g j) ∙ ap (fed h []) (sh j (omega arith) (omega arith))

  -- ---- one more of them

  -- as it is started by an act that hands it an item and closes its queue
  pub one_more : (g : Ty → Fuel) (q : Seed) (j c : ℕ) (a : Act) (i : Item) (seed : Seed) (cs new : Tasks) (t : Tree) → Shows s number (fuel g) q j cs t → c ≡ j + count cs
      → a.gives ≡ (c, i) ∷ [] → a.shuts ≡ c ∷ [] → a.starts ≡ seed ∷ []
      → Shows s number (fuel g) q c new (Work (fresh seed (i ∷ []) true) (sprout (g seed.type) quiet 0 (firsts seed)) Leaf)
      → Shows s number (fuel g) q j (add cs new) (feed (fuel g) a j t)
  one_more g q j c a i seed no_tasks new Leaf w n gs sh st k =
      let z : c ≡ j = omega (arith, n) in
      subst (λ y. Shows s number (fuel g) q j new (sprout (fuel g) a j y)) (sym st)
      (subst (λ y. Shows s number (fuel g) q j new (Work (fresh seed y (has j a.shuts)) (sprout (g seed.type) quiet 0 (firsts seed)) Leaf))
      (sym (ap (for_child j) gs ∙ (let y : nat_eq c j ≡ true = grind (arith, nat_tests) in ap (λ y. cond y (i ∷ []) []) y)))
      (subst (λ y. Shows s number (fuel g) q j new (Work (fresh seed (i ∷ []) y) (sprout (g seed.type) quiet 0 (firsts seed)) Leaf))
      (sym (ap (has j) sh ∙ (let y : nat_eq c j ≡ true = grind (arith, nat_tests) in ap (λ y. y || false) y)))
      (subst (λ y. Shows s number (fuel g) q y new (Work (fresh seed (i ∷ []) true) (sprout (g seed.type) quiet 0 (firsts seed)) Leaf)) z k)))
  one_more g q j c a i seed no_tasks new (Work h hs r) w n gs sh st k = absurd w
  one_more g q j c a i seed (task_then b ks more) new Leaf w n gs sh st k = absurd w
  one_more g q j c a i seed (task_then b ks more) new (Work h hs r) w n gs sh st k =
      subst (λ z. Shows s number (fuel g) q j (task_then b ks (add more new)) (Work z hs (feed (fuel g) a (suc j) r))) (sym head_is)
      (w.0, w.1, one_more g q (suc j) c a i seed more new r w.2 (omega (arith, n)) gs sh st k)
    where
      other : nat_eq c j ≡ false
      other = grind (arith, nat_tests)

      head_is : fed h (for_child j a.gives) (has j a.shuts) ≡ h
      head_is =
          ap (λ z. fed h z (has j a.shuts)) (ap (for_child j) gs ∙ ap (λ y. cond y (i ∷ []) []) other)
          ∙ ap (fed h []) (ap (has j) sh ∙ ap (λ y. y || false) other) ∙ fed_none h

  -- and with its rows, where the child has no others
  pub rows_one_more : (g : Ty → Fuel) (q : Seed) (j c : ℕ) (a : Act) (i : Item) (seed : Seed) (cs : Tasks) (t : Tree) → Shows s number (fuel g) q j cs t → c ≡ j + count cs
      → a.gives ≡ (c, i) ∷ [] → a.starts ≡ seed ∷ [] → local_rows seed.local (0 + rows_of (sprout (g seed.type) quiet 0 (firsts seed))) ≡ 0
      → rows_of (feed (fuel g) a j t) ≡ rows_of t + rows_in i.1
  rows_one_more g q j c a i seed no_tasks Leaf w n gs st k =
      let own : ℕ = local_rows seed.local (0 + rows_of (sprout (g seed.type) quiet 0 (firsts seed))) in
      let there : for_child j a.gives ≡ i ∷ [] = ap (for_child j) gs ∙ (let y : nat_eq c j ≡ true = grind (arith, nat_tests) in ap (λ y. cond y (i ∷ []) []) y) in
      let e : rows_of (sprout (fuel g) a j (seed ∷ [])) ≡ (own + (rows_in i.1 + 0)) + 0 = ap (λ z. (own + row_total z) + 0) there in
      ap (λ z. rows_of (sprout (fuel g) a j z)) st ∙ (let f : rows_of (sprout (fuel g) a j (seed ∷ [])) ≡ 0 + rows_in i.1 = omega (arith, e, k) in f)
  rows_one_more g q j c a i seed no_tasks (Work h hs r) w n gs st k = absurd w
  rows_one_more g q j c a i seed (task_then b ks more) Leaf w n gs st k = absurd w
  rows_one_more g q j c a i seed (task_then b ks more) (Work h hs r) w n gs st k =
      let own : ℕ = task_rows h.over h.local h.past (row_total (gifts 0 h.todo) + rows_of hs) in
      let none : for_child j a.gives ≡ [] = ap (for_child j) gs ∙ (let y : nat_eq c j ≡ false = grind (arith, nat_tests) in ap (λ y. cond y (i ∷ []) []) y) in
      let e : row_total (h.inbox ++ for_child j a.gives) ≡ row_total h.inbox = ap (λ z. row_total (h.inbox ++ z)) none ∙ ap row_total (append-nil h.inbox) in
      let f : rows_of (feed (fuel g) a (suc j) r) ≡ rows_of r + rows_in i.1 = rows_one_more g q (suc j) c a i seed more r w.2 (omega (arith, n)) gs st k in
      let o : (own + row_total (h.inbox ++ for_child j a.gives)) + rows_of (feed (fuel g) a (suc j) r) ≡ ((own + row_total h.inbox) + rows_of r) + rows_in i.1 = omega (arith, e, f) in o

  -- ---- rows of an only child

  -- where it gets an item
  pub rows_given : (d : Fuel) (a : Act) (i : Item) (t : Ty) (hs : Tree) → types_of hs ≡ t ∷ [] → a.gives ≡ (0, i) ∷ [] → a.starts ≡ [] → rows_of (feed d a 0 hs) ≡ rows_of hs + rows_in i.1
  rows_given d a i t Leaf one g st = absurd (no_cons t [] (sym one))
  rows_given d a i t (Work h ks (Work k ls r)) one g st = absurd (omega (arith, ap length one))
  rows_given d a i t (Work h ks Leaf) one g st =
      let own : ℕ = task_rows h.over h.local h.past (row_total (gifts 0 h.todo) + rows_of ks) in
      let e : row_total (h.inbox ++ for_child 0 a.gives) ≡ row_total h.inbox + rows_in i.1 = ap (λ z. row_total (h.inbox ++ for_child 0 z)) g ∙ rows_more h.inbox i in
      let f : rows_of (sprout d a 1 a.starts) ≡ 0 = ap rows_of (ap (sprout d a 1) st ∙ sprout_none d a 1) in
      let o : (own + row_total (h.inbox ++ for_child 0 a.gives)) + rows_of (sprout d a 1 a.starts) ≡ ((own + row_total h.inbox) + 0) + rows_in i.1 = omega (arith, e, f) in o

-- rows of all children, where none gets an item
pub rows_kept : (d : Fuel) (a : Act) (j : ℕ) (t : Tree) → ((i : ℕ) → for_child i a.gives ≡ []) → a.starts ≡ [] → rows_of (feed d a j t) ≡ rows_of t
rows_kept d a j Leaf g st = ap rows_of (ap (sprout d a j) st ∙ sprout_none d a j)
rows_kept d a j (Work h ks r) g st =
    let own : ℕ = task_rows h.over h.local h.past (row_total (gifts 0 h.todo) + rows_of ks) in
    ap (λ z. (own + row_total (h.inbox ++ z)) + rows_of (feed d a (suc j) r)) (g j)
    ∙ ap (λ z. (own + row_total z) + rows_of (feed d a (suc j) r)) (append-nil h.inbox) ∙ ap (λ z. (own + row_total h.inbox) + z) (rows_kept d a (suc j) r g st)
