-- Children that an act starts behind the others, and what one gets that is there.
use Rattle.std.proofs.Common.{◌≡◌, ◌+◌, ◌≤◌, ◌<◌, ◌||◌, ◌∷◌, ◌++◌, ◌∙◌, ℕ, zero, suc, Bool, true, false, cond, nat_eq, nat_le, get_or, None, List, length, refl, sym, ap, subst, arith, append-nil, []}
use Rattle.std.proofs.lemmas.Bool.Decides.{nat_tests}
use Rattle.vx_model.specs.Ty.{Ty}
use Rattle.vx_path.specs.Path.{under, inside, next, Eof}
use Rattle.vx_tasks.specs.Task.{has}
use Rattle.vx_rules.specs.Runs.{code_type}
use Rattle.vx_plan.specs.PlanData.{Setting, Item}
use Rattle.vx_machine_turns.specs.Forms.{form_type}
use Rattle.vx_machine_turns.specs.Locals.{DictNode}
use Rattle.vx_machine_turns.specs.Acts.{Seed, Act, for_child, or_else}
use Rattle.vx_machine_turns.specs.Starts.{start_fault, seed_of}
use Rattle.vx_machine_turns.specs.Dict.{fallback_seed, run_seeds}
use Rattle.vx_machine_turns.specs.Turns.{firsts}
use Rattle.vx_machine_turns.specs.Fuels.{Fuel, spent, fuel}
use Rattle.vx_machine_steps.specs.Tree.{Tree, Leaf, Work, fresh, quiet, sprout, feed, opened}
use Rattle.vx_machine_steps.specs.Moves.{is_full}
use Rattle.vx_machine_state.specs.State.{Tasks, no_tasks, task_then}
use Rattle.vx_machine_state.specs.Start.{first_indices, started_task}
use Rattle.vx_machine_state.specs.Coder.{coder_of}
use Rattle.vx_machine_state.specs.Acts.{count, add, give, with_item, shut_desk, shut_at, end_at, run_tasks}
use Rattle.vx_machine_state.specs.Typed.{Typed, AllTyped}
use Rattle.vx_machine_view.specs.Shows.{Shows, rows_of, types_of}
use Rattle.vx_machine_view.specs.Deeds.{Coded}
use Rattle.vx_machine_view.proofs.Words.{or_none, or_all}
use Rattle.vx_machine_view.proofs.Feeding.{sprout_none, fed, fed_none, typed_more}
use Rattle.vx_machine_view.proofs.Beginning.{task_begun, fresh_rows, kid_opened, opened_is, one_opened}

pub types_behind : (d : Fuel) (a : Act) (j c : ℕ) (t : Tree) → c ≡ j + length (types_of t) → types_of (feed d a j t) ≡ types_of t ++ types_of (sprout d a c a.starts)
types_behind d a j c Leaf e = let h : j ≡ c = omega (arith, e) in ap (λ z. types_of (sprout d a z a.starts)) h
types_behind d a j c (Work h ks r) e = ap (λ z. h.seed.type ∷ z) (types_behind d a (suc j) c r (let k : c ≡ suc j + length (types_of r) = omega (arith, e) in k))

-- no child has this number
pub not_full : (q : Seed) (j c : ℕ) (t : Tree) → j + length (types_of t) ≤ c → is_full q j t c ≡ false
not_full q j c Leaf l = refl
not_full q j c (Work h ks r) l = let e : nat_eq j c ≡ false = grind (arith, nat_tests) in ap (λ z. cond z (nat_le (1 + get_or q.spare j 0) (length h.inbox)) (is_full q (suc j) r c)) e ∙ not_full q (suc j) c r (omega (arith, l))

pub back_opened : (d : Fuel) (q : Seed) (n : DictNode) (a : Act) → Coded q d n → a.starts ≡ fallback_seed n ∷ [] → opened d a.starts ≡ first_indices n.fallback n.mark n.eof
back_opened spent q n a k st = absurd k.enough
back_opened (fuel g) q n a k st = ap (opened (fuel g)) st ∙ kid_opened n.fallback n.mark n.name n.eof g (opened_is n.fallback n.mark (under n.name 0) n.eof (g (form_type n.fallback)) k.suited.5 k.enough.2)

module _ (s : Setting) (number : List ℕ → ℕ) where
  -- new children behind those that an act leaves as they are
  pub grown_shows : (g : Ty → Fuel) (q : Seed) (j c : ℕ) (a : Act) (cs new : Tasks) (t : Tree) → Shows s number (fuel g) q j cs t → c ≡ j + count cs
      → ((i : ℕ) → j ≤ i → i < c → (for_child i a.gives ≡ []) × (has i a.shuts ≡ false)) → Shows s number (fuel g) q c new (sprout (fuel g) a c a.starts)
      → Shows s number (fuel g) q j (add cs new) (feed (fuel g) a j t)
  grown_shows g q j c a no_tasks new Leaf w n quiet_for k =
      let z : c ≡ j = omega (arith, n) in subst (λ y. Shows s number (fuel g) q y new (sprout (fuel g) a y a.starts)) z k
  grown_shows g q j c a no_tasks new (Work h hs r) w n quiet_for k = absurd w
  grown_shows g q j c a (task_then b ks more) new Leaf w n quiet_for k = absurd w
  grown_shows g q j c a (task_then b ks more) new (Work h hs r) w n quiet_for k =
      subst (λ z. Shows s number (fuel g) q j (task_then b ks (add more new)) (Work z hs (feed (fuel g) a (suc j) r))) (sym head_is)
      (w.0, w.1, grown_shows g q (suc j) c a more new r w.2 (omega (arith, n)) (λ i l m. quiet_for i (omega (arith, l)) m) k)
    where
      here : (for_child j a.gives ≡ []) × (has j a.shuts ≡ false)
      here = quiet_for j (omega arith) (omega (arith, n))

      head_is : fed h (for_child j a.gives) (has j a.shuts) ≡ h
      head_is = ap (λ z. fed h z (has j a.shuts)) here.0 ∙ ap (fed h []) here.1 ∙ fed_none h

  -- ---- the fallback

  pub back_shows : (d : Fuel) (q : Seed) (n : DictNode) (a : Act) → Coded q d n → start_fault s n.fallback n.mark ≡ None → a.gives ≡ [] → a.shuts ≡ [] → a.starts ≡ fallback_seed n ∷ []
      → Shows s number d q 0 (started_task n.fallback n.mark (under q.name 0) n.eof [] false) (feed d a 0 Leaf)
      × (types_of (feed d a 0 Leaf) ≡ n.type ∷ []) × (rows_of (feed d a 0 Leaf) ≡ 0)
  back_shows spent q n a k f gs sh st = absurd k.enough
  back_shows (fuel g) q n a k f gs sh st = (
    subst (λ z. Shows s number (fuel g) q 0 (started_task n.fallback n.mark (under z 0) n.eof [] false) (feed (fuel g) a 0 Leaf)) k.name_is
        (subst (Shows s number (fuel g) q 0 (started_task n.fallback n.mark (under n.name 0) n.eof [] false)) (sym is)
        (task_begun s number g q 0 n.fallback n.mark (under n.name 0) n.eof [] false (ap (λ z. get_or z 0 0) k.spare) tt k.suited.5 f k.enough.2)),
    ap types_of is ∙ ap (λ z. z ∷ []) k.suited.4,
    ap rows_of is ∙ (let e = fresh_rows n.fallback n.mark (under n.name 0) n.eof (g (form_type n.fallback)) k.suited.5 in ap (λ z. (z + 0) + 0) e),
  )
    where
      is : feed (fuel g) a 0 Leaf ≡ Work (fresh (fallback_seed n) [] false) (sprout (g (form_type n.fallback)) quiet 0 (firsts (fallback_seed n))) Leaf
      is = ap (sprout (fuel g) a 0) st
          ∙ ap (λ z. Work (fresh (fallback_seed n) z (has 0 a.shuts)) (sprout (g (form_type n.fallback)) quiet 0 (firsts (fallback_seed n))) Leaf) (ap (for_child 0) gs)
          ∙ ap (λ z. Work (fresh (fallback_seed n) [] z) (sprout (g (form_type n.fallback)) quiet 0 (firsts (fallback_seed n))) Leaf) (ap (has 0) sh)

  -- ---- a run

  abbrev two : Seed → Seed → Tree → Tree → List Item → Bool → List Item → Bool → Tree
  two p r hs ks xs x ys y = Work (fresh p xs x) hs (Work (fresh r ys y) ks Leaf)

  pub run_shows : (d : Fuel) (q : Seed) (n : DictNode) (c : ℕ) (e : Eof) (a : Act) (i : Item) (ks : Tasks) (hs : Tree) → Coded q d n → or_else (start_fault s n.codes n.mark) (start_fault s n.values n.mark) ≡ None
      → Typed (code_type n.options) i.1 → Shows s number d q 0 ks hs → c ≡ count ks → a.gives ≡ (c, i) ∷ [] → a.shuts ≡ [] → a.starts ≡ run_seeds n c e
      → Shows s number d q 0 (add ks (run_tasks (coder_of n) q.name c e i)) (feed d a 0 hs)
  run_shows spent q n c e a i ks hs k f ti w is gs sh st = absurd k.enough
  run_shows (fuel g) q n c e a i ks hs k f ti w is gs sh st =
      grown_shows g q 0 c a ks (run_tasks (coder_of n) q.name c e i) hs w (omega (arith, is))
      (λ x l m. (ap (for_child x) gs ∙ (let z : nat_eq c x ≡ false = grind (arith, nat_tests) in ap (λ y. cond y (i ∷ []) []) z), ap (has x) sh))
      (subst (λ z. Shows s number (fuel g) q c (run_tasks (coder_of n) z c e i) (sprout (fuel g) a c a.starts)) k.name_is (subst (λ z. Shows s number (fuel g) q c (run_tasks (coder_of n) n.name c e i) (sprout (fuel g) a c z)) (sym st) both))
    where
      no : (start_fault s n.codes n.mark ≡ None) × (start_fault s n.values n.mark ≡ None)
      no = or_none (start_fault s n.codes n.mark) (start_fault s n.values n.mark) f

      first : Shows s number (fuel g) q c (started_task n.codes n.mark (under n.name c) (inside e) (i ∷ []) false)
          (Work (fresh (seed_of n.codes n.mark (under n.name c) (inside e)) (i ∷ []) false) (sprout (g (form_type n.codes)) quiet 0 (firsts (seed_of n.codes n.mark (under n.name c) (inside e)))) Leaf)
      first = task_begun s number g q c n.codes n.mark (under n.name c) (inside e) (i ∷ []) false (ap (λ z. get_or z c 0) k.spare) (subst (λ z. Typed z i.1) (sym k.suited.0) ti, tt) k.suited.1 no.0 k.enough.0

      second : Shows s number (fuel g) q (suc c) (started_task n.values n.mark (under n.name (suc c)) (inside (next e)) [] false)
          (Work (fresh (seed_of n.values n.mark (under n.name (suc c)) (inside (next e))) [] false) (sprout (g (form_type n.values)) quiet 0 (firsts (seed_of n.values n.mark (under n.name (suc c)) (inside (next e))))) Leaf)
      second = task_begun s number g q (suc c) n.values n.mark (under n.name (suc c)) (inside (next e)) [] false (ap (λ z. get_or z (suc c) 0) k.spare) tt k.suited.3 no.1 k.enough.1

      gets : for_child c a.gives ≡ i ∷ []
      gets = ap (for_child c) gs ∙ (let z : nat_eq c c ≡ true = grind (arith, nat_tests) in ap (λ y. cond y (i ∷ []) []) z)

      others : for_child (suc c) a.gives ≡ []
      others = ap (for_child (suc c)) gs ∙ (let z : nat_eq c (suc c) ≡ false = grind (arith, nat_tests) in ap (λ y. cond y (i ∷ []) []) z)

      both : Shows s number (fuel g) q c (run_tasks (coder_of n) n.name c e i) (sprout (fuel g) a c (run_seeds n c e))
      both =
          subst (Shows s number (fuel g) q c (run_tasks (coder_of n) n.name c e i))
          (sym (ap (λ z. two (seed_of n.codes n.mark (under n.name c) (inside e)) (seed_of n.values n.mark (under n.name (suc c)) (inside (next e))) (sprout (g (form_type n.codes)) quiet 0 (firsts (seed_of n.codes n.mark (under n.name c) (inside e)))) (sprout (g (form_type n.values)) quiet 0 (firsts (seed_of n.values n.mark (under n.name (suc c)) (inside (next e))))) z (has c a.shuts) (for_child (suc c) a.gives) (has (suc c) a.shuts)) gets ∙ ap (λ z. two (seed_of n.codes n.mark (under n.name c) (inside e)) (seed_of n.values n.mark (under n.name (suc c)) (inside (next e))) (sprout (g (form_type n.codes)) quiet 0 (firsts (seed_of n.codes n.mark (under n.name c) (inside e)))) (sprout (g (form_type n.values)) quiet 0 (firsts (seed_of n.values n.mark (under n.name (suc c)) (inside (next e))))) (i ∷ []) z (for_child (suc c) a.gives) (has (suc c) a.shuts)) (ap (has c) sh)
          ∙ ap (λ z. two (seed_of n.codes n.mark (under n.name c) (inside e)) (seed_of n.values n.mark (under n.name (suc c)) (inside (next e))) (sprout (g (form_type n.codes)) quiet 0 (firsts (seed_of n.codes n.mark (under n.name c) (inside e)))) (sprout (g (form_type n.values)) quiet 0 (firsts (seed_of n.values n.mark (under n.name (suc c)) (inside (next e))))) (i ∷ []) false z (has (suc c) a.shuts)) others ∙ ap (two (seed_of n.codes n.mark (under n.name c) (inside e)) (seed_of n.values n.mark (under n.name (suc c)) (inside (next e))) (sprout (g (form_type n.codes)) quiet 0 (firsts (seed_of n.codes n.mark (under n.name c) (inside e)))) (sprout (g (form_type n.values)) quiet 0 (firsts (seed_of n.values n.mark (under n.name (suc c)) (inside (next e))))) (i ∷ []) false []) (ap (has (suc c)) sh)))
          (first.0, first.1, second)

  pub run_kinds : (d : Fuel) (q : Seed) (n : DictNode) (c : ℕ) (e : Eof) (a : Act) (hs : Tree) → Coded q d n → c ≡ length (types_of hs) → a.starts ≡ run_seeds n c e
      → (types_of (feed d a 0 hs) ≡ types_of hs ++ (code_type n.options ∷ n.type ∷ [])) × (opened d a.starts ≡ first_indices n.codes n.mark (inside e) ++ first_indices n.values n.mark (inside (next e)))
  run_kinds spent q n c e a hs k is st = absurd k.enough
  run_kinds (fuel g) q n c e a hs k is st = (
    types_behind (fuel g) a 0 c hs (omega (arith, is)) ∙ ap (λ z. types_of hs ++ types_of (sprout (fuel g) a c z)) st
        ∙ ap (λ z. types_of hs ++ (z ∷ form_type n.values ∷ [])) k.suited.0 ∙ ap (λ z. types_of hs ++ (code_type n.options ∷ z ∷ [])) k.suited.2,
    ap (opened (fuel g)) st
        ∙ one_opened n.codes n.mark n.name c e g (seed_of n.values n.mark (under n.name (suc c)) (inside (next e)) ∷ []) (first_indices n.codes n.mark (inside e)) (first_indices n.values n.mark (inside (next e)))
        (opened_is n.codes n.mark (under n.name c) (inside e) (g (form_type n.codes)) k.suited.1 k.enough.0)
        (one_opened n.values n.mark n.name (suc c) (next e) g [] (first_indices n.values n.mark (inside (next e))) [] (opened_is n.values n.mark (under n.name (suc c)) (inside (next e)) (g (form_type n.values)) k.suited.3 k.enough.1) refl
        ∙ append-nil (first_indices n.values n.mark (inside (next e)))),
  )

  -- ---- the end of a run

  -- child k gets the item, and closes
  last_given : (d : Fuel) (q : Seed) (j k : ℕ) (a : Act) (i : Item) (u : Ty) (before : List Ty) (cs : Tasks) (t : Tree) → Shows s number d q j cs t → types_of t ≡ before ++ (u ∷ []) → length before ≡ k → Typed u i.1
      → a.gives ≡ ((j + k), i) ∷ [] → has (j + k) a.shuts ≡ true → ((x : ℕ) → j ≤ x → x < j + k → has x a.shuts ≡ false) → a.starts ≡ [] → Shows s number d q j (shut_at k (give k i cs)) (feed d a j t)
  last_given d q j k a i u [] no_tasks Leaf w e l ty gs sh far st = absurd (omega (arith, ap length e))
  last_given d q j k a i u (b ∷ before) no_tasks Leaf w e l ty gs sh far st = absurd (omega (arith, ap length e))
  last_given d q j k a i u before no_tasks (Work h hs r) w e l ty gs sh far st = absurd w
  last_given d q j k a i u before (task_then b ks more) Leaf w e l ty gs sh far st = absurd w
  last_given d q j zero a i u before (task_then b ks no_tasks) (Work h hs Leaf) w e l ty gs sh far st =
      subst (λ z. Shows s number d q j (task_then (shut_desk (with_item b i)) ks no_tasks) (Work z hs (feed d a (suc j) Leaf))) (sym head_is) (
        record {
          name = w.0.name;
          inbox = ap (λ z. z ++ (i ∷ [])) w.0.inbox;
          closed = sym (or_all h.closed);
          places = w.0.places;
          typed = typed_more s number h.seed.type h.inbox i w.0.typed (subst (λ z. Typed z i.1) (only before e l) ty);
        },
        w.1,
        subst (Shows s number d q (suc j) no_tasks) (sym (ap (sprout d a (suc j)) st ∙ sprout_none d a (suc j))) tt,
      )
    where
      only : (before : List Ty) → h.seed.type ∷ [] ≡ before ++ (u ∷ []) → length before ≡ 0 → u ≡ h.seed.type
      only [] x y = cc
      only (z ∷ zs) x y = absurd (omega (arith, y))

      here : j + 0 ≡ j
      here = omega arith

      head_is : fed h (for_child j a.gives) (has j a.shuts) ≡ fed h (i ∷ []) true
      head_is = ap (λ z. fed h z (has j a.shuts)) (ap (for_child j) gs ∙ (let z : nat_eq (j + 0) j ≡ true = grind (arith, nat_tests) in ap (λ y. cond y (i ∷ []) []) z))
          ∙ ap (fed h (i ∷ [])) (subst (λ z. has z a.shuts ≡ true) here sh)
  last_given d q j zero a i u before (task_then b ks no_tasks) (Work h hs (Work x y z)) w e l ty gs sh far st = absurd w.2
  last_given d q j zero a i u before (task_then b ks (task_then x y z)) (Work h hs Leaf) w e l ty gs sh far st = absurd w.2
  last_given d q j zero a i u [] (task_then b ks (task_then x y z)) (Work h hs (Work m n o)) w e l ty gs sh far st = absurd (omega (arith, ap length e))
  last_given d q j zero a i u (v ∷ before) (task_then b ks (task_then x y z)) (Work h hs (Work m n o)) w e l ty gs sh far st = absurd (omega (arith, l))
  last_given d q j (suc k) a i u [] (task_then b ks more) (Work h hs r) w e l ty gs sh far st = absurd (omega (arith, l))
  last_given d q j (suc k) a i u (v ∷ before) (task_then b ks more) (Work h hs r) w e l ty gs sh far st =
      subst (λ z. Shows s number d q j (task_then b ks (shut_at k (give k i more))) (Work z hs (feed d a (suc j) r))) (sym head_is) (
        w.0,
        w.1,
        last_given d q (suc j) k a i u before more r w.2 (rest_types h.seed.type v (types_of r) (before ++ (u ∷ [])) e) (omega (arith, l)) ty (gs ∙ ap (λ z. (z, i) ∷ []) place) (subst (λ z. has z a.shuts ≡ true) place sh)
            (λ x lo hi. far x (omega (arith, lo)) (omega (arith, hi))) st,
      )
    where
      place : j + suc k ≡ suc j + k
      place = omega arith

      rest_types : (x y : Ty) (xs ys : List Ty) → x ∷ xs ≡ y ∷ ys → xs ≡ ys
      rest_types x y xs ys f = cc

      head_is : fed h (for_child j a.gives) (has j a.shuts) ≡ h
      head_is = ap (λ z. fed h z (has j a.shuts)) (ap (for_child j) gs ∙ (let z : nat_eq (j + suc k) j ≡ false = grind (arith, nat_tests) in ap (λ y. cond y (i ∷ []) []) z))
          ∙ ap (fed h []) (far j (omega arith) (omega arith)) ∙ fed_none h

  -- values go to the last child, and both queues of the run are closed
  pub end_shows : (d : Fuel) (q : Seed) (j k : ℕ) (a : Act) (i : Item) (c u : Ty) (before : List Ty) (cs : Tasks) (t : Tree) → Shows s number d q j cs t → types_of t ≡ before ++ (c ∷ u ∷ []) → length before ≡ k → Typed u i.1
      → a.gives ≡ (suc (j + k), i) ∷ [] → a.shuts ≡ (j + k) ∷ suc (j + k) ∷ [] → a.starts ≡ [] → Shows s number d q j (end_at k i cs) (feed d a j t)
  end_shows d q j k a i c u [] no_tasks Leaf w e l ty gs sh st = absurd (omega (arith, ap length e))
  end_shows d q j k a i c u (b ∷ before) no_tasks Leaf w e l ty gs sh st = absurd (omega (arith, ap length e))
  end_shows d q j k a i c u before no_tasks (Work h hs r) w e l ty gs sh st = absurd w
  end_shows d q j k a i c u before (task_then b ks more) Leaf w e l ty gs sh st = absurd w
  end_shows d q j zero a i c u [] (task_then b ks more) (Work h hs r) w e l ty gs sh st =
      subst (λ z. Shows s number d q j (task_then (shut_desk b) ks (shut_at 0 (give 0 i more))) (Work z hs (feed d a (suc j) r))) (sym head_is) (
        record {
          name = w.0.name;
          inbox = w.0.inbox ∙ sym (append-nil h.inbox);
          closed = sym (or_all h.closed);
          places = w.0.places;
          typed = subst (AllTyped h.seed.type) (sym (append-nil h.inbox)) w.0.typed;
        },
        w.1,
        last_given d q (suc j) 0 a i u [] more r w.2 (rest_types h.seed.type c (types_of r) (u ∷ []) e) refl ty (gs ∙ ap (λ z. (z, i) ∷ []) place) there (λ x lo hi. absurd (omega (arith, lo, hi))) st,
      )
    where
      place : suc (j + 0) ≡ suc j + 0
      place = omega arith

      there : has (suc j + 0) a.shuts ≡ true
      there = ap (has (suc j + 0)) sh ∙ (let x : nat_eq (j + 0) (suc j + 0) ≡ false = grind (arith, nat_tests) in let y : nat_eq (suc (j + 0)) (suc j + 0) ≡ true = grind (arith, nat_tests) in
          ap (λ z. z || (nat_eq (suc (j + 0)) (suc j + 0) || false)) x ∙ ap (λ z. z || false) y)

      rest_types : (x y : Ty) (xs ys : List Ty) → x ∷ xs ≡ y ∷ ys → xs ≡ ys
      rest_types x y xs ys f = cc

      head_is : fed h (for_child j a.gives) (has j a.shuts) ≡ fed h [] true
      head_is = ap (λ z. fed h z (has j a.shuts)) (ap (for_child j) gs ∙ (let z : nat_eq (suc (j + 0)) j ≡ false = grind (arith, nat_tests) in ap (λ y. cond y (i ∷ []) []) z))
          ∙ ap (fed h []) (ap (has j) sh ∙ (let z : nat_eq (j + 0) j ≡ true = grind (arith, nat_tests) in ap (λ y. y || (nat_eq (suc (j + 0)) j || false)) z))
  end_shows d q j zero a i c u (v ∷ before) (task_then b ks more) (Work h hs r) w e l ty gs sh st = absurd (omega (arith, l))
  end_shows d q j (suc k) a i c u [] (task_then b ks more) (Work h hs r) w e l ty gs sh st = absurd (omega (arith, l))
  end_shows d q j (suc k) a i c u (v ∷ before) (task_then b ks more) (Work h hs r) w e l ty gs sh st =
      subst (λ z. Shows s number d q j (task_then b ks (end_at k i more)) (Work z hs (feed d a (suc j) r))) (sym head_is) (
        w.0,
        w.1,
        end_shows d q (suc j) k a i c u before more r w.2 (rest_types h.seed.type v (types_of r) (before ++ (c ∷ u ∷ [])) e) (omega (arith, l)) ty (gs ∙ ap (λ z. (suc z, i) ∷ []) place) (sh ∙ ap (λ z. z ∷ suc z ∷ []) place) st,
      )
    where
      place : j + suc k ≡ suc j + k
      place = omega arith

      rest_types : (x y : Ty) (xs ys : List Ty) → x ∷ xs ≡ y ∷ ys → xs ≡ ys
      rest_types x y xs ys f = cc

      head_is : fed h (for_child j a.gives) (has j a.shuts) ≡ h
      head_is = ap (λ z. fed h z (has j a.shuts)) (ap (for_child j) gs ∙ (let z : nat_eq (suc (j + suc k)) j ≡ false = grind (arith, nat_tests) in ap (λ y. cond y (i ∷ []) []) z))
          ∙ ap (fed h []) (ap (has j) sh ∙ (let x : nat_eq (j + suc k) j ≡ false = grind (arith, nat_tests) in let y : nat_eq (suc (j + suc k)) j ≡ false = grind (arith, nat_tests) in
          ap (λ z. z || (nat_eq (suc (j + suc k)) j || false)) x ∙ ap (λ z. z || false) y)) ∙ fed_none h
