-- Counting anew: from what is known to counts that are right.
use Rattle.std.proofs.Common.{◌≡◌, ◌⊎◌, ℕ, zero, suc, ◌+◌, ◌<◌, ◌≤◌, sum, false, List, [], ◌∷◌, length, get_or, set, refl, sym, ap, subst, ◌∙◌, arith, inl, inr, ⊎_elim}
use Rattle.std.proofs.lemmas.Bool.{true≢false}
use Rattle.std.proofs.lemmas.List.Sums.{sum_by-cons}
use Rattle.vx_path.specs.Lists.{In}
use Rattle.vx_machine_state.specs.State.{Next, put, hand_on, press, probe, open_run, end_run, append, shut_kids, join_kids, start_table, leave_kid, Desk, Tasks, no_tasks, task_then}
use Rattle.vx_machine_state.specs.Acts.{count}
use Rattle.vx_machine_state.specs.Moves.{may_act}
use Rattle.vx_machine_state.specs.Places.{one_if, ready_in}
use Rattle.vx_kept.specs.Kept.{counted, ready_at, ready_each, FreshFrom, Fresh, Steady, KnowsFrom, Knows, GoingFrom, asked_of, ready_of, kids_of}
use Rattle.vx_kept.specs.Follow.{KidIs, waits}
use Rattle.vx_kept.specs.declared.counts.Counts.{Counts}
use Rattle.vx_kept.proofs.Keeping.{Within}

-- ---- counts that are right

module _ (all : List (List ℕ)) where
  pub fresh_each : (asked : List ℕ) (i : ℕ) (ns : List ℕ) (xs : List Counts) (ks : Tasks) → FreshFrom all asked i ns xs ks → ns ≡ ready_each all ks
  fresh_each asked i [] [] no_tasks f = refl
  fresh_each asked i (n ∷ ns) xs no_tasks f = absurd f
  fresh_each asked i [] (x ∷ xs) no_tasks f = absurd f
  fresh_each asked i [] xs (task_then c ks r) f = absurd f
  fresh_each asked i (n ∷ ns) [] (task_then c ks r) f = absurd f
  fresh_each asked i (n ∷ ns) (x ∷ xs) (task_then c ks r) f = λ k. f.0.0 k ∷ fresh_each asked (suc i) ns xs r f.2 k

  pub fresh_knows : (asked : List ℕ) (i : ℕ) (ns : List ℕ) (xs : List Counts) (ks : Tasks) → FreshFrom all asked i ns xs ks → KnowsFrom asked i ns xs ks
  fresh_knows asked i [] [] no_tasks f = tt
  fresh_knows asked i (n ∷ ns) xs no_tasks f = absurd f
  fresh_knows asked i [] (x ∷ xs) no_tasks f = absurd f
  fresh_knows asked i [] xs (task_then c ks r) f = absurd f
  fresh_knows asked i (n ∷ ns) [] (task_then c ks r) f = absurd f
  fresh_knows asked i (n ∷ ns) (x ∷ xs) (task_then c ks r) f = (f.1, fresh_knows (asked_of x) 0 (ready_of x) (kids_of x) ks f.0.1, fresh_knows asked (suc i) ns xs r f.2)

  -- as many are counted as there are
  pub fresh_lengths : (asked : List ℕ) (i : ℕ) (ns : List ℕ) (xs : List Counts) (ks : Tasks) → FreshFrom all asked i ns xs ks → (length ns ≡ count ks) × (length xs ≡ count ks)
  fresh_lengths asked i [] [] no_tasks f = (refl, refl)
  fresh_lengths asked i (n ∷ ns) xs no_tasks f = absurd f
  fresh_lengths asked i [] (x ∷ xs) no_tasks f = absurd f
  fresh_lengths asked i [] xs (task_then c ks r) f = absurd f
  fresh_lengths asked i (n ∷ ns) [] (task_then c ks r) f = absurd f
  fresh_lengths asked i (n ∷ ns) (x ∷ xs) (task_then c ks r) f = (ap suc (fresh_lengths asked (suc i) ns xs r f.2).0, ap suc (fresh_lengths asked (suc i) ns xs r f.2).1)

  -- where none is to be asked, they are right whatever paths are held
  pub fresh_any : (every : List (List ℕ)) (i : ℕ) (ns : List ℕ) (xs : List Counts) (ks : Tasks) → FreshFrom all [] i ns xs ks → FreshFrom every [] i ns xs ks
  fresh_any every i [] [] no_tasks f = tt
  fresh_any every i (n ∷ ns) xs no_tasks f = absurd f
  fresh_any every i [] (x ∷ xs) no_tasks f = absurd f
  fresh_any every i [] xs (task_then c ks r) f = absurd f
  fresh_any every i (n ∷ ns) [] (task_then c ks r) f = absurd f
  fresh_any every i (n ∷ ns) (x ∷ xs) (task_then c ks r) f = (f.1 (λ h. h) every, λ h. f.1 (λ k. k), fresh_any every (suc i) ns xs r f.2)

  -- the counts of all children are those of what is below the task
  pub counted_each : (ks : Tasks) → counted (sum (ready_each all ks)) ≡ counted (ready_in all ks)
  counted_each no_tasks = refl
  counted_each (task_then c ks r) =
      let e : counted (sum (ready_each all r)) ≡ counted (ready_in all r) = counted_each r in
      let m : sum (ready_at all c ks ∷ ready_each all r) ≡ ready_at all c ks + sum (ready_each all r) = sum_by-cons (λ n. n) (ready_at all c ks) (ready_each all r) in
      by (ready_at all c ks) (one_if (may_act all c ks c.todo) + ready_in all ks) (sum (ready_each all r)) (ready_in all r) (sum (ready_at all c ks ∷ ready_each all r)) refl e m
    where
      by : (a b s t x : ℕ) → a ≡ counted b → counted s ≡ counted t → x ≡ a + s → counted x ≡ counted (b + t)
      by a b s t x h e m = omega (arith, h, e, m)

-- ---- a task whose count is right whatever paths are held

quiet : (all every : List (List ℕ)) (c : Desk) (ks : Tasks) (todo : List Next) → waits todo ≡ false → may_act all c ks todo ≡ may_act every c ks todo
quiet all every c ks [] h = refl
quiet all every c ks (put j i ∷ todo) h = refl
quiet all every c ks (hand_on n i ∷ todo) h = refl
quiet all every c ks (press which i ∷ todo) h = refl
quiet all every c ks (probe n e i ∷ todo) h = refl
quiet all every c ks (open_run n j e i ∷ todo) h = refl
quiet all every c ks (end_run j i ∷ todo) h = refl
quiet all every c ks (append x ∷ todo) h = absurd (true≢false h)
quiet all every c ks (shut_kids ∷ todo) h = refl
quiet all every c ks (join_kids f ∷ todo) h = refl
quiet all every c ks (start_table f e p ∷ todo) h = refl
quiet all every c ks (leave_kid e ∷ todo) h = refl

pub steady_by : (all : List (List ℕ)) (n : ℕ) (x : Counts) (c : Desk) (ks : Tasks) → waits c.todo ≡ false → asked_of x ≡ [] → n ≡ ready_at all c ks → Fresh all x ks → Steady n x c ks
steady_by all n x c ks w none e f = λ every.
    let g : FreshFrom all [] 0 (ready_of x) (kids_of x) ks = subst (λ z. FreshFrom all z 0 (ready_of x) (kids_of x) ks) none f in
    let h : FreshFrom every [] 0 (ready_of x) (kids_of x) ks = fresh_any all every 0 (ready_of x) (kids_of x) ks g in
    let p : ready_each all ks ≡ ready_each every ks = sym (fresh_each all [] 0 (ready_of x) (kids_of x) ks g) ∙ fresh_each every [] 0 (ready_of x) (kids_of x) ks h in
    let q : counted (sum (ready_each all ks)) ≡ counted (ready_in all ks) = counted_each all ks in
    let r : counted (sum (ready_each every ks)) ≡ counted (ready_in every ks) = counted_each every ks in
    let t : counted (sum (ready_each all ks)) ≡ counted (sum (ready_each every ks)) = ap (λ z. counted (sum z)) p in
    let o : one_if (may_act all c ks c.todo) ≡ one_if (may_act every c ks c.todo) = ap one_if (quiet all every c ks c.todo w) in
    (omega (arith, e, q, r, t, o), subst (λ z. FreshFrom every z 0 (ready_of x) (kids_of x) ks) (sym none) h)

-- ---- on the way

pub going_start : (all : List (List ℕ)) (asked : List ℕ) (i : ℕ) (ns : List ℕ) (xs : List Counts) (ks : Tasks) → count ks ≡ length ns → KnowsFrom asked i ns xs ks → GoingFrom all asked [] i ns xs ks
going_start all asked i [] [] no_tasks e k = tt
going_start all asked i [] [] (task_then c ks r) e k = absurd (omega (arith, e))
going_start all asked i (n ∷ ns) [] ks e k = absurd k
going_start all asked i [] (x ∷ xs) ks e k = absurd k
going_start all asked i (n ∷ ns) (x ∷ xs) no_tasks e k = absurd k
going_start all asked i (n ∷ ns) (x ∷ xs) (task_then c ks r) e k =
    (λ h. (k.0 h all, λ l. k.0 h), k.1, going_start all asked (suc i) ns xs r (omega (arith, e)) k.2)

module _ (all : List (List ℕ)) where
  pub going_done : (later : List ℕ) (i : ℕ) (ns : List ℕ) (xs : List Counts) (ks : Tasks) → GoingFrom all [] later i ns xs ks → FreshFrom all later i ns xs ks
  going_done later i [] [] no_tasks g = tt
  going_done later i (n ∷ ns) xs no_tasks g = absurd g
  going_done later i [] (x ∷ xs) no_tasks g = absurd g
  going_done later i [] xs (task_then c ks r) g = absurd g
  going_done later i (n ∷ ns) [] (task_then c ks r) g = absurd g
  going_done later i (n ∷ ns) (x ∷ xs) (task_then c ks r) g = ((g.0 (λ h. h)).0, (g.0 (λ h. h)).1, going_done later (suc i) ns xs r g.2)

  -- as many are counted as there are
  pub going_lengths : (asked later : List ℕ) (i : ℕ) (ns : List ℕ) (xs : List Counts) (ks : Tasks) → GoingFrom all asked later i ns xs ks → (length ns ≡ count ks) × (length xs ≡ count ks)
  going_lengths asked later i [] [] no_tasks g = (refl, refl)
  going_lengths asked later i (n ∷ ns) xs no_tasks g = absurd g
  going_lengths asked later i [] (x ∷ xs) no_tasks g = absurd g
  going_lengths asked later i [] xs (task_then c ks r) g = absurd g
  going_lengths asked later i (n ∷ ns) [] (task_then c ks r) g = absurd g
  going_lengths asked later i (n ∷ ns) (x ∷ xs) (task_then c ks r) g = (ap suc (going_lengths asked later (suc i) ns xs r g.2).0, ap suc (going_lengths asked later (suc i) ns xs r g.2).1)

  module _ (asked bsked later mater : List ℕ) (more : Within later mater) where
    or_later : (i n : ℕ) (x : Counts) (c : Desk) (ks : Tasks) → (¬ In i later → Steady n x c ks) → ¬ In i mater → Steady n x c ks
    or_later i n x c ks s h = s (λ k. h (more i k))

    -- another one than that at the place
    other : (p i n : ℕ) (x : Counts) (c : Desk) (ks : Tasks) → Within asked (p ∷ bsked) → (i ≡ p → ⊥) → (¬ In i asked → ((n ≡ ready_at all c ks) × Fresh all x ks) × (¬ In i later → Steady n x c ks))
        → ¬ In i bsked → ((n ≡ ready_at all c ks) × Fresh all x ks) × (¬ In i mater → Steady n x c ks)
    other p i n x c ks w d g h =
        let s : ((n ≡ ready_at all c ks) × Fresh all x ks) × (¬ In i later → Steady n x c ks) = g (λ k. ⊎_elim d h (w i k)) in
        (s.0, or_later i n x c ks s.1)

    -- those behind it, or in front of it
    pub going_past : (p i : ℕ) (ns : List ℕ) (xs : List Counts) (ks : Tasks) → Within asked (p ∷ bsked) → (p < i) ⊎ (i + count ks ≤ p) → GoingFrom all asked later i ns xs ks → GoingFrom all bsked mater i ns xs ks
    going_past p i [] [] no_tasks w o g = tt
    going_past p i (n ∷ ns) xs no_tasks w o g = absurd g
    going_past p i [] (x ∷ xs) no_tasks w o g = absurd g
    going_past p i [] xs (task_then c ks r) w o g = absurd g
    going_past p i (n ∷ ns) [] (task_then c ks r) w o g = absurd g
    going_past p i (n ∷ ns) (x ∷ xs) (task_then c ks r) w o g = (
      other p i n x c ks w (λ e. ⊎_elim (λ h. absurd (omega (arith, e, h))) (λ h. absurd (omega (arith, e, h))) o) g.0,
      g.1,
      going_past p (suc i) ns xs r w (⊎_elim (λ h. inl (omega (arith, h))) (λ h. inr (omega (arith, h))) o) g.2,
    )

    -- child j is counted anew
    pub going_ask : (j m : ℕ) (y : Counts) (d : Desk) (js : Tasks) (p i : ℕ) (ns : List ℕ) (xs : List Counts) (ks : Tasks) → p ≡ i + j → Within asked (p ∷ bsked) → KidIs j ks d js
        → ((m ≡ ready_at all d js) × Fresh all y js) × (In p mater ⊎ Steady m y d js) → GoingFrom all asked later i ns xs ks → GoingFrom all bsked mater i (set ns j m) (set xs j y) ks
    going_ask j m y d js p i [] [] no_tasks e w k s g = absurd k
    going_ask j m y d js p i (n ∷ ns) xs no_tasks e w k s g = absurd k
    going_ask j m y d js p i [] (x ∷ xs) no_tasks e w k s g = absurd k
    going_ask j m y d js p i [] xs (task_then c ks r) e w k s g = absurd g
    going_ask j m y d js p i (n ∷ ns) [] (task_then c ks r) e w k s g = absurd g
    going_ask zero m y d js p i (n ∷ ns) (x ∷ xs) (task_then c ks r) e w k s g =
        let q : p ≡ i = omega (arith, e) in
        let f : Fresh all y ks = subst (λ z. Fresh all y z) k.1 s.0.1 in (
          λ out. (
            (s.0.0 ∙ (λ v. ready_at all (k.0 v) (k.1 v)), f),
            λ l. ⊎_elim (λ h. absurd (l (subst (λ z. In z mater) q h))) (λ h. subst (λ z. Steady m y z ks) k.0 (subst (λ z. Steady m y d z) k.1 h)) s.1,
          ),
          fresh_knows all (asked_of y) 0 (ready_of y) (kids_of y) ks f,
          going_past p (suc i) ns xs r w (inl (omega (arith, q))) g.2,
        )
    going_ask (suc j) m y d js p i (n ∷ ns) (x ∷ xs) (task_then c ks r) e w k s g =
        (other p i n x c ks w (λ h. absurd (omega (arith, e, h))) g.0, g.1, going_ask j m y d js p (suc i) ns xs r (omega (arith, e)) w k s g.2)

  -- what is known of a child
  pub going_kid : (asked later : List ℕ) (j : ℕ) (d : Desk) (js : Tasks) (i : ℕ) (ns : List ℕ) (xs : List Counts) (ks : Tasks) (x : Counts) → KidIs j ks d js → GoingFrom all asked later i ns xs ks
      → get_or xs j x ≡ x → Knows x js
  going_kid asked later j d js i [] [] no_tasks x k g at = absurd k
  going_kid asked later j d js i (n ∷ ns) xs no_tasks x k g at = absurd k
  going_kid asked later j d js i [] (y ∷ xs) no_tasks x k g at = absurd k
  going_kid asked later j d js i [] xs (task_then c ks r) x k g at = absurd g
  going_kid asked later j d js i (n ∷ ns) [] (task_then c ks r) x k g at = absurd g
  going_kid asked later zero d js i (n ∷ ns) (y ∷ xs) (task_then c ks r) x k g at = subst (λ z. Knows z js) at (subst (λ z. Knows y z) (sym k.1) g.1)
  going_kid asked later (suc j) d js i (n ∷ ns) (y ∷ xs) (task_then c ks r) x k g at = going_kid asked later j d js (suc i) ns xs r x k g.2 at

  -- the counts below a child
  pub fresh_kid : (asked : List ℕ) (j : ℕ) (d : Desk) (js : Tasks) (i : ℕ) (ns : List ℕ) (xs : List Counts) (ks : Tasks) (x : Counts) → KidIs j ks d js → FreshFrom all asked i ns xs ks
      → get_or xs j x ≡ x → Fresh all x js
  fresh_kid asked j d js i [] [] no_tasks x k f at = absurd k
  fresh_kid asked j d js i (n ∷ ns) xs no_tasks x k f at = absurd k
  fresh_kid asked j d js i [] (y ∷ xs) no_tasks x k f at = absurd k
  fresh_kid asked j d js i [] xs (task_then c ks r) x k f at = absurd f
  fresh_kid asked j d js i (n ∷ ns) [] (task_then c ks r) x k f at = absurd f
  fresh_kid asked zero d js i (n ∷ ns) (y ∷ xs) (task_then c ks r) x k f at = subst (λ z. Fresh all z js) at (subst (λ z. Fresh all y z) (sym k.1) f.0.1)
  fresh_kid asked (suc j) d js i (n ∷ ns) (y ∷ xs) (task_then c ks r) x k f at = fresh_kid asked j d js (suc i) ns xs r x k f.2 at

-- more are to be asked
pub going_more : (all : List (List ℕ)) (asked bsked later mater : List ℕ) → Within asked bsked → Within later mater → (i : ℕ) (ns : List ℕ) (xs : List Counts) (ks : Tasks)
    → GoingFrom all asked later i ns xs ks → GoingFrom all bsked mater i ns xs ks
going_more all asked bsked later mater v w i [] [] no_tasks g = tt
going_more all asked bsked later mater v w i (n ∷ ns) xs no_tasks g = absurd g
going_more all asked bsked later mater v w i [] (x ∷ xs) no_tasks g = absurd g
going_more all asked bsked later mater v w i [] xs (task_then c ks r) g = absurd g
going_more all asked bsked later mater v w i (n ∷ ns) [] (task_then c ks r) g = absurd g
going_more all asked bsked later mater v w i (n ∷ ns) (x ∷ xs) (task_then c ks r) g = (
  λ h. let s : ((n ≡ ready_at all c ks) × Fresh all x ks) × (¬ In i later → Steady n x c ks) = g.0 (λ k. h (v i k)) in (s.0, λ l. s.1 (λ k. l (w i k))),
  g.1,
  going_more all asked bsked later mater v w (suc i) ns xs r g.2,
)
