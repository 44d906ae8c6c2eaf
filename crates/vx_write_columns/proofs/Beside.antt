-- The columns' courses, beside each other, are the struct's plan.
use Rattle.std.proofs.Common.{◌≡◌, ◌+◌, ◌∷◌, ◌++◌, ◌∙◌, ℕ, zero, suc, Bool, true, List, map, length, Option, Some, None, slice_get, refl, sym, ap, ap₂, subst, inl, inr, ⊎_elim, arith, []}
use Rattle.std.specs.Prelude.{sum_by}
use Rattle.std.proofs.lemmas.List.Sums.{sum_by-cons}
use Rattle.vx_model.specs.Ty.{Tys, struct}
use Rattle.vx_model.specs.ChunkData.{ChunkData}
use Rattle.vx_path.specs.Lists.{In}
use Rattle.vx_path.specs.Path.{Scattered}
use Rattle.vx_path.specs.Sort.{sort}
use Rattle.vx_path.proofs.Lists.{in_left, in_right, in_map}
use Rattle.vx_path.proofs.Sort.{in_sorted}
use Rattle.vx_layout_spec.specs.LayoutTree.{LayoutData, renamed, struct_layout}
use Rattle.vx_strategy_spec.specs.StrategyData.{StrategyData, StrategyList, structured}
use Rattle.vx_strategy_spec.specs.Walk.{duplicate}
use Rattle.vx_plan.specs.PlanData.{Setting, Pair, Plan, Fault, row_total, row_totals}
use Rattle.vx_plan.specs.PlanData as plans
use Rattle.vx_plan.specs.ChunkedNode.{all_pairs, all_faults, all_layouts, all_numbers}
use Rattle.vx_plan.specs.SourcePlan.{batch_items, source_plan}
use Rattle.vx_plan.specs.Number as numbers
use Rattle.vx_plan.specs.Valid.{Fit}
use Rattle.vx_plan.proofs.ChunkedLaws.{paths-append}
use Rattle.vx_plan.proofs.SourceLaws.{paths_distinct}
use Rattle.vx_plan.proofs.Spots.{scattered_left, scattered_right}
use Rattle.vx_order_answer.specs.declared.receipt.Receipt.{Receipt}
use Rattle.vx_seats.specs.History.{paths, numbered}
use Rattle.vx_column_plan.specs.Columns.{Column, columns_by, batch_plans, IsBeside}
use Rattle.vx_column_plan.specs.Shared.{allowed_by, number_by}
use Rattle.vx_column_plan.proofs.ColumnLaws.{struct_is_columns}
use Rattle.vx_column_plan.proofs.SharedLaws.{columns_are_allowed, columns_are_laid}
use Rattle.vx_own_plans.specs.OwnPlans.{column_chunks}
use Rattle.vx_own_plans.proofs.OwnLaws.{columns_write_their_own}
use Rattle.vx_column_worker.specs.Course.{Course, plan_of}
use Rattle.vx_column_worker.specs.Jobs.{AllAllowed}
use Rattle.vx_write_columns.specs.Courses.{column_courses, pairs_beside}
use Rattle.vx_write_columns.specs.Numbers.{AllIn, AllStandIn, layouts_by}
use Rattle.vx_write_columns.specs.Shared.{AllClean}

-- ---- lists

same_some : {A : Type 0} (x y : A) → Some x ≡ Some y → x ≡ y
same_some x y e = cc

none_some : {A : Type 0} (x : A) → None ≡ Some x → ⊥
none_some x e = cc

in_get : {A : Type 0} (xs : List A) (k : ℕ) (x : A) → slice_get xs k ≡ Some x → In x xs
in_get [] k x e = absurd (none_some x e)
in_get (a ∷ xs) zero x e = inl (sym (same_some a x e))
in_get (a ∷ xs) (suc k) x e = inr (in_get xs k x e)

fit_append : (ns ms : List ℕ) → Fit ns → Fit ms → Fit (ns ++ ms)
fit_append [] ms g h = h
fit_append (n ∷ ns) ms g h = (g.0, fit_append ns ms g.1 h)

in_allowed : (y : List ℕ) (ps : List Pair) → In y (plans.paths ps) → In y (map (λ c. c.path) (allowed_by ps))
in_allowed y [] h = absurd h
in_allowed y (p ∷ ps) h = ⊎_elim (λ e. inl e) (λ i. inr (in_allowed y ps i)) h

-- ---- plans beside each other

counts_of : (xs : List Course) → sum_by (λ x. length (plan_of x).pairs) xs ≡ sum_by (λ q. length q.pairs) (map plan_of xs)
counts_of [] = refl
counts_of (x ∷ xs) =
    sum_by-cons (λ (y : Course). length (plan_of y).pairs) x xs ∙ ap (λ z. length (plan_of x).pairs + z) (counts_of xs)
    ∙ sym (sum_by-cons (λ (r : Plan). length r.pairs) (plan_of x) (map plan_of xs))

clean_faults : (xs : List Course) → AllClean xs → all_faults (map plan_of xs) ≡ []
clean_faults [] c = refl
clean_faults (x ∷ xs) c = ap₂ (λ (a b : List Fault). a ++ b) c.0 (clean_faults xs c.2)

clean_fit : (xs : List Course) → AllClean xs → Fit (all_numbers (map plan_of xs))
clean_fit [] c = tt
clean_fit (x ∷ xs) c = fit_append (plan_of x).numbers (all_numbers (map plan_of xs)) c.1 (clean_fit xs c.2)

stand_at : (rs : List Receipt) (qs : List Plan) → Scattered (plans.paths (all_pairs qs)) → AllIn (plans.paths (all_pairs qs)) (paths rs) → AllStandIn rs qs
stand_at rs [] a f = tt
stand_at rs (q ∷ qs) a f =
    let split : plans.paths (q.pairs ++ all_pairs qs) ≡ plans.paths q.pairs ++ plans.paths (all_pairs qs) = paths-append q.pairs (all_pairs qs) in
    let apart : Scattered (plans.paths q.pairs ++ plans.paths (all_pairs qs)) = subst (λ z. Scattered z) split a in
    let stand : AllIn (plans.paths q.pairs ++ plans.paths (all_pairs qs)) (paths rs) = subst (λ z. AllIn z (paths rs)) split f in (
      record { apart = scattered_left (plans.paths q.pairs) (plans.paths (all_pairs qs)) apart; stand = λ y i. stand y (in_left y (plans.paths q.pairs) (plans.paths (all_pairs qs)) i) },
      stand_at rs qs (scattered_right (plans.paths q.pairs) (plans.paths (all_pairs qs)) apart) (λ y i. stand y (in_right y (plans.paths q.pairs) (plans.paths (all_pairs qs)) i)),
    )

layouts_at : (f : List ℕ → ℕ) (qs : List Plan) → layouts_by f qs ≡ map (renamed f) (all_layouts qs)
layouts_at f [] = refl
layouts_at f (q ∷ qs) = ap (λ z. renamed f q.layout ∷ z) (layouts_at f qs)

-- ---- the columns of a struct

module _ (s : Setting) (fs : Tys) (n : Bool) (bs : List ChunkData) where
  abbrev pub course_at : ℕ → Column → Course
  course_at k c = record { setting = s; column = c; number = k; chunks = column_chunks k fs n bs }

  -- by place
  plans_at : (j : ℕ) (cs : List Column) (qs : List Plan) → length cs ≡ length qs → ((k : ℕ) (c : Column) → slice_get cs k ≡ Some c → slice_get qs k ≡ Some (plan_of (course_at (j + k) c)))
      → map plan_of (column_courses s fs n bs j cs) ≡ qs
  plans_at j [] [] e f = refl
  plans_at j [] (q ∷ qs) e f = absurd (omega (arith, e))
  plans_at j (c ∷ cs) [] e f = absurd (omega (arith, e))
  plans_at j (c ∷ cs) (q ∷ qs) e f = ap₂ (λ (a : Plan) (b : List Plan). a ∷ b) head (plans_at (suc j) cs qs (omega (arith, e)) next)
    where
      head : plan_of (course_at j c) ≡ q
      head =
          let z : j ≡ j + 0 = omega arith in
          ap (λ v. plan_of (course_at v c)) z ∙ sym (same_some q (plan_of (course_at (j + 0) c)) (f 0 c refl))

      next : (k : ℕ) (d : Column) → slice_get cs k ≡ Some d → slice_get qs k ≡ Some (plan_of (course_at (suc j + k) d))
      next k d i =
          let z : j + suc k ≡ suc j + k = omega arith in
          f (suc k) d i ∙ ap (λ v. Some (plan_of (course_at v d))) z

module _ (s : Setting) (v d : StrategyData) (ws : StrategyList) (m : Bool) (fs : Tys) (n : Bool) (bs : List ChunkData) (distinct : duplicate fs ≡ None) where
  abbrev ks : List Column
  ks = columns_by v d ws m fs n

  abbrev xs : List Course
  xs = column_courses s fs n bs 0 ks

  abbrev qs : List Plan
  qs = batch_plans s ks fs n bs true

  abbrev p : Plan
  p = source_plan s (structured v d ws) (struct fs n) m bs true

  pub beside : IsBeside p (struct fs n) bs (length ks) qs
  beside = struct_is_columns s v d ws m fs n bs true distinct

  plans_are : map plan_of xs ≡ qs
  plans_are = plans_at s fs n bs 0 ks qs beside.count_is (λ k c e.
      let z : k ≡ 0 + k = omega arith in
      (columns_write_their_own s ks k c fs n bs true e).at ∙ ap (λ i. Some (plan_of (course_at s fs n bs i c))) z)

  -- the plan of the column of this number is one of them
  pub place_in : (k : ℕ) (x : Course) → slice_get xs k ≡ Some x → In (plan_of x) qs
  place_in k x e = subst (λ (z : List Plan). In (plan_of x) z) plans_are (in_map plan_of x xs (in_get xs k x e))

  pub pairs_are : pairs_beside xs ≡ p.pairs
  pairs_are = ap all_pairs plans_are ∙ sym beside.pairs

  pub counts_are : sum_by (λ x. length (plan_of x).pairs) xs ≡ length p.pairs
  counts_are = counts_of xs ∙ ap (sum_by (λ (q : Plan). length q.pairs)) plans_are ∙ sym beside.sum

  pub all_allowed : (k : ℕ) (x : Course) → slice_get xs k ≡ Some x → AllAllowed (allowed_by p.pairs) (plan_of x).pairs
  all_allowed k x e y i = columns_are_allowed s v d ws m fs n bs true (plan_of x) y distinct (place_in k x e) i

  pub all_stand : (rs : List Receipt) → paths rs ≡ sort (map (λ c. c.path) (allowed_by p.pairs)) → AllStandIn rs (map plan_of xs)
  all_stand rs e =
      subst (λ (z : List Plan). AllStandIn rs z) (sym plans_are)
      (stand_at rs qs (subst (λ z. Scattered (plans.paths z)) beside.pairs (paths_distinct s (structured v d ws) (struct fs n) m bs true)) (λ y i.
      subst (λ z. In y z) (sym e) (in_sorted (λ q. q) y (map (λ c. c.path) (allowed_by p.pairs)) (in_allowed y p.pairs (subst (λ z. In y (plans.paths z)) (sym beside.pairs) i)))))

  pub layouts_are : (first : ℕ) (rs : List Receipt) → paths rs ≡ sort (map (λ c. c.path) (allowed_by p.pairs)) → numbered first rs ≡ true
      → struct_layout (struct fs n) (row_total (batch_items 0 bs)) (layouts_by (number_by first rs) (map plan_of xs)) ≡ numbers.numbered p first
  layouts_are first rs e h =
      ap (λ (z : List (LayoutData ℕ)). struct_layout (struct fs n) (row_total (batch_items 0 bs)) z) (ap (λ (z : List Plan). layouts_by (number_by first rs) z) plans_are ∙ layouts_at (number_by first rs) qs)
      ∙ sym (columns_are_laid s v d ws m fs n bs first rs distinct e h)

  pub faults_none : AllClean xs → p.faults ≡ []
  faults_none c = beside.faults ∙ ap all_faults (sym plans_are) ∙ clean_faults xs c

  pub numbers_fit : Fit (length bs ∷ (row_totals (batch_items 0 bs) ++ (length ks ∷ (1 + length ks) ∷ []))) → AllClean xs → Fit p.numbers
  numbers_fit f c =
      subst (λ z. Fit z) (sym beside.numbers)
      (f.0, fit_append (row_totals (batch_items 0 bs) ++ (length ks ∷ (1 + length ks) ∷ [])) (all_numbers qs) f.1 (subst (λ (z : List Plan). Fit (all_numbers z)) plans_are (clean_fit xs c)))
