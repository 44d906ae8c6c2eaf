-- A history of a plan's pairs.
use Rattle.std.proofs.Common.{◌≡◌, ℕ, suc, ◌+◌, ◌==◌, Bool, true, false, cond, bytes_eq, List, [], ◌∷◌, length, map, get_or, drop, Option, Some, None, is_some, refl, sym, ap, ap₂, ◌∙◌, subst, inl, inr, ⊎_elim, arith}
use Rattle.std.specs.Prelude.{if◌then◌else◌, unwrap_or}
use Rattle.std.proofs.lemmas.Bool.{cases_Bool, true≢false}
use Rattle.std.proofs.lemmas.Bool.Decides.{nat_tests}
use Rattle.std.specs.Cmp.Derive.{both_true}
use Rattle.vx_model.specs.Ty.{struct}
use Rattle.vx_path.specs.Lists.{In}
use Rattle.vx_path.specs.Path.{path_le, meets, Scattered}
use Rattle.vx_path.specs.Sort.{sort}
use Rattle.vx_path.proofs.Lists.{in_left, in_right}
use Rattle.vx_path.proofs.Path.{path_le-refl, path_le-antisym, meets-refl}
use Rattle.vx_path.proofs.Sort.{from_sorted, map-sort_by}
use Rattle.vx_layout_spec.specs.LayoutTree.{LayoutData, LayoutList, layout, no_layouts, child, lays_of, renamed, each_renamed, struct_kind}
use Rattle.vx_strategy_spec.specs.StrategyData.{structured}
use Rattle.vx_plan.specs.PlanData.{Pair, Plan, row_total}
use Rattle.vx_plan.specs.PlanData as plans
use Rattle.vx_plan.specs.ChunkedNode.{all_pairs, all_layouts}
use Rattle.vx_plan.specs.SourcePlan.{batch_items, source_plan}
use Rattle.vx_plan.specs.Number.{path_of, sorted, place_of, number_of}
use Rattle.vx_plan.proofs.SourceLaws.{paths_distinct}
use Rattle.vx_order_answer.specs.declared.receipt.Receipt.{Receipt}
use Rattle.vx_seats.specs.History.{same, bytes_for, bytes_at, all_listed, ascends, paths, numbered, stored}
use Rattle.vx_seats.specs.History as seats
use Rattle.vx_seats.proofs.History.{left_true, right_true, bytes_found}
use Rattle.vx_column_plan.specs.Columns.{columns_by, batch_plans, IsBeside}
use Rattle.vx_column_plan.specs.Shared.{allowed_by, number_by, ColumnsAreAllowed, IsWhole, WholeIsPlanned, ColumnsAreLaid, HistoryIsOfPlan}
use Rattle.vx_column_plan.proofs.ColumnLaws.{struct_is_columns}

-- ---- one path

same_is : (p q : List ℕ) → same p q ≡ true → p ≡ q
same_is p q h = path_le-antisym p q (left_true (path_le p q) (path_le q p) h) (right_true (path_le p q) (path_le q p) h)

same_self : (p : List ℕ) → same p p ≡ true
same_self p = both_true (path_le-refl p) (path_le-refl p)

in_paths : (x : Pair) (xs : List Pair) → In x xs → In x.0 (plans.paths xs)
in_paths x [] h = absurd h
in_paths x (y ∷ ys) h = ⊎_elim (λ e. inl (ap path_of e)) (λ i. inr (in_paths x ys i)) h

-- where no two pairs have one path, each is found
allowed : (xs : List Pair) (x : Pair) → Scattered (plans.paths xs) → In x xs → bytes_for (allowed_by xs) x.0 ≡ Some x.1
allowed [] x s i = absurd i
allowed (y ∷ ys) x s i = ⊎_elim
    (λ e. subst (λ (z : Pair). cond (same z.0 y.0) (Some y.1) (bytes_for (allowed_by ys) z.0) ≡ Some z.1) (sym e)
    (ap (λ b. cond b (Some y.1) (bytes_for (allowed_by ys) y.0)) (same_self y.0)))
    (λ j. ⊎_elim
    (λ t. absurd (true≢false (sym (meets-refl y.0) ∙ ap (λ z. meets y.0 z) (sym (same_is x.0 y.0 t)) ∙ s.0 x.0 (in_paths x ys j))))
    (λ f. ap (λ b. cond b (Some y.1) (bytes_for (allowed_by ys) x.0)) f ∙ allowed ys x s.1 j)
    (cases_Bool (same x.0 y.0)))
    i

in_all : (p : Plan) (x : Pair) (ps : List Plan) → In p ps → In x p.pairs → In x (all_pairs ps)
in_all p x [] h i = absurd h
in_all p x (q ∷ ps) h i = ⊎_elim (λ e. in_left x q.pairs (all_pairs ps) (subst (λ (z : Plan). In x z.pairs) e i)) (λ j. in_right x q.pairs (all_pairs ps) (in_all p x ps j i)) h

pub columns_are_allowed : ColumnsAreAllowed
columns_are_allowed s v d ws m fs n bs ended p x h i j =
    let b : IsBeside (source_plan s (structured v d ws) (struct fs n) m bs ended) (struct fs n) bs (length (columns_by v d ws m fs n)) (batch_plans s (columns_by v d ws m fs n) fs n bs ended)
    = struct_is_columns s v d ws m fs n bs ended h in
    allowed (source_plan s (structured v d ws) (struct fs n) m bs ended).pairs x (paths_distinct s (structured v d ws) (struct fs n) m bs ended)
    (subst (λ z. In x z) (sym b.pairs) (in_all p x (batch_plans s (columns_by v d ws m fs n) fs n bs ended) i j))

-- ---- a history of all pairs

paths_are : (xs : List Pair) → map (λ c. c.path) (allowed_by xs) ≡ map path_of xs
paths_are [] = refl
paths_are (x ∷ xs) = ap (λ z. x.0 ∷ z) (paths_are xs)

first_is : (p q : List ℕ) (ps qs : List (List ℕ)) → p ∷ ps ≡ q ∷ qs → p ≡ q
first_is p q ps qs e = ap (λ (z : List (List ℕ)). get_or z 0 p) e

rest_is : (p q : List ℕ) (ps qs : List (List ℕ)) → p ∷ ps ≡ q ∷ qs → ps ≡ qs
rest_is p q ps qs e = ap (λ (z : List (List ℕ)). drop 1 z) e

longer : (p : List ℕ) (ps : List (List ℕ)) → [] ≡ p ∷ ps → ⊥
longer p ps e = let n : 0 ≡ suc (length ps) = ap length e in absurd (omega (arith, n))

bytes_are : (all : List seats.Pair) (rs : List Receipt) (qs : List Pair) → paths rs ≡ map path_of qs → ((q : Pair) → In q qs → bytes_for all q.0 ≡ Some q.1) → stored all rs ≡ plans.stored qs
bytes_are all [] [] e f = refl
bytes_are all [] (q ∷ qs) e f = absurd (longer q.0 (map path_of qs) e)
bytes_are all (r ∷ rs) [] e f = absurd (longer r.path (paths rs) (sym e))
bytes_are all (r ∷ rs) (q ∷ qs) e f =
    let one : r.path ≡ q.0 = first_is r.path q.0 (paths rs) (map path_of qs) e in
    ap₂ (λ x y. x ∷ y) (bytes_found all r.path q.1 (ap (bytes_for all) one ∙ f q (inl refl)))
    (bytes_are all rs qs (rest_is r.path q.0 (paths rs) (map path_of qs) e) (λ z i. f z (inr i)))

number_is : (m n : ℕ) → (m == n) ≡ true → m ≡ n
number_is m n h = grind (arith, nat_tests)

numbers_are : (path : List ℕ) (n : ℕ) (rs : List Receipt) (qs : List Pair) → paths rs ≡ map path_of qs → numbered n rs ≡ true → number_by n rs path ≡ n + place_of path qs
numbers_are path n [] [] e h = omega arith
numbers_are path n [] (q ∷ qs) e h = absurd (longer q.0 (map path_of qs) e)
numbers_are path n (r ∷ rs) [] e h = absurd (longer r.path (paths rs) (sym e))
numbers_are path n (r ∷ rs) (q ∷ qs) e h =
    let one : r.path ≡ q.0 = first_is r.path q.0 (paths rs) (map path_of qs) e in
    let here : r.number ≡ n = number_is r.number n (left_true (r.number == n) (numbered (n + 1) rs) h) in
    let more : number_by (n + 1) rs path ≡ (n + 1) + place_of path qs
    = numbers_are path (n + 1) rs qs (rest_is r.path q.0 (paths rs) (map path_of qs) e) (right_true (r.number == n) (numbered (n + 1) rs) h) in
    ap (λ p. if bytes_eq path p then r.number else number_by (n + 1) rs path) one ∙ go (bytes_eq path q.0) here more
  where
    go : (b : Bool) → r.number ≡ n → number_by (n + 1) rs path ≡ (n + 1) + place_of path qs
        → (if b then r.number else number_by (n + 1) rs path) ≡ n + (if b then 0 else suc (place_of path qs))
    go true e f = omega (arith, e)
    go false e f = omega (arith, f)

map_same : {A B : Type 0} (f g : A → B) → ((x : A) → f x ≡ g x) → (xs : List A) → map f xs ≡ map g xs
map_same f g e [] = refl
map_same f g e (x ∷ xs) = ap₂ (λ y ys. y ∷ ys) (e x) (map_same f g e xs)

-- a layout is renamed the same way by all that give the same names
module _ {A B : Type 0} (f g : A → B) (e : (x : A) → f x ≡ g x) where
  mutual
    renamed_same : (l : LayoutData A) → renamed f l ≡ renamed g l
    renamed_same (layout k t n names ls) = ap₂ (λ ns cs. layout k t n ns cs) (map_same f g e names) (each_same ls)

    each_same : (ls : LayoutList A) → each_renamed f ls ≡ each_renamed g ls
    each_same no_layouts = refl
    each_same (child l ls) = ap₂ child (renamed_same l) (each_same ls)

pub whole_is_planned : WholeIsPlanned
whole_is_planned p first rs s e h =
    let in_order : paths rs ≡ map path_of (sorted p.pairs) = e ∙ ap sort (paths_are p.pairs) ∙ sym (map-sort_by path_of p.pairs) in
    let each : (path : List ℕ) → number_by first rs path ≡ number_of p.pairs first path = λ path. numbers_are path first rs (sorted p.pairs) in_order h in
    record {
      segments_are = bytes_are (allowed_by p.pairs) rs (sorted p.pairs) in_order (λ q i. allowed p.pairs q s (from_sorted path_of q p.pairs i));
      numbers_are = each;
      layout_is = renamed_same (number_by first rs) (number_of p.pairs first) each p.layout;
    }

-- ---- the columns' layouts

renamed_all : {A B : Type 0} (f : A → B) (ls : List (LayoutData A)) → each_renamed f (lays_of ls) ≡ lays_of (map (renamed f) ls)
renamed_all f [] = refl
renamed_all f (l ∷ ls) = ap (λ z. child (renamed f l) z) (renamed_all f ls)

pub columns_are_laid : ColumnsAreLaid
columns_are_laid s v d ws m fs n bs first rs h e k =
    let p : Plan = source_plan s (structured v d ws) (struct fs n) m bs true in
    let b : IsBeside p (struct fs n) bs (length (columns_by v d ws m fs n)) (batch_plans s (columns_by v d ws m fs n) fs n bs true)
    = struct_is_columns s v d ws m fs n bs true h in
    let w : IsWhole p first rs = whole_is_planned p first rs (paths_distinct s (structured v d ws) (struct fs n) m bs true) e k in
    sym w.layout_is ∙ ap (renamed (number_by first rs)) b.layout
    ∙ ap (λ z. layout struct_kind (struct fs n) (row_total (batch_items 0 bs)) [] z) (renamed_all (number_by first rs) (all_layouts (batch_plans s (columns_by v d ws m fs n) fs n bs true)))

-- ---- some of the pairs

some_is : {A : Type 0} (x y : A) → Some x ≡ Some y → x ≡ y
some_is x y e = ap (λ o. unwrap_or o x) e

found_pair : (xs : List Pair) (p b : List ℕ) → bytes_for (allowed_by xs) p ≡ Some b → In {A = Pair} (p, b) xs
found_pair [] p b e = absurd (true≢false (sym (ap is_some e)))
found_pair (x ∷ xs) p b e = ⊎_elim
    (λ t. inl (ap₂ (λ (y z : List ℕ). (y, z)) (same_is p x.0 t) (sym (some_is x.1 b (sym (ap (λ c. cond c (Some x.1) (bytes_for (allowed_by xs) p)) t) ∙ e)))))
    (λ f. inr (found_pair xs p b (sym (ap (λ c. cond c (Some x.1) (bytes_for (allowed_by xs) p)) f) ∙ e)))
    (cases_Bool (same p x.0))

abbrev pairs_by : List seats.Pair → List Receipt → List Pair
pairs_by all [] = []
pairs_by all (r ∷ rs) = (r.path, bytes_at all r.path) ∷ pairs_by all rs

paths_by : (all : List seats.Pair) (rs : List Receipt) → plans.paths (pairs_by all rs) ≡ paths rs
paths_by all [] = refl
paths_by all (r ∷ rs) = ap (λ z. r.path ∷ z) (paths_by all rs)

stored_by : (all : List seats.Pair) (rs : List Receipt) → stored all rs ≡ plans.stored (pairs_by all rs)
stored_by all [] = refl
stored_by all (r ∷ rs) = ap (λ z. bytes_at all r.path ∷ z) (stored_by all rs)

is_found : (o : Option (List ℕ)) → is_some o ≡ true → o ≡ Some (unwrap_or o [])
is_found None h = absurd (true≢false (sym h))
is_found (Some b) h = refl

within : (xs : List Pair) (rs : List Receipt) → all_listed (allowed_by xs) (paths rs) ≡ true → (x : Pair) → In x (pairs_by (allowed_by xs) rs) → In x xs
within xs [] h x i = absurd i
within xs (r ∷ rs) h x i = ⊎_elim
    (λ e. subst (λ (z : Pair). In z xs) (sym e)
    (found_pair xs r.path (bytes_at (allowed_by xs) r.path)
    (is_found (bytes_for (allowed_by xs) r.path) (left_true (is_some (bytes_for (allowed_by xs) r.path)) (all_listed (allowed_by xs) (paths rs)) h))))
    (λ j. within xs rs (right_true (is_some (bytes_for (allowed_by xs) r.path)) (all_listed (allowed_by xs) (paths rs)) h) x j)
    i

pub history_is_of_plan : HistoryIsOfPlan
history_is_of_plan p rs a l = record {
  some = pairs_by (allowed_by p.pairs) rs;
  ascend = ap ascends (paths_by (allowed_by p.pairs) rs) ∙ a;
  within = within p.pairs rs l;
  bytes = stored_by (allowed_by p.pairs) rs;
}
