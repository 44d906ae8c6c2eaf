-- A path's place in a history that ascends.
use Rattle.std.proofs.Common.{◌≡◌, ◌⊎◌, ℕ, zero, suc, ◌+◌, ◌<◌, ◌≤◌, Bool, true, false, bytes_eq, List, [], ◌∷◌, length, ◌++◌, get_or, take, map, Contains, inl, inr, ⊎_elim, refl, sym, ap, subst, ◌∙◌, arith}
use Rattle.std.specs.Prelude.{if◌then◌else◌}
use Rattle.std.specs.Cmp.Lexicographic.{bytes_decides}
use Rattle.std.proofs.lemmas.Bool.{cases_Bool, cases_lt, true≢false}
use Rattle.std.proofs.lemmas.List.{map_push, map_more}
use Rattle.vx_model.specs.declared.segment.SegmentId.{SegmentId}
use Rattle.vx_path.specs.Lists.{In}
use Rattle.vx_path.specs.Path.{path_le, path_lt}
use Rattle.vx_path.proofs.Lists.{in_map, from_map, in_contains}
use Rattle.vx_path.proofs.Path.{path_le-refl, path_le-antisym, lt_le, lt_irrefl}
use Rattle.vx_layout_tree.specs.LayoutView.{number}
use Rattle.vx_order_answer.specs.declared.receipt.Receipt.{Receipt}
use Rattle.vx_seats.specs.History.{leads, ascends, paths}
use Rattle.vx_seats.proofs.History.{right_true}
use Rattle.vx_seats.proofs.Whole.{below_all}
use Rattle.vx_column_plan.specs.Shared.{number_by}
use Rattle.vx_column_layouts.specs.Numbers.{AllIn}

tail_ascends : (r : Receipt) (rs : List Receipt) → ascends (paths (r ∷ rs)) ≡ true → ascends (paths rs) ≡ true
tail_ascends r rs h = right_true (leads r.path (paths rs)) (ascends (paths rs)) h

-- ---- entries by their places

in_place : {A : Type 0} (xs : List A) (k : ℕ) (x : A) → k < length xs → x ≡ get_or xs k x → In x xs
in_place [] k x l e = absurd (omega (arith, l))
in_place (y ∷ xs) zero x l e = inl e
in_place (y ∷ xs) (suc k) x l e = inr (in_place xs k x (omega (arith, l)) e)

one_place : {A : Type 0} (xs : List A) (k : ℕ) (x y : A) → k < length xs → x ≡ get_or xs k x → y ≡ get_or xs k y → x ≡ y
one_place [] k x y l e f = absurd (omega (arith, l))
one_place (z ∷ xs) zero x y l e f = e ∙ sym f
one_place (z ∷ xs) (suc k) x y l e f = one_place xs k x y (omega (arith, l)) e f

-- an earlier entry's path is below a later one's
below : (rs : List Receipt) (i j : ℕ) (r q : Receipt) → ascends (paths rs) ≡ true → i < j → j < length rs → r ≡ get_or rs i r → q ≡ get_or rs j q → path_lt r.path q.path ≡ true
below [] i j r q h o l e f = absurd (omega (arith, l))
below (x ∷ rs) i zero r q h o l e f = absurd (omega (arith, o))
below (x ∷ rs) zero (suc j) r q h o l e f =
    subst (λ (z : Receipt). path_lt z.path q.path ≡ true) (sym e)
    (below_all x.path (paths rs) h q.path (in_map (λ (z : Receipt). z.path) q rs (in_place rs j q (omega (arith, l)) f)))
below (x ∷ rs) (suc i) (suc j) r q h o l e f = below rs i j r q (tail_ascends x rs h) (omega (arith, o)) (omega (arith, l)) e f

-- ---- the number of an entry's path

number_there : (rs : List Receipt) (k : ℕ) (r : Receipt) (path : List ℕ) → ascends (paths rs) ≡ true → k < length rs → r ≡ get_or rs k r → r.path ≡ path
    → (first : ℕ) → number_by first rs path ≡ r.number
number_there [] k r path h l e s first = absurd (omega (arith, l))
number_there (x ∷ rs) zero r path h l e s first =
    let same : bytes_eq path x.path ≡ true = (bytes_decides path x.path).1 (sym s ∙ ap (λ (z : Receipt). z.path) e) in
    ap (λ b. if b then x.number else number_by (first + 1) rs path) same ∙ ap (λ (z : Receipt). z.number) (sym e)
number_there (x ∷ rs) (suc k) r path h l e s first = ⊎_elim
    (λ t. absurd (lt_irrefl x.path (subst (λ z. path_lt x.path z ≡ true) (s ∙ (bytes_decides path x.path).0 t) later)))
    (λ f. ap (λ b. if b then x.number else number_by (first + 1) rs path) f ∙ number_there rs k r path (tail_ascends x rs h) (omega (arith, l)) e s (first + 1))
    (cases_Bool (bytes_eq path x.path))
  where
    later : path_lt x.path r.path ≡ true
    later = below_all x.path (paths rs) h r.path (in_map (λ (z : Receipt). z.path) r rs (in_place rs k r (omega (arith, l)) e))

-- so it is where an entry is read three times
pub number_found : (rs : List Receipt) (k : ℕ) (r q s : Receipt) (path : List ℕ) → ascends (paths rs) ≡ true → k < length rs → r ≡ get_or rs k r → q ≡ get_or rs k q → s ≡ get_or rs k s
    → path_le r.path path ≡ true → path_le path q.path ≡ true → (first : ℕ) → s.number ≡ number_by first rs path
number_found rs k r q s path h l e f g low high first =
    let rq : r ≡ q = one_place rs k r q l e f in
    let same : r.path ≡ path = path_le-antisym r.path path low (subst (λ (z : Receipt). path_le path z.path ≡ true) (sym rq) high) in
    ap (λ (z : Receipt). z.number) (one_place rs k s r l g e) ∙ sym (number_there rs k r path h l e same first)

-- ---- halves

at_most : (m k : ℕ) → m ≤ k → (m < k) ⊎ (m ≡ k)
at_most m k le = ⊎_elim (λ a. inl a) (λ b. inr (omega (arith, le, b))) (cases_lt m k)

-- wherever the path stands in the history, it is among these places
pub record Within (rs : List Receipt) (path : List ℕ) (low high : ℕ) : Type 0 where
  pub within : (k : ℕ) (r : Receipt) → k < length rs → r ≡ get_or rs k r → r.path ≡ path → (low ≤ k) × (k < high)

pub all_within : (rs : List Receipt) (path : List ℕ) → Within rs path 0 (length rs)
all_within rs path = record { within = λ k r l e s. (omega arith, l) }

module _ (rs : List Receipt) (path : List ℕ) (low high middle : ℕ) (m : Receipt) (h : ascends (paths rs) ≡ true) (l : middle < length rs) (is : m ≡ get_or rs middle m) (w : Within rs path low high) where
  -- the middle one is above the path
  pub lower : path_le m.path path ≡ false → Within rs path low middle
  lower above = record { within = λ k r n e s. ((w.within k r n e s).0, before k r n e s (cases_lt k middle)) }
    where
      before : (k : ℕ) (r : Receipt) → k < length rs → r ≡ get_or rs k r → r.path ≡ path → (k < middle) ⊎ (middle ≤ k) → k < middle
      before k r n e s (inl o) = o
      before k r n e s (inr o) = absurd (true≢false (sym le ∙ above))
        where
          le : path_le m.path path ≡ true
          le = ⊎_elim
              (λ a. lt_le m.path path (subst (λ z. path_lt m.path z ≡ true) s (below rs middle k m r h a n is e)))
              (λ a. subst (λ z. path_le m.path z ≡ true) (ap (λ (z : Receipt). z.path) (one_place rs middle m r l is (subst (λ j. r ≡ get_or rs j r) (sym a) e)) ∙ s) (path_le-refl m.path))
              (at_most middle k o)

  -- it is below the path
  pub raise : path_le path m.path ≡ false → Within rs path (middle + 1) high
  raise above = record { within = λ k r n e s. (behind k r n e s (cases_lt middle k), (w.within k r n e s).1) }
    where
      behind : (k : ℕ) (r : Receipt) → k < length rs → r ≡ get_or rs k r → r.path ≡ path → (middle < k) ⊎ (k ≤ middle) → middle + 1 ≤ k
      behind k r n e s (inl o) = omega (arith, o)
      behind k r n e s (inr o) = absurd (true≢false (sym le ∙ above))
        where
          le : path_le path m.path ≡ true
          le = ⊎_elim
              (λ a. lt_le path m.path (subst (λ z. path_lt z m.path ≡ true) s (below rs k middle r m h a l e is)))
              (λ a. subst (λ z. path_le z m.path ≡ true) (ap (λ (z : Receipt). z.path) (one_place rs middle m r l is (subst (λ j. r ≡ get_or rs j r) a e)) ∙ s) (path_le-refl m.path))
              (at_most k middle o)

-- no place is left, so the path isn't there
pub none_within : (rs : List Receipt) (path : List ℕ) (low high : ℕ) → Within rs path low high → high ≤ low → In path (paths rs) → ⊥
none_within rs path low high w e i =
    let r : (x : Receipt) × In x rs × (path ≡ x.path) = from_map (λ (z : Receipt). z.path) path rs i in
    let p : Contains rs r.0 = in_contains r.0 rs r.1 in
    let b : (low ≤ p.0) × (p.0 < high) = w.within p.0 r.0 p.1 (sym p.2) (sym r.2) in
    omega (arith, b.0, b.1, e)

-- ---- the numbers of many paths

pub number_pushed : (rs : List Receipt) (ps : List (List ℕ)) (i : ℕ) (p : List ℕ) (first : ℕ) (xs ys : List SegmentId) (s : SegmentId) → i < length ps → p ≡ get_or ps i p → ys ≡ xs ++ (s ∷ [])
    → (In p (paths rs) → s.0 ≡ number_by first rs p) → AllIn ps (paths rs) → map number xs ≡ map (number_by first rs) (take i ps) → map number ys ≡ map (number_by first rs) (take (i + 1) ps)
number_pushed rs ps i p first xs ys s l e is here all so =
    ap (map number) is ∙ map_push number xs s ∙ ap (λ z. z ++ (s.0 ∷ [])) so ∙ ap (λ z. map (number_by first rs) (take i ps) ++ (z ∷ [])) (here (all p (in_place ps i p l e)) ∙ ap (number_by first rs) e)
    ∙ sym (map_more (number_by first rs) ps i p l)
