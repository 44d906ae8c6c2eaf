-- Steps of the cutter, a row at a time.
use Rattle.std.proofs.Common.{◌≡◌, ℕ, ◌+◌, ◌<◌, ◌≤◌, ◌^◌, ◌⊎◌, ◌&&◌, ◌||◌, Bool, true, false, List, [], ◌∷◌, ◌++◌, map, length, drop, get_or, refl, sym, inl, inr, ⊎_elim, ap, ap₂, ◌∙◌, subst, arith, length-append}
use Rattle.std.specs.Prelude.{nat_le}
use Rattle.std.proofs.lemmas.Bool.Decides.{nat_tests}
use Rattle.std.proofs.lemmas.List.{append-nil, drop_more}
use Rattle.std.proofs.lemmas.Bool.{and_parts}
use Rattle.vx_model.specs.Words.{total_by, all_by}
use Rattle.vx_model.specs.Ty.{Ty}
use Rattle.vx_model.specs.CellData.{CellData, null_cell, fits}
use Rattle.vx_model.specs.ChunkData.{is_dict_type}
use Rattle.vx_model.specs.TreeView.{tree}
use Rattle.vx_rules.specs.Runs.{DictOptions, Cut, behind, stretches, same_cell, has_cell, place_in, cell_cost, cells_fit, most_cells}
use Rattle.vx_runs.specs.declared.rows.Closed.{Closed}
use Rattle.vx_runs.specs.Cutting.{pairs, cut_of, behind_all, cut_with, Running}
use Rattle.vx_rules.proofs.RunLaws.{self_same}
use Rattle.vx_runs.proofs.Cells.{place_behind}

-- ---- whether distinct cells fit

fits_some : (o : DictOptions) (t : Ty) (ds : List CellData) (cost : ℕ) → cost ≡ total_by (cell_cost t) ds → length ds ≤ most_cells o → cost ≤ o.max_bytes → cells_fit o t ds ≡ true
fits_some o t ds cost e a b = test (length ds) (most_cells o) (total_by (cell_cost t) ds) o.max_bytes a (let h : total_by (cell_cost t) ds ≤ o.max_bytes = omega arith in h)
  where
    test : (n m k b : ℕ) → n ≤ m → k ≤ b → (nat_le n 1 || (nat_le n m && nat_le k b)) ≡ true
    test n m k b x y = grind (arith, nat_tests)

fits_not : (o : DictOptions) (t : Ty) (ds : List CellData) (cost : ℕ) → cost ≡ total_by (cell_cost t) ds → 1 < length ds → (most_cells o < length ds) ⊎ (o.max_bytes < cost) → cells_fit o t ds ≡ false
fits_not o t ds cost e a b = test (length ds) (most_cells o) (total_by (cell_cost t) ds) o.max_bytes a (subst (λ z. (most_cells o < length ds) ⊎ (o.max_bytes < z)) e b)
  where
    test : (n m k b : ℕ) → 1 < n → (m < n) ⊎ (b < k) → (nat_le n 1 || (nat_le n m && nat_le k b)) ≡ false
    test n m k b x y = grind (arith, nat_tests)

total_push : (f : CellData → ℕ) (ds : List CellData) (c : CellData) → total_by f (ds ++ c ∷ []) ≡ total_by f ds + f c
total_push f [] c = let e : f c + 0 ≡ 0 + f c = omega arith in e
total_push f (d ∷ ds) c = let r : total_by f (ds ++ c ∷ []) ≡ total_by f ds + f c = total_push f ds c in omega arith

length_push : (ds : List CellData) (c : CellData) → length (ds ++ c ∷ []) ≡ length ds + 1
length_push ds c = length-append ds (c ∷ [])

pub one_runs : (o : DictOptions) (t : Ty) (ds : List CellData) (c : CellData) (cost : ℕ) → ds ≡ c ∷ [] → cost ≡ cell_cost t c → cost < 2 ^ 65 → Running o t ds cost
one_runs o t ds c cost e g l = subst (λ z. Running o t z cost) (sym e) (record { fit = refl; small = l; summed = (let h : cost ≡ cell_cost t c + 0 = omega arith in h) })

-- the first cell
pub none_runs : (o : DictOptions) (t : Ty) (ds : List CellData) (c : CellData) (cost : ℕ) → length ds ≡ 0 → cost ≡ cell_cost t c → cost < 2 ^ 65 → Running o t (ds ++ c ∷ []) cost
none_runs o t [] c cost e g l = one_runs o t (c ∷ []) c cost refl g l
none_runs o t (d ∷ ds) c cost e g l = absurd (omega arith)

pub more_runs : (o : DictOptions) (t : Ty) (ds : List CellData) (c : CellData) (cost added : ℕ) → Running o t ds cost → added ≡ cell_cost t c → length ds < most_cells o → cost + added ≤ o.max_bytes → o.max_bytes < 2 ^ 64
    → Running o t (ds ++ c ∷ []) (cost + added)
more_runs o t ds c cost added r e a b m =
    let s : cost ≡ total_by (cell_cost t) ds = r.summed in
    let p : total_by (cell_cost t) (ds ++ c ∷ []) ≡ total_by (cell_cost t) ds + cell_cost t c = total_push (cell_cost t) ds c in
    let l : length (ds ++ c ∷ []) ≡ length ds + 1 = length_push ds c in
    let all : cost + added ≡ total_by (cell_cost t) (ds ++ c ∷ []) = omega arith in
    record { fit = fits_some o t (ds ++ c ∷ []) (cost + added) all (omega arith) b; summed = all; small = omega arith }

pub none_more : (o : DictOptions) (t : Ty) (ds : List CellData) (c : CellData) (cost added : ℕ) → Running o t ds cost → added ≡ cell_cost t c → 0 < length ds → (most_cells o ≤ length ds) ⊎ (o.max_bytes < cost + added)
    → cells_fit o t (ds ++ c ∷ []) ≡ false
none_more o t ds c cost added r e some h =
    let s : cost ≡ total_by (cell_cost t) ds = r.summed in
    let p : total_by (cell_cost t) (ds ++ c ∷ []) ≡ total_by (cell_cost t) ds + cell_cost t c = total_push (cell_cost t) ds c in
    let l : length (ds ++ c ∷ []) ≡ length ds + 1 = length_push ds c in
    fits_not o t (ds ++ c ∷ []) (cost + added) (omega arith) (omega arith) (⊎_elim (λ x. inl (let k : most_cells o ≤ length ds = x in omega arith)) (λ y. inr y) h)

pub ruleset fit_rules = (none_runs, more_runs, none_more)

-- ---- one row

pub row_known : (o : DictOptions) (t : Ty) (ds : List CellData) (codes : List ℕ) (c : CellData) (more : List CellData) → has_cell c ds ≡ true → cells_fit o t ds ≡ true
    → stretches o t ds (codes ++ place_in c ds ∷ []) more ≡ stretches o t ds codes (c ∷ more)
row_known o t ds codes c more h f = rw (h, f) refl

pub row_new : (o : DictOptions) (t : Ty) (ds : List CellData) (codes : List ℕ) (c : CellData) (more : List CellData) → has_cell c ds ≡ false → same_cell c c ≡ true → cells_fit o t (ds ++ c ∷ []) ≡ true
    → stretches o t (ds ++ c ∷ []) (codes ++ length ds ∷ []) more ≡ stretches o t ds codes (c ∷ more)
row_new o t ds codes c more h p f = rw (h, f, place_behind c ds h p) refl

pub row_ends : (o : DictOptions) (t : Ty) (ds : List CellData) (codes : List ℕ) (c : CellData) (more : List CellData) → has_cell c ds ≡ false → cells_fit o t (ds ++ c ∷ []) ≡ false
    → behind codes ds (stretches o t (c ∷ []) (0 ∷ []) more) ≡ stretches o t ds codes (c ∷ more)
row_ends o t ds codes c more h f = rw (h, f) refl

pub behind_push : (xs : List Closed) (x : Closed) (cut : Cut) → behind_all (xs ++ x ∷ []) cut ≡ behind_all xs (behind x.codes.items (map tree x.distinct.items) cut)
behind_push [] x cut = refl
behind_push (y ∷ ys) x cut = ap (behind y.codes.items (map tree y.distinct.items)) (behind_push ys x cut)

-- ---- whole cuts

pub cut_known : (o : DictOptions) (t : Ty) (closed : List Closed) (ds : List CellData) (codes : List ℕ) (c : CellData) (more : List CellData) (k : ℕ) → true ≡ has_cell c ds → k ≡ place_in c ds → cells_fit o t ds ≡ true
    → cut_with o t closed ds (codes ++ k ∷ []) more ≡ cut_with o t closed ds codes (c ∷ more)
cut_known o t closed ds codes c more k h e f = ap (λ (n : ℕ). cut_with o t closed ds (codes ++ n ∷ []) more) e ∙ ap (behind_all closed) (row_known o t ds codes c more (sym h) f)

pub cut_new : (o : DictOptions) (t : Ty) (closed : List Closed) (ds : List CellData) (codes : List ℕ) (c : CellData) (more : List CellData) (k : ℕ) → false ≡ has_cell c ds → k ≡ length ds → same_cell c c ≡ true
    → cells_fit o t (ds ++ c ∷ []) ≡ true → cut_with o t closed (ds ++ c ∷ []) (codes ++ k ∷ []) more ≡ cut_with o t closed ds codes (c ∷ more)
cut_new o t closed ds codes c more k h e p f = ap (λ (n : ℕ). cut_with o t closed (ds ++ c ∷ []) (codes ++ n ∷ []) more) e ∙ ap (behind_all closed) (row_new o t ds codes c more (sym h) p f)

pub cut_ends : (o : DictOptions) (t : Ty) (closed next : List Closed) (ds first : List CellData) (codes zeros : List ℕ) (c : CellData) (more : List CellData) → false ≡ has_cell c ds → cells_fit o t (ds ++ c ∷ []) ≡ false
    → ((cut : Cut) → behind_all next cut ≡ behind_all closed (behind codes ds cut)) → first ≡ c ∷ [] → zeros ≡ 0 ∷ []
    → cut_with o t next first zeros more ≡ cut_with o t closed ds codes (c ∷ more)
cut_ends o t closed next ds first codes zeros c more h f e n g =
    e (stretches o t first zeros more) ∙ ap (λ z. behind_all closed (behind codes ds z)) (ap₂ (λ (x : List CellData) (y : List ℕ). stretches o t x y more) n g)
    ∙ ap (behind_all closed) (row_ends o t ds codes c more (sym h) f)

-- ---- all rows

-- the cell of the next row
module _ (cs : List CellData) (i : ℕ) (c : CellData) (lt : i < length cs) (is : c ≡ get_or cs i null_cell) where
  pub next_row : drop i cs ≡ c ∷ drop (i + 1) cs
  next_row = drop_more cs i null_cell lt ∙ ap (λ (d : CellData). d ∷ drop (i + 1) cs) (sym is)

  module _ (t : Ty) (fit : all_by (fits t) (drop i cs) ≡ true) where
    both_fit : (fits t c && all_by (fits t) (drop (i + 1) cs)) ≡ true
    both_fit = sym (ap (all_by (fits t)) next_row) ∙ fit

    pub row_plain : is_dict_type t ≡ true → same_cell c c ≡ true
    row_plain d = self_same t c d (and_parts (fits t c) (all_by (fits t) (drop (i + 1) cs)) both_fit).0

    pub rest_fit : all_by (fits t) (drop (i + 1) cs) ≡ true
    rest_fit = (and_parts (fits t c) (all_by (fits t) (drop (i + 1) cs)) both_fit).1

pub ruleset row_rules = (cut_known, cut_new, one_runs, behind_push)

-- nothing is left
behind_is : (closed : List Closed) (cut : Cut) → behind_all closed cut ≡ record { closed = pairs closed ++ cut.closed; codes = cut.codes; distinct = cut.distinct }
behind_is [] cut = refl
behind_is (x ∷ xs) cut = ap (behind x.codes.items (map tree x.distinct.items)) (behind_is xs cut)

pub cut_is : (o : DictOptions) (t : Ty) (closed : List Closed) (codes : List ℕ) (ds : List CellData) → cut_of closed codes ds ≡ cut_with o t closed ds codes []
cut_is o t closed codes ds =
    sym (behind_is closed (record { closed = []; codes = codes; distinct = ds }) ∙ ap (λ (z : List (List ℕ × List CellData)). record { closed = z; codes = codes; distinct = ds }) (append-nil (pairs closed)))

pub ruleset cut_rules = (cut_is)
