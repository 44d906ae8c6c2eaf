-- A run's codes applied to its values give its rows, and a run is the longest stretch that fits.
use Rattle.std.proofs.Common.{◌≡◌, ℕ, zero, suc, ◌+◌, ◌-◌, ◌<◌, ◌≤◌, ◌^◌, ◌⊎◌, ◌&&◌, ◌||◌, Bool, true, false, List, [], ◌∷◌, ◌++◌, map, length, Option, Some, None, refl, sym, ap, ap₂, ◌∙◌, subst, inl, inr, ⊎_elim, arith, append_assoc, length-append}
use Rattle.std.specs.Prelude.{if◌then◌else◌, nat_le, nat_lt, min, max, bytes_eq, ℤ, pos}
use Rattle.std.specs.Ordering.{int_eq}
use Rattle.std.specs.Cmp.{booleans_Decides}
use Rattle.std.specs.Cmp.Lexicographic.{bytes_decides}
use Rattle.std.proofs.lemmas.Bool.{cases_Bool, true≢false, or_cases, and_from, and_parts}
use Rattle.std.proofs.lemmas.Bool.Decides.{nat_tests, Decides-int_eq}
use Rattle.std.proofs.lemmas.List.{append-nil, length-map, map-append}
use mathlib.Core.Bool.{beq}
use Rattle.vx_model.specs.Words.{all_by}
use Rattle.vx_model.specs.Ty.{Ty, boolean, primitive, utf8, binary, list, struct, extension}
use Rattle.vx_model.specs.CellData.{CellData, CellList, null_cell, bool_cell, int_cell, text_cell, bytes_cell, list_cell, struct_cell, fits}
use Rattle.vx_model.specs.ValueData.{ValueData, value}
use Rattle.vx_model.specs.ChunkData.{cell_at, is_dict_type}
use Rattle.vx_layout_spec.specs.Real.{is_real_cell}
use Rattle.vx_layout_spec.specs.Rows.{and_then, all_there, picked, value_at, dict_rows}
use Rattle.vx_layout_spec.proofs.CellsFit.{all_append}
use Rattle.vx_rules.specs.Columns.{offset_cell}
use Rattle.vx_rules.specs.Runs.{DictOptions, same_cell, has_cell, with_cell, place_in, most_cells, cells_fit, Cut, behind, stretches}

-- ---- cells

pub same_cell_true : (c d : CellData) → same_cell c d ≡ true → c ≡ d
same_cell_true null_cell null_cell e = refl
same_cell_true (bool_cell a) (bool_cell b) e = ap bool_cell ((booleans_Decides a b).0 e)
same_cell_true (int_cell a) (int_cell b) e = ap int_cell ((Decides-int_eq a b).0 e)
same_cell_true (text_cell a) (text_cell b) e = ap text_cell ((bytes_decides a b).0 e)
same_cell_true (bytes_cell a) (bytes_cell b) e = ap bytes_cell ((bytes_decides a b).0 e)
same_cell_true c d e = cc

-- a cell that a dictionary can hold is the same as itself
pub self_same : (t : Ty) (c : CellData) → is_dict_type t ≡ true → fits t c ≡ true → same_cell c c ≡ true
self_same t null_cell d f = refl
self_same t (bool_cell b) d f = (booleans_Decides b b).1 refl
self_same t (int_cell n) d f = (Decides-int_eq n n).1 refl
self_same t (text_cell s) d f = (bytes_decides s s).1 refl
self_same t (bytes_cell s) d f = (bytes_decides s s).1 refl
self_same (primitive p n) (list_cell v cs) d f = cc
self_same (utf8 n) (list_cell v cs) d f = cc
self_same (binary n) (list_cell v cs) d f = cc
self_same (primitive p n) (struct_cell v cs) d f = cc
self_same (utf8 n) (struct_cell v cs) d f = cc
self_same (binary n) (struct_cell v cs) d f = cc
self_same (boolean n) c d f = cc
self_same (list t n) c d f = cc
self_same (struct fs n) c d f = cc
self_same (extension tag t) c d f = cc

-- a place with its cell
abbrev pub Is : List CellData → ℕ → CellData → Type 0
Is ds n c = (n < length ds) × (cell_at ds n ≡ c)

is_more : (ds more : List CellData) (n : ℕ) (c : CellData) → Is ds n c → Is (ds ++ more) n c
is_more [] more n c h = let l : n < 0 = h.0 in absurd (omega arith)
is_more (d ∷ ds) more zero c h = ((let l : zero < length (d ∷ ds ++ more) = omega arith in l), h.1)
is_more (d ∷ ds) more (suc n) c h =
    let l : suc n < suc (length ds) = h.0 in
    let r : Is (ds ++ more) n c = is_more ds more n c ((let k : n < length ds = omega arith in k), h.1) in
    let k : n < length (ds ++ more) = r.0 in (omega arith, r.1)

pub place_is : (c : CellData) (ds : List CellData) → has_cell c ds ≡ true → Is ds (place_in c ds) c
place_is c [] h = cc
place_is c (d ∷ ds) h = go (same_cell d c) (same_cell_true d c) h (place_is c ds)
  where
    go : (b : Bool) → (b ≡ true → d ≡ c) → (b || has_cell c ds) ≡ true → (has_cell c ds ≡ true → Is ds (place_in c ds) c) → Is (d ∷ ds) (if b then 0 else suc (place_in c ds)) c
    go true s h r = (omega arith, s refl)
    go false s h r = let w : Is ds (place_in c ds) c = r h in let l : place_in c ds < length ds = w.0 in (omega arith, w.1)

pub has_last : (c : CellData) (ds : List CellData) → same_cell c c ≡ true → has_cell c (ds ++ (c ∷ [])) ≡ true
has_last c [] s = ap (λ b. b || false) s
has_last c (d ∷ ds) s = go (same_cell d c) (has_last c ds s)
  where
    go : (b : Bool) → has_cell c (ds ++ (c ∷ [])) ≡ true → (b || has_cell c (ds ++ (c ∷ []))) ≡ true
    go true h = refl
    go false h = h

-- the cells so far stay at their places
pub record Extends (ds es : List CellData) : Type 0 where
  pub more : List CellData
  pub same : es ≡ ds ++ more

pub extends_self : (ds : List CellData) → Extends ds ds
extends_self ds = record { more = []; same = sym (append-nil ds) }

extends_further : (ds es fs : List CellData) → Extends ds es → Extends es fs → Extends ds fs
extends_further ds es fs a b = record { more = a.more ++ b.more; same = b.same ∙ ap (λ z. z ++ b.more) a.same ∙ append_assoc ds a.more b.more }

with_extends : (ds : List CellData) (c : CellData) → Extends ds (with_cell ds c)
with_extends ds c = go (has_cell c ds)
  where
    go : (b : Bool) → Extends ds (if b then ds else ds ++ (c ∷ []))
    go true = extends_self ds
    go false = record { more = c ∷ []; same = refl }

with_place : (ds : List CellData) (c : CellData) → same_cell c c ≡ true → Is (with_cell ds c) (place_in c (with_cell ds c)) c
with_place ds c s = place_is c (with_cell ds c) (go (has_cell c ds) refl)
  where
    go : (b : Bool) → has_cell c ds ≡ b → has_cell c (if b then ds else ds ++ (c ∷ [])) ≡ true
    go true e = e
    go false e = has_last c ds s

-- ---- codes

-- each code is the place of its row's cell
abbrev pub Decodes : List CellData → List ℕ → List CellData → Type 0
Decodes ds [] [] = Unit {0}
Decodes ds [] (c ∷ cs) = ⊥
Decodes ds (n ∷ ns) [] = ⊥
Decodes ds (n ∷ ns) (c ∷ cs) = Is ds n c × Decodes ds ns cs

pub decodes_more : (ds es : List CellData) (ns : List ℕ) (cs : List CellData) → Extends ds es → Decodes ds ns cs → Decodes es ns cs
decodes_more ds es [] [] x h = tt
decodes_more ds es [] (c ∷ cs) x h = absurd h
decodes_more ds es (n ∷ ns) [] x h = absurd h
decodes_more ds es (n ∷ ns) (c ∷ cs) x h = (subst (λ z. Is z n c) (sym x.same) (is_more ds x.more n c h.0), decodes_more ds es ns cs x h.1)

pub decodes_append : (ds : List CellData) (ns ms : List ℕ) (cs bs : List CellData) → Decodes ds ns cs → Decodes ds ms bs → Decodes ds (ns ++ ms) (cs ++ bs)
decodes_append ds [] ms [] bs g h = h
decodes_append ds [] ms (c ∷ cs) bs g h = absurd g
decodes_append ds (n ∷ ns) ms [] bs g h = absurd g
decodes_append ds (n ∷ ns) ms (c ∷ cs) bs g h = (g.0, decodes_append ds ns ms cs bs g.1 h)

pub decodes_length : (ds : List CellData) (ns : List ℕ) (cs : List CellData) → Decodes ds ns cs → length ns ≡ length cs
decodes_length ds [] [] h = refl
decodes_length ds [] (c ∷ cs) h = absurd h
decodes_length ds (n ∷ ns) [] h = absurd h
decodes_length ds (n ∷ ns) (c ∷ cs) h = ap suc (decodes_length ds ns cs h.1)

pub decodes_none : (ns : List ℕ) (cs : List CellData) → Decodes [] ns cs → (ns ≡ []) × (cs ≡ [])
decodes_none [] [] h = (refl, refl)
decodes_none [] (c ∷ cs) h = absurd h
decodes_none (n ∷ ns) [] h = absurd h
decodes_none (n ∷ ns) (c ∷ cs) h = let l : n < 0 = h.0.0 in absurd (omega arith)

value_found : (ds : List CellData) (n : ℕ) (c : CellData) → Is ds n c → value_at (map value ds) n ≡ Some (value c)
value_found [] n c h = let l : n < 0 = h.0 in absurd (omega arith)
value_found (d ∷ ds) zero c h = ap (λ z. Some (value z)) h.1
value_found (d ∷ ds) (suc n) c h = value_found ds n c ((let l : suc n < suc (length ds) = h.0 in let k : n < length ds = omega arith in k), h.1)

-- codes applied to values give the rows
pub decodes_rows : (ds : List CellData) (ns : List ℕ) (cs : List CellData) → Decodes ds ns cs
    → dict_rows (map value ds ∷ map value (map offset_cell ns) ∷ []) ≡ Some (map value cs)
decodes_rows ds [] [] h = refl
decodes_rows ds [] (c ∷ cs) h = absurd h
decodes_rows ds (n ∷ ns) [] h = absurd h
decodes_rows ds (n ∷ ns) (c ∷ cs) h =
    ap (λ r. all_there (r ∷ map (picked (map value ds)) (map value (map offset_cell ns)))) (value_found ds n c h.0)
    ∙ ap (and_then (λ xs. Some (value c ∷ xs))) (decodes_rows ds ns cs h.1)

-- ---- distinct cells

-- cells that a run can have: of the type, real, and few
pub record Distinct (o : DictOptions) (t : Ty) (ds : List CellData) : Type 0 where
  pub fit : all_by (fits t) ds ≡ true
  pub real : all_by is_real_cell ds ≡ true
  pub few : length ds ≤ max 1 (most_cells o)

few_of : (a most : ℕ) (b : Bool) → (nat_le a 1 || (nat_le a most && b)) ≡ true → a ≤ max 1 most
few_of a most b h = grind (arith, nat_tests)

with_all : (f : CellData → Bool) (ds : List CellData) (c : CellData) → all_by f ds ≡ true → f c ≡ true → all_by f (with_cell ds c) ≡ true
with_all f ds c h e = go (has_cell c ds)
  where
    go : (b : Bool) → all_by f (if b then ds else ds ++ (c ∷ [])) ≡ true
    go true = h
    go false = all_append f ds (c ∷ []) h (and_from (f c) true e refl)

-- ---- the stretches

-- The runs that a chunk's rows are cut into have these rows, in order; the first has the cells ds so far.
abbrev pub Gives : DictOptions → Ty → List CellData → List (List ℕ × List CellData) → List ℕ → List CellData → List CellData → Type 0
Gives o t ds [] codes es rows = Extends ds es × Decodes es codes rows × Distinct o t es
Gives o t ds (x ∷ xs) codes es rows =
    (part : List CellData) × (later : List CellData) × (rows ≡ part ++ later) × Extends ds x.1 × Decodes x.1 x.0 part × Distinct o t x.1 × Gives o t [] xs codes es later

pub stretches_give : (o : DictOptions) (t : Ty) → is_dict_type t ≡ true → (first ds : List CellData) (codes : List ℕ) (done rows : List CellData)
    → Extends first ds → Decodes ds codes done → Distinct o t ds → all_by (fits t) rows ≡ true → all_by is_real_cell rows ≡ true
    → Gives o t first (stretches o t ds codes rows).closed (stretches o t ds codes rows).codes (stretches o t ds codes rows).distinct (done ++ rows)
stretches_give o t d first ds codes done [] x h few f r = (x, subst (Decodes ds codes) (sym (append-nil done)) h, few)
stretches_give o t d first ds codes done (c ∷ cs) x h few f r =
    ⊎_elim
    (λ (y : cells_fit o t (with_cell ds c) ≡ true).
    subst (λ b. Given (if b then goes_on else ends_here)) (sym y)
    (subst (Gives o t first goes_on.closed goes_on.codes goes_on.distinct) (append_assoc done (c ∷ []) cs)
    (stretches_give o t d first (with_cell ds c) (codes ++ (place_in c (with_cell ds c) ∷ [])) (done ++ (c ∷ [])) cs
    (extends_further first ds (with_cell ds c) x (with_extends ds c))
    (decodes_append (with_cell ds c) codes (place_in c (with_cell ds c) ∷ []) done (c ∷ []) (decodes_more ds (with_cell ds c) codes done (with_extends ds c) h) (with_place ds c self, tt))
    (record { fit = with_all (fits t) ds c few.fit cf; real = with_all is_real_cell ds c few.real cr; few = few_of (length (with_cell ds c)) (most_cells o) _ y })
    (and_parts (fits t c) _ f).1 (and_parts (is_real_cell c) _ r).1)))
    (λ (n : cells_fit o t (with_cell ds c) ≡ false).
    subst (λ b. Given (if b then goes_on else ends_here)) (sym n) (
      done,
      c ∷ cs,
      refl,
      x,
      h,
      few,
      stretches_give o t d [] (c ∷ []) (0 ∷ []) (c ∷ []) cs (record { more = c ∷ []; same = refl }) ((omega arith, refl), tt)
          (record { fit = and_from (fits t c) true cf refl; real = and_from (is_real_cell c) true cr refl; few = omega arith })
          (and_parts (fits t c) _ f).1 (and_parts (is_real_cell c) _ r).1,
    ))
    (cases_Bool (cells_fit o t (with_cell ds c)))
  where
    cf : fits t c ≡ true
    cf = (and_parts (fits t c) _ f).0

    cr : is_real_cell c ≡ true
    cr = (and_parts (is_real_cell c) _ r).0

    self : same_cell c c ≡ true
    self = self_same t c d (and_parts (fits t c) _ f).0

    goes_on : Cut
    goes_on = stretches o t (with_cell ds c) (codes ++ (place_in c (with_cell ds c) ∷ [])) cs

    ends_here : Cut
    ends_here = behind codes ds (stretches o t (c ∷ []) (0 ∷ []) cs)

    Given : Cut → Type 0
    Given z = Gives o t first z.closed z.codes z.distinct (done ++ (c ∷ cs))
