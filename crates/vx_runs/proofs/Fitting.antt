-- What rows are cut into makes chunks: codes of the node's type, and cells of the rows' type.
use Rattle.std.proofs.Common.{◌≡◌, ℕ, ◌-◌, ◌<◌, ◌≤◌, ◌^◌, ◌&&◌, ◌||◌, Bool, true, false, List, [], ◌∷◌, ◌++◌, length, refl, sym, subst, ⊎_elim, arith}
use Rattle.std.specs.Prelude.{if◌then◌else◌, nat_le, min, max}
use Rattle.std.proofs.lemmas.Bool.{cases_Bool, and_from, and_parts}
use Rattle.std.proofs.lemmas.Bool.Decides.{nat_tests}
use Rattle.vx_model.specs.declared.ptype.PType.TheVariants.{U8, U16}
use Rattle.vx_model.specs.Words.{all_by}
use Rattle.vx_model.specs.Ty.{Ty, primitive}
use Rattle.vx_model.specs.CellData.{CellData, fits}
use Rattle.vx_model.specs.ChunkData.{is_dict_type}
use Rattle.vx_rules.specs.Columns.{offset_cell}
use Rattle.vx_rules.specs.Runs.{DictOptions, Cut, behind, stretches, same_cell, has_cell, with_cell, place_in, cells_fit, most_cells}
use Rattle.vx_runs.specs.declared.rows.Closed.{Closed}
use Rattle.vx_runs.specs.Cutting.{cut_of, is_code_of, ClosedFit, Standing}
use Rattle.vx_rules.proofs.RunLaws.{self_same}
use Rattle.vx_runs.proofs.Cells.{with_place}

all_append : {X : Type 0} (f : X → Bool) (xs : List X) (x : X) → all_by f xs ≡ true → f x ≡ true → all_by f (xs ++ x ∷ []) ≡ true
all_append f [] x h e = and_from (f x) true e refl
all_append f (y ∷ ys) x h e = and_from (f y) (all_by f (ys ++ x ∷ [])) (and_parts (f y) (all_by f ys) h).0 (all_append f ys x (and_parts (f y) (all_by f ys) h).1 e)

-- ---- codes

code_fits : (o : DictOptions) (n k : ℕ) → k ≤ max 1 (most_cells o) → n < k → is_code_of o n ≡ true
code_fits o n k few lt = go (nat_le o.max_len 255) (few_small o.max_len k) few
  where
    few_small : (m l : ℕ) → nat_le m 255 ≡ true → l ≤ max 1 (min m (2 ^ 16 - 1)) → l ≤ 255
    few_small m l h k = grind (arith, nat_tests)

    u8 : (n : ℕ) → n < 256 → fits (primitive U8 false) (offset_cell n) ≡ true
    u8 n h = grind (arith, nat_tests)

    u16 : (n : ℕ) → n < 65536 → fits (primitive U16 false) (offset_cell n) ≡ true
    u16 n h = grind (arith, nat_tests)

    go : (b : Bool) → (b ≡ true → k ≤ max 1 (min o.max_len (2 ^ 16 - 1)) → k ≤ 255) → k ≤ max 1 (min o.max_len (2 ^ 16 - 1))
        → fits (primitive (if b then U8 else U16) false) (offset_cell n) ≡ true
    go true f h = let l : k ≤ 255 = f refl h in u8 n (omega arith)
    go false f h = u16 n (omega arith)

few_of : (a most : ℕ) (b : Bool) → (nat_le a 1 || (nat_le a most && b)) ≡ true → a ≤ max 1 most
few_of a most b h = grind (arith, nat_tests)

-- ---- cuts

pub record CutFits (o : DictOptions) (t : Ty) (cut : Cut) : Type 0 where
  pub closed : ClosedFit o t cut.closed
  pub codes : all_by (is_code_of o) cut.codes ≡ true
  pub distinct : all_by (fits t) cut.distinct ≡ true

behind_fits : (o : DictOptions) (t : Ty) (codes : List ℕ) (ds : List CellData) (cut : Cut) → all_by (is_code_of o) codes ≡ true → all_by (fits t) ds ≡ true → CutFits o t cut → CutFits o t (behind codes ds cut)
behind_fits o t codes ds cut a b c = record { closed = (a, b, c.closed); codes = c.codes; distinct = c.distinct }

with_all : (f : CellData → Bool) (ds : List CellData) (c : CellData) → all_by f ds ≡ true → f c ≡ true → all_by f (with_cell ds c) ≡ true
with_all f ds c h e = go (has_cell c ds)
  where
    go : (b : Bool) → all_by f (if b then ds else ds ++ c ∷ []) ≡ true
    go true = h
    go false = all_append f ds c h e

zero_fits : (o : DictOptions) → all_by (is_code_of o) (0 ∷ []) ≡ true
zero_fits o = and_from (is_code_of o 0) true (code_fits o 0 1 (let l : 1 ≤ max 1 (most_cells o) = omega arith in l) (omega arith)) refl

pub stretches_fit : (o : DictOptions) (t : Ty) → is_dict_type t ≡ true → (ds : List CellData) (codes : List ℕ) (rows : List CellData) → all_by (fits t) ds ≡ true → all_by (is_code_of o) codes ≡ true
    → all_by (fits t) rows ≡ true → CutFits o t (stretches o t ds codes rows)
stretches_fit o t d ds codes [] f a g = record { closed = tt; codes = a; distinct = f }
stretches_fit o t d ds codes (c ∷ cs) f a g =
    ⊎_elim
    (λ (y : cells_fit o t (with_cell ds c) ≡ true).
    subst (λ (b : Bool). CutFits o t (if b then goes_on else ends_here)) (sym y)
    (stretches_fit o t d (with_cell ds c) (codes ++ place_in c (with_cell ds c) ∷ []) cs
    (with_all (fits t) ds c f fit)
    (all_append (is_code_of o) codes (place_in c (with_cell ds c)) a (code_fits o (place_in c (with_cell ds c)) (length (with_cell ds c)) (few_of (length (with_cell ds c)) (most_cells o) _ y) (with_place c ds self)))
    (and_parts (fits t c) _ g).1))
    (λ (n : cells_fit o t (with_cell ds c) ≡ false).
    subst (λ (b : Bool). CutFits o t (if b then goes_on else ends_here)) (sym n)
    (behind_fits o t codes ds (stretches o t (c ∷ []) (0 ∷ []) cs) a f
    (stretches_fit o t d (c ∷ []) (0 ∷ []) cs (and_from (fits t c) true fit refl) (zero_fits o) (and_parts (fits t c) _ g).1)))
    (cases_Bool (cells_fit o t (with_cell ds c)))
  where
    fit : fits t c ≡ true
    fit = (and_parts (fits t c) _ g).0

    self : same_cell c c ≡ true
    self = self_same t c d (and_parts (fits t c) _ g).0

    goes_on : Cut
    goes_on = stretches o t (with_cell ds c) (codes ++ place_in c (with_cell ds c) ∷ []) cs

    ends_here : Cut
    ends_here = behind codes ds (stretches o t (c ∷ []) (0 ∷ []) cs)

-- what cells are cut into, behind the run that goes on
pub cut_fits : (o : DictOptions) (t : Ty) (ds : List CellData) (cost : ℕ) (rows : List CellData) (closed : List Closed) (codes : List ℕ) (es : List CellData) → Standing o t ds cost → all_by (fits t) rows ≡ true
    → cut_of closed codes es ≡ stretches o t ds [] rows → CutFits o t (cut_of closed codes es)
cut_fits o t ds cost rows closed codes es s f e = subst (λ (z : Cut). CutFits o t z) (sym e) (stretches_fit o t s.dict ds [] rows s.fit refl f)
