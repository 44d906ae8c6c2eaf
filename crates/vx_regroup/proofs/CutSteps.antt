-- Cutting blocks off from the back, and rows behind others.
use Rattle.std.proofs.Common.{◌≡◌, ℕ, ◌+◌, ◌-◌, ◌<◌, ◌≤◌, Bool, true, List, [], ◌∷◌, ◌++◌, length, take, drop, sum, get_or, refl, sym, ap, ap₂, ◌∙◌, arith, length-append}
use Rattle.std.proofs.lemmas.List.{append-nil, drop_more, take-take, drop-take, take_at, length-take-le}
use Rattle.std.proofs.lemmas.List.Sums.{sum_by_more, sum_by-take-le, sum_by-cons}
use Rattle.vx_model.specs.Words.{all_by}
use Rattle.vx_model.specs.Ty.{Ty}
use Rattle.vx_model.specs.CellData.{CellData}
use Rattle.vx_model.specs.ChunkData.{ChunkData, plain_piece}
use Rattle.vx_layout_spec.proofs.CellsFit.{all_drop, all_append}
use Rattle.vx_rules.specs.Blocks.{block_sizes, tested_sizes, check_points, sizes_at, cut_off, left_over, last_block}
use Rattle.vx_plan.specs.GroupNode.{tested_at as tested_by}
use Rattle.vx_regroup.specs.Rules.{exactly}
use Rattle.vx_regroup.proofs.Lists.{drop_both, take_both}

module _ (orig : List CellData) (sizes : List ℕ) (k : ℕ) (less : k < length sizes) (whole : sum sizes ≡ length orig) where
  -- the place of the block that is cut off, the rows before it, and its own
  abbrev pub place : ℕ
  place = length sizes - (k + 1)

  abbrev pub before : ℕ
  before = sum (take place sizes)

  abbrev pub size : ℕ
  size = get_or sizes (length sizes - 1 - k) 0

  size_is : size ≡ get_or sizes place 0
  size_is = ap (λ n. get_or sizes n 0) (let e : length sizes - 1 - k ≡ place = omega arith in e)

  pub ends_at : sum (take (length sizes - k) sizes) ≡ before + size
  ends_at = ap (λ n. sum (take n sizes)) (let e : length sizes - k ≡ place + 1 = omega arith in e)
      ∙ sum_by_more (λ x. x) sizes place 0 (omega arith) ∙ ap (λ n. before + n) (sym size_is)

  pub is_within : before + size ≤ length orig
  is_within = let a : sum (take (length sizes - k) sizes) ≤ sum sizes = sum_by-take-le (λ x. x) sizes (length sizes - k) in let e : sum (take (length sizes - k) sizes) ≡ before + size = ends_at in omega arith

  module _ (cells : List CellData) (front : cells ≡ take (sum (take (length sizes - k) sizes)) orig) where
    front_is : cells ≡ take (before + size) orig
    front_is = front ∙ ap (λ n. take n orig) ends_at

    pub start_is : length cells - size ≡ before
    start_is =
        let l : length cells ≡ length (take (before + size) orig) = ap length front_is in
        let m : length (take (before + size) orig) ≡ before + size = length-take-le (before + size) orig is_within in omega arith

    pub size_fits : size ≤ length cells
    size_fits =
        let l : length cells ≡ length (take (before + size) orig) = ap length front_is in
        let m : length (take (before + size) orig) ≡ before + size = length-take-le (before + size) orig is_within in omega arith

    pub left_is : take (length cells - size) cells ≡ take before orig
    left_is = ap₂ take start_is front_is ∙ ap (take before) (take_both before size orig) ∙ take_at (take before orig) (take size (drop before orig)) before (length-take-le before orig (let h : before + size ≤ length orig = is_within in omega arith))

    pub taken_is : drop (length cells - size) cells ≡ take size (drop before orig)
    taken_is = ap₂ drop start_is front_is ∙ drop-take before size orig

  pub blocks_is : (t : Ty) (done : List ChunkData) → done ≡ cut_off t (drop (sum (take (length sizes - k) sizes)) orig) (drop (length sizes - k) sizes)
      → plain_piece t (take size (drop before orig)) ∷ done ≡ cut_off t (drop before orig) (drop place sizes)
  blocks_is t done e =
      let n : length sizes - k ≡ place + 1 = omega arith in
      ap (λ (z : List ChunkData). plain_piece t (take size (drop before orig)) ∷ z)
      (e ∙ ap₂ (cut_off t) (ap (λ m. drop m orig) ends_at ∙ drop_both before size orig) (ap (λ m. drop m sizes) n))
      ∙ ap (λ m. plain_piece t (take m (drop before orig)) ∷ cut_off t (drop m (drop before orig)) (drop (place + 1) sizes)) size_is
      ∙ ap (cut_off t (drop before orig)) (sym (drop_more sizes place 0 (omega arith)))

-- blocks reach no further than their sizes
pub cut_front : (t : Ty) (rows : List CellData) (ks : List ℕ) → cut_off t (take (sum ks) rows) ks ≡ cut_off t rows ks
cut_front t rows [] = refl
cut_front t rows (k ∷ ks) =
    let e : sum (k ∷ ks) ≡ k + sum ks = sum_by-cons (λ x. x) k ks in
    ap (λ n. cut_off t (take n rows) (k ∷ ks)) e
    ∙ ap₂ (λ (first rest : List CellData). plain_piece t first ∷ cut_off t rest ks) (take-take k (k + sum ks) rows (omega arith)) (drop-take k (sum ks) rows)
    ∙ ap (λ (cs : List ChunkData). plain_piece t (take k rows) ∷ cs) (cut_front t (drop k rows) ks)

pub no_block : (t : Ty) (rows : List CellData) → length rows ≡ 0 → last_block t rows ≡ []
no_block t [] e = refl
no_block t (c ∷ cs) e = absurd (omega (arith, e))

pub one_block : (t : Ty) (rows : List CellData) → 0 < length rows → last_block t rows ≡ plain_piece t rows ∷ []
one_block t [] lt = absurd (omega (arith, lt))
one_block t (c ∷ cs) lt = refl

pub ruleset last_rules = (no_block, one_block, append-nil)

-- ---- rows behind others

pub left_over_is : (rows : List CellData) (ks : List ℕ) → left_over rows ks ≡ drop (sum ks) rows
left_over_is rows [] = refl
left_over_is rows (k ∷ ks) = left_over_is (drop k rows) ks ∙ sym (drop_both k (sum ks) rows) ∙ ap (λ n. drop n rows) (sym (sum_by-cons (λ x. x) k ks))

pub left_fit : (f : CellData → Bool) (n : ℕ) (rows more : List CellData) → all_by f rows ≡ true → all_by f more ≡ true → all_by f (drop n (rows ++ more)) ≡ true
left_fit f n rows more g h = all_drop f n (rows ++ more) (all_append f rows more g h)

module _ (cells rows added : List CellData) (held : ℕ) (whole : cells ≡ rows ++ added) (count : held ≡ length rows) where
  points_are : (len : ℕ) → check_points len held (length cells - held) ≡ check_points len (length rows) (length added)
  points_are len =
      let a : length cells ≡ length (rows ++ added) = ap length whole in
      let b : length (rows ++ added) ≡ length rows + length added = length-append rows added in
      ap₂ (check_points len) count (let e : length cells - held ≡ length added = omega arith in e)

  pub sizes_are : (len minimum : ℕ) (t : Ty) → block_sizes len minimum t 0 cells (check_points len held (length cells - held)) ≡ sizes_at (exactly len minimum) t rows (plain_piece t added)
  sizes_are len minimum t = ap₂ (λ (z : List CellData) (ps : List ℕ). block_sizes len minimum t 0 z ps) whole (points_are len)

  pub tested_are : (len minimum : ℕ) (t : Ty) → tested_sizes len minimum t 0 cells (check_points len held (length cells - held)) ≡ tested_by (exactly len minimum) t rows (plain_piece t added)
  tested_are len minimum t = ap₂ (λ (z : List CellData) (ps : List ℕ). tested_sizes len minimum t 0 z ps) whole (points_are len)

pub ruleset left_rules = (left_over_is, left_fit, take_at)
