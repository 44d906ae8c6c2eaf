-- Steps of a walk over check points.
use Rattle.std.proofs.Common.{◌≡◌, ℕ, suc, ◌+◌, ◌-◌, ◌*◌, ◌/◌, ◌<◌, ◌≤◌, ◌^◌, ◌⊎◌, ◌&&◌, Bool, true, false, List, [], ◌∷◌, ◌++◌, length, take, drop, sum, sym, ap, ap₂, ◌∙◌, subst, arith, append_assoc}
use Rattle.std.specs.Prelude.{if◌then◌else◌, nat_le, nat_lt, min, Option, Some}
use Rattle.std.proofs.lemmas.Bool.Decides.{nat_tests}
use Rattle.std.proofs.Math.Nat.{mul-div-le}
use Rattle.vx_model.specs.Words.{total_by}
use Rattle.vx_model.specs.Ty.{Ty}
use Rattle.vx_model.specs.CellData.{CellData, cell_size}
use Rattle.vx_chunk_cells.proofs.SizeSteps.{total-append}
use Rattle.vx_rules.specs.Blocks.{is_cut, cut_rows, block_sizes, tested_sizes, steps}
use Rattle.vx_chunk.specs.declared.error.ChunkError.{ChunkError}
use Rattle.vx_chunk.specs.declared.error.ChunkError.TheVariants.{TooLarge}
use Rattle.vx_regroup.specs.Refusals.{first_past, Refuses}
use Rattle.vx_regroup.specs.Walks.{Stands, sizes_with, past_with}
use Rattle.vx_regroup.proofs.Lists.{take_both, drop_both, sum-append}
use Rattle.vx_regroup.proofs.PastSteps.{below, told_here}

pub window_total : (f : CellData → ℕ) (rows : List CellData) (cut seen point : ℕ) → cut ≤ seen → seen ≤ point
    → total_by f (take (point - cut) (drop cut rows)) ≡ total_by f (take (seen - cut) (drop cut rows)) + total_by f (take (point - seen) (drop seen rows))
window_total f rows cut seen point a b =
    let e : point - cut ≡ seen - cut + (point - seen) = omega arith in
    let g : seen ≡ cut + (seen - cut) = omega arith in
    ap (λ n. total_by f (take n (drop cut rows))) e
    ∙ ap (total_by f) (take_both (seen - cut) (point - seen) (drop cut rows))
    ∙ total-append f (take (seen - cut) (drop cut rows)) (take (point - seen) (drop (seen - cut) (drop cut rows)))
    ∙ ap (λ r. total_by f (take (seen - cut) (drop cut rows)) + total_by f (take (point - seen) r)) (sym (drop_both cut (seen - cut) rows) ∙ ap (λ n. drop n rows) (sym g))

-- what stands at the next check point, where no block leaves
pub goes_on : (t : Ty) (rows : List CellData) (sizes : List ℕ) (cut seen total point : ℕ) → Stands t rows sizes cut seen total → seen ≤ point → point ≤ length rows
    → (sum : ℕ) → sum ≡ total + total_by (cell_size t) (take (point - seen) (drop seen rows)) → Stands t rows sizes cut point sum
goes_on t rows sizes cut seen total point s a b sum e =
    let l : cut ≤ seen = s.order in record {
      order = omega arith;
      within = b;
      summed = (let w : total_by (cell_size t) (take (point - cut) (drop cut rows)) ≡ total_by (cell_size t) (take (seen - cut) (drop cut rows)) + total_by (cell_size t) (take (point - seen) (drop seen rows)) = window_total (cell_size t) rows cut seen point l a in
          let k : total ≡ total_by (cell_size t) (take (seen - cut) (drop cut rows)) = s.summed in omega arith);
      cut_is = s.cut_is;
    }

pub size_within : (len point cut : ℕ) → cut ≤ point → cut + len * ((point - cut) / len) ≤ point
size_within len point cut a = let k : len * ((point - cut) / len) ≤ point - cut = mul-div-le (point - cut) len in omega arith

-- what stands behind a cut
pub cuts : (t : Ty) (len : ℕ) (rows : List CellData) (sizes : List ℕ) (cut total point left : ℕ) → Stands t rows sizes cut point total
    → left ≡ total_by (cell_size t) (take (point - (cut + len * ((point - cut) / len))) (drop (cut + len * ((point - cut) / len)) rows))
    → Stands t rows (sizes ++ (len * ((point - cut) / len) ∷ [])) (cut + len * ((point - cut) / len)) point left
cuts t len rows sizes cut total point left s e = record {
  order = size_within len point cut s.order;
  within = s.within;
  summed = e;
  cut_is = sum-append sizes (len * ((point - cut) / len)) ∙ ap (λ n. n + len * ((point - cut) / len)) s.cut_is;
}

-- what a cut leaves is no more than there was
pub left_fits : (f : CellData → ℕ) (rows : List CellData) (cut k point : ℕ) → cut ≤ k → k ≤ point
    → total_by f (take (point - k) (drop k rows)) ≤ total_by f (take (point - cut) (drop cut rows))
left_fits f rows cut k point a b =
    let w : total_by f (take (point - cut) (drop cut rows)) ≡ total_by f (take (k - cut) (drop cut rows)) + total_by f (take (point - k) (drop k rows)) = window_total f rows cut k point a b in omega arith

-- ---- whether there is a cut

not_cut : (len minimum : ℕ) (t : Ty) (rows : List CellData) (cut point total : ℕ)
    → total ≡ total_by (cell_size t) (take (point - cut) (drop cut rows)) → (point - cut < len) ⊎ (total < minimum)
    → is_cut len minimum t (drop cut rows) (point - cut) ≡ false
not_cut len minimum t rows cut point total e h = test (total_by (cell_size t) (take (point - cut) (drop cut rows))) e h
  where
    test : (real : ℕ) → total ≡ real → (point - cut < len) ⊎ (total < minimum) → (nat_le len (point - cut) && nat_le minimum real) ≡ false
    test real e h = grind (arith, nat_tests)

does_cut : (len minimum : ℕ) (t : Ty) (rows : List CellData) (cut point total : ℕ)
    → total ≡ total_by (cell_size t) (take (point - cut) (drop cut rows)) → len ≤ point - cut → minimum ≤ total
    → is_cut len minimum t (drop cut rows) (point - cut) ≡ true
does_cut len minimum t rows cut point total e g h = test (total_by (cell_size t) (take (point - cut) (drop cut rows))) e g h
  where
    test : (real : ℕ) → total ≡ real → len ≤ point - cut → minimum ≤ total → (nat_le len (point - cut) && nat_le minimum real) ≡ true
    test real e g h = grind (arith, nat_tests)

-- ---- sizes

pub no_cut : (len minimum : ℕ) (t : Ty) (rows : List CellData) (sizes : List ℕ) (cut point total : ℕ) (ps : List ℕ)
    → total ≡ total_by (cell_size t) (take (point - cut) (drop cut rows)) → (point - cut < len) ⊎ (total < minimum)
    → sizes_with len minimum t rows sizes cut ps ≡ sizes_with len minimum t rows sizes cut (point ∷ ps)
no_cut len minimum t rows sizes cut point total ps e h =
    ap (λ (b : Bool). sizes ++ (if b then cut_rows len (point - cut) ∷ block_sizes len minimum t (cut + cut_rows len (point - cut)) (drop (cut_rows len (point - cut)) (drop cut rows)) ps else block_sizes len minimum t cut (drop cut rows) ps))
    (sym (not_cut len minimum t rows cut point total e h))

pub one_cut : (len minimum : ℕ) (t : Ty) (rows : List CellData) (sizes : List ℕ) (cut point total : ℕ) (ps : List ℕ)
    → total ≡ total_by (cell_size t) (take (point - cut) (drop cut rows)) → len ≤ point - cut → minimum ≤ total
    → sizes_with len minimum t rows (sizes ++ (len * ((point - cut) / len) ∷ [])) (cut + len * ((point - cut) / len)) ps ≡ sizes_with len minimum t rows sizes cut (point ∷ ps)
one_cut len minimum t rows sizes cut point total ps e g h =
    append_assoc sizes (len * ((point - cut) / len) ∷ []) (block_sizes len minimum t (cut + len * ((point - cut) / len)) (drop (cut + len * ((point - cut) / len)) rows) ps)
    ∙ ap (λ r. sizes ++ (len * ((point - cut) / len) ∷ block_sizes len minimum t (cut + len * ((point - cut) / len)) r ps)) (drop_both cut (len * ((point - cut) / len)) rows)
    ∙ ap (λ (b : Bool). sizes ++ (if b then cut_rows len (point - cut) ∷ block_sizes len minimum t (cut + cut_rows len (point - cut)) (drop (cut_rows len (point - cut)) (drop cut rows)) ps else block_sizes len minimum t cut (drop cut rows) ps))
    (sym (does_cut len minimum t rows cut point total e g h))

-- ---- the first size that is too large

module _ (len minimum : ℕ) (t : Ty) (rows : List CellData) (cut point total : ℕ) (ps : List ℕ) (e : total ≡ total_by (cell_size t) (take (point - cut) (drop cut rows))) where
  -- by whether the size at the check point fits, and whether there is a cut
  abbrev past_by : Bool → Bool → Option ℕ
  past_by fits cuts =
      if fits
      then first_past (if cuts
      then tested_sizes len minimum t (cut + cut_rows len (point - cut)) (drop (cut_rows len (point - cut)) (drop cut rows)) ps
      else tested_sizes len minimum t cut (drop cut rows) ps)
      else Some (total_by (cell_size t) (take (point - cut) (drop cut rows)))

  fits_is : total < 2 ^ 64 → nat_lt (total_by (cell_size t) (take (point - cut) (drop cut rows))) (2 ^ 64) ≡ true
  fits_is h = below (total_by (cell_size t) (take (point - cut) (drop cut rows))) (subst (λ n. n < 2 ^ 64) e h)

  pub past_no_cut : total < 2 ^ 64 → (point - cut < len) ⊎ (total < minimum)
      → past_with len minimum t rows cut ps ≡ past_with len minimum t rows cut (point ∷ ps)
  past_no_cut f h = ap₂ (λ (b d : Bool). past_by b d) (sym (fits_is f)) (sym (not_cut len minimum t rows cut point total e h))

  pub past_one_cut : total < 2 ^ 64 → len ≤ point - cut → minimum ≤ total
      → past_with len minimum t rows (cut + len * ((point - cut) / len)) ps ≡ past_with len minimum t rows cut (point ∷ ps)
  past_one_cut f g h =
      ap (λ r. first_past (tested_sizes len minimum t (cut + len * ((point - cut) / len)) r ps)) (drop_both cut (len * ((point - cut) / len)) rows)
      ∙ ap₂ (λ (b d : Bool). past_by b d) (sym (fits_is f)) (sym (does_cut len minimum t rows cut point total e g h))

-- where it is too large itself
pub past_point : (len minimum : ℕ) (t : Ty) (rows : List CellData) (cut point all : ℕ)
    → all ≡ min (total_by (cell_size t) (take (point - cut) (drop cut rows))) (2 ^ 128 - 1) → 2 ^ 64 ≤ all
    → (ps : List ℕ) → Refuses (past_with len minimum t rows cut (point ∷ ps)) (TooLarge all)
past_point len minimum t rows cut point all e h ps =
    told_here (total_by (cell_size t) (take (point - cut) (drop cut rows)))
    (if is_cut len minimum t (drop cut rows) (point - cut)
    then tested_sizes len minimum t (cut + cut_rows len (point - cut)) (drop (cut_rows len (point - cut)) (drop cut rows)) ps
    else tested_sizes len minimum t cut (drop cut rows) ps)
    all (omega arith) e

-- ---- the check points

-- one check point fewer is to come
pub next_point : (len minimum : ℕ) (t : Ty) (rows : List CellData) (sizes more : List ℕ) (cut after seen left last : ℕ) (all : List ℕ)
    → sizes_with len minimum t rows sizes cut (steps seen len (suc left) ++ (last ∷ [])) ≡ all
    → ((ps : List ℕ) → sizes_with len minimum t rows more after ps ≡ sizes_with len minimum t rows sizes cut ((seen + len) ∷ ps))
    → sizes_with len minimum t rows more after (steps (seen + len) len left ++ (last ∷ [])) ≡ all
next_point len minimum t rows sizes more cut after seen left last all e h = h (steps (seen + len) len left ++ (last ∷ [])) ∙ e

pub next_past : (len minimum : ℕ) (t : Ty) (rows : List CellData) (cut after seen left last : ℕ) (all : Option ℕ)
    → past_with len minimum t rows cut (steps seen len (suc left) ++ (last ∷ [])) ≡ all
    → ((ps : List ℕ) → past_with len minimum t rows after ps ≡ past_with len minimum t rows cut ((seen + len) ∷ ps))
    → past_with len minimum t rows after (steps (seen + len) len left ++ (last ∷ [])) ≡ all
next_past len minimum t rows cut after seen left last all e h = h (steps (seen + len) len left ++ (last ∷ [])) ∙ e

pub next_refused : (len minimum : ℕ) (t : Ty) (rows : List CellData) (cut seen left last : ℕ) (all : Option ℕ) (error : ChunkError)
    → past_with len minimum t rows cut (steps seen len (suc left) ++ (last ∷ [])) ≡ all
    → ((ps : List ℕ) → Refuses (past_with len minimum t rows cut ((seen + len) ∷ ps)) error)
    → Refuses all error
next_refused len minimum t rows cut seen left last all error e h = subst (λ z. Refuses z error) e (h (steps (seen + len) len left ++ (last ∷ [])))
